use Rattle.std.proofs.Common.{sym, ◌∙◌, arith}
use Rattle.map_check.proofs.Ways.{count-here, count_nowhere}
use Rattle.map_check.proofs.test_counts.Goals as goal

pub returns-then-closed_of-count_at : goal.returns-then-closed_of-count_at
returns-then-closed_of-count_at c = count-here _ _ _ _ (record {
  from = omega arith;
  upto = omega arith;
  differs = λ e. c.if-closed_of-count_at.true (c.closed_of.ensures ∙ e ∙ sym c.count_at.ensures);
  before = λ d a b. c.loop-kind.invariant d b a;
})

pub returns : goal.returns
returns c = count_nowhere _ _ _ (λ d a b. c.loop-kind.invariant d (omega arith) a)
