use mathlib.Core.Path.{sym, ◌∙◌}
use Rattle.changes.proofs.LowestFree.{free-here, free_nowhere}
use Rattle.changes.proofs.lowest_free.Goals as goal

pub returns-then-not-relay_marked : goal.returns-then-not-relay_marked
returns-then-not-relay_marked c =
    free-here _ _ _ _ c.args.size.in_a_word c.requires.0 c.requires.1 c.of-touched.ensures _ c.loop-k.auto.k c.loop-k-test.true c.loop-k.invariant
    (sym c.relay_marked.ensures ∙ c.if-not-relay_marked.true)

pub returns : goal.returns
returns c = free_nowhere _ _ _ _ c.args.size.in_a_word c.requires.0 c.requires.1 c.of-touched.ensures _ c.loop-k-test.false c.loop-k.invariant
