use mathlib.Core.Path.{sym, ◌∙◌}
use native.Mathlib.Omega.{arith}
use Rattle.counting.proofs.Search.{first_is, none_first}
use Rattle.loads.specs.Load.{pick}
use Rattle.loads.proofs.rows.LoadTable.next_row.Goals as goal

pub returns-then-row_fits : goal.returns-then-row_fits
unfolding pick
returns-then-row_fits c = sym (first_is _ 56 0 _ (omega arith) (omega arith) (sym c.row_fits.ensures ∙ c.if-row_fits.true) (λ j a h. c.loop-q.invariant j h))

pub returns : goal.returns
unfolding pick
returns c = sym (none_first _ 56 0 (λ j a h. c.loop-q.invariant j (omega arith)) ∙ omega arith)
