-- The arms are the scope's four formulas.
use mathlib.Core.Path.{sym}
use native.Mathlib.Omega.{arith}
use Rattle.wiring.specs.Frame.{four}
use Rattle.wiring.proofs.Frame.{four-sums, four_rows, no_side}
use Rattle.frame.specs.Leaves.{count_list}
use Rattle.frame.proofs.side_sum.Goals as goal

pub returns-in-1 : goal.returns-in-1
returns-in-1 c = simp c.in-1.is (omega (arith, c.sum_of.ensures, four-sums (count_list c.args.counts)))

pub returns-in-2 : goal.returns-in-2
returns-in-2 c = simp c.in-2.is (omega (arith, c.sum_of-in-2.ensures, four-sums (count_list c.args.counts)))

pub returns-in-3 : goal.returns-in-3
returns-in-3 c = simp c.in-3.is (omega (arith, c.sum_of-in-3.ensures, four-sums (count_list c.args.counts)))

pub returns-in-4 : goal.returns-in-4
returns-in-4 c = simp c.in-4.is (omega (arith, c.sum_of-in-4.ensures, four-sums (count_list c.args.counts)))

pub returns-in_default : goal.returns-in_default
returns-in_default c = sym (no_side 4 four four_rows (count_list c.args.counts) c.args.side (λ a b. omega (arith, c.in_default)))
