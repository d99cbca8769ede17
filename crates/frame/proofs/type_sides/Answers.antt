-- The arms are the rows of the table `four`.
use native.Mathlib.Omega.{arith}
use Rattle.frame.proofs.Leaves.{sides_at, sides_none}
use Rattle.frame.proofs.type_sides.Goals as goal

pub returns-in-1 : goal.returns-in-1
returns-in-1 c = simp c.in-1.is (sides_at 1 (omega arith) (omega arith))

pub returns-in-2 : goal.returns-in-2
returns-in-2 c = simp c.in-2.is (sides_at 2 (omega arith) (omega arith))

pub returns-in-3 : goal.returns-in-3
returns-in-3 c = simp c.in-3.is (sides_at 3 (omega arith) (omega arith))

pub returns-in-4 : goal.returns-in-4
returns-in-4 c = simp c.in-4.is (sides_at 4 (omega arith) (omega arith))

pub returns-in-5 : goal.returns-in-5
returns-in-5 c = simp c.in-5.is (sides_at 5 (omega arith) (omega arith))

pub returns-in-6 : goal.returns-in-6
returns-in-6 c = simp c.in-6.is (sides_at 6 (omega arith) (omega arith))

pub returns-in_default : goal.returns-in_default
returns-in_default c = sides_none c.args.kind (λ a b. omega (arith, c.in_default))
