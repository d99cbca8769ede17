-- A type from 1 to 6 has its sides.
use Rattle.std.proofs.Common.{◌≤◌, sym, ◌∙◌, arith, rules}
use Rattle.loads.proofs.Trial.{net_ends, sides_in, sides_some}
use Rattle.loads.proofs.net_ends.Goals as goal
use Rattle.loads.proofs.net_ends.Goals.{In-Some}

pub returns-in_default : goal.returns-in_default
returns-in_default c = let some = sides_some c.args.kind c.requires.0 c.requires.1 in absurd (search rules)

sides : (c : In-Some) → let s = c.in-Some in (1 ≤ s.earlier) × (s.earlier ≤ 4) × (1 ≤ s.later) × (s.later ≤ 4)
sides c = sides_in c.args.kind _ _ c.requires.0 c.requires.1 (sym c.type_sides.ensures ∙ c.in-Some.is)

pub overflow_sub-result : goal.overflow_sub-result
overflow_sub-result c = (sides c).0

pub overflow_mul-result : goal.overflow_mul-result
overflow_mul-result c = omega (arith, sides c)

pub overflow_add-result : goal.overflow_add-result
overflow_add-result c = omega (arith, sides c)

pub overflow_sub-result-2 : goal.overflow_sub-result-2
overflow_sub-result-2 c = (sides c).2

pub overflow_mul-result-2 : goal.overflow_mul-result-2
overflow_mul-result-2 c = omega (arith, sides c)

pub overflow_add-result-2 : goal.overflow_add-result-2
overflow_add-result-2 c = omega (arith, sides c)

pub returns : goal.returns
returns c = net_ends c.args.kind _ _ _ c.requires.0 c.requires.1 c.requires.2 (sym c.type_sides.ensures ∙ c.in-Some.is)
