-- Every starred bench example holds: one computed test over the whole list, carried to each example. Assumes nothing.
use Prim.Native.Nat.{ℕ, zero, suc, ◌<◌}
use mathlib.Core.Path.{◌≡◌, refl}
use mathlib.Core.Bool.{Bool, true, false, ◌&&◌}
use mathlib.Core.List.{List, [], ◌∷◌}
use native.Mathlib.Omega.{arith}
use lib.Dec.{eqb}
use lib.ListN.{length, get_or}
use borrow.Author.Tests.{eqb-true}
use Rattle.counting.specs.Count.{first_from, any_below, count, sum_to}
use Rattle.counting.specs.Lists.{among, distinct}
use Rattle.wiring.specs.Frame.{type_in, place_in}
use Rattle.wiring.specs.Terminals.{touched}
use Rattle.wiring.specs.Map.{closed_in, with_closed, close_all, map_of}
use Rattle.wiring.specs.Check.{overfull_sides, spare_set, shares, clashes, clash_at, wrong_type}
use Rattle.counting.proofs.Bools.{and_parts, clear}
use Rattle.answers.specs.Table.{code_of, number_of}
use Rattle.frame.specs.Tests.{size_test}
use Rattle.overfull.specs.Overfull.{overfull_test, sums_beside}
use Rattle.loads.specs.Table.{table, row}
use Rattle.loads.specs.Load.{within, at_most, fits, pick, load}
use Rattle.loads.specs.Seat.{net_list, seats, seat_fits, seat_of, seating}
use Rattle.cells.specs.Cells.{size, capacity, run, cells}
use Rattle.cells.specs.Serve.{spread, centre, takes, seated_in, serve}
use Rattle.router.specs.Route.{relays_for, map_for}
use Rattle.router.specs.Router.{route_answer, route_room, routed}
use Rattle.map_check.specs.Check.{form_test, shared_test, map_test, counts_test, closed_test, check_map}
use Rattle.examples.specs.Starred.{Example, Holds, answer_of, sums_of, lent_of, starred}

-- the same bytes
unfoldable same : List ℕ → List ℕ → Bool
same [] [] = true
same [] (y ∷ ys) = false
same (x ∷ xs) [] = false
same (x ∷ xs) (y ∷ ys) = eqb x y && same xs ys

same_eq : (xs ys : List ℕ) → same xs ys ≡ true → xs ≡ ys
unfolding same
same_eq [] [] e = refl
same_eq [] (y ∷ ys) e = absurd (clear false e refl)
same_eq (x ∷ xs) [] e = absurd (clear false e refl)
same_eq (x ∷ xs) (y ∷ ys) e =
    let both = and_parts (eqb x y) (same xs ys) e in
    let head : x ≡ y = eqb-true x y both.0 in
    let tail : xs ≡ ys = same_eq xs ys both.1 in
    cc

-- the example's code, number, sums and lent bytes are what they must be
abbrev right_code : Example → Bool
right_code e = eqb (code_of (answer_of e.call e.size e.job)) e.code

abbrev right_number : Example → Bool
right_number e = eqb (number_of (answer_of e.call e.size e.job)) e.number

abbrev right_sums : Example → Bool
right_sums e = same (sums_of e.call e.size e.job) e.sums

abbrev right_lent : Example → Bool
right_lent e = same (lent_of e.call e.size e.job) e.afterwards

unfoldable holds : Example → Bool
holds e = right_code e && (right_number e && (right_sums e && right_lent e))

holds_is : (e : Example) → holds e ≡ true → Holds e
unfolding holds
holds_is e h =
    let a = and_parts (right_code e) (right_number e && (right_sums e && right_lent e)) h in
    let b = and_parts (right_number e) (right_sums e && right_lent e) a.1 in
    let c = and_parts (right_sums e) (right_lent e) b.1 in
    record { code = eqb-true _ _ a.0; number = eqb-true _ _ b.0; sums = same_eq _ _ c.0; afterwards = same_eq _ _ c.1 }

unfoldable all_hold : List Example → Bool
all_hold [] = true
all_hold (e ∷ es) = holds e && all_hold es

all_hold_lem : (es : List Example) → all_hold es ≡ true → (i : ℕ) → i < length es → (other : Example) → Holds (get_or es i other)
unfolding all_hold
all_hold_lem [] t i h other = absurd (omega arith)
all_hold_lem (e ∷ es) t zero h other = holds_is e (and_parts (holds e) (all_hold es) t).0
all_hold_lem (e ∷ es) t (suc i) h other = all_hold_lem es (and_parts (holds e) (all_hold es) t).1 i (omega arith) other

-- the computed test
passes : all_hold starred ≡ true
unfolding all_hold holds same starred route_room routed route_answer map_for map_of relays_for serve seated_in takes cells run capacity size centre spread seating seat_of seat_fits touched seats net_list load pick fits at_most within row table overfull_test overfull_sides sums_beside size_test check_map closed_test counts_test map_test shared_test form_test wrong_type clash_at clashes shares spare_set close_all with_closed closed_in place_in type_in distinct among any_below first_from sum_to count
passes = refl

-- The single statement: each example of the list, counted from 0, holds. `other` stands for what would be past the end.
pub starred_hold : (i : ℕ) → i < length starred → (other : Example) → Holds (get_or starred i other)
starred_hold i h other = all_hold_lem starred passes i h other
