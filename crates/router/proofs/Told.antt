-- The codes that the router can give, and that their numbers are the table's. Assumes nothing.
use Prim.Native.Nat.{ℕ, ◌≤◌}
use mathlib.Core.Path.{◌≡◌, refl}
use mathlib.Core.List.{List, [], ◌∷◌}
use native.Mathlib.Omega.{arith}
use lib.Dec.{eqb}
use lib.ListN.{length}
use Rattle.counting.specs.Lists.{among}
use Rattle.std.specs.Prelude.{Err}
use Rattle.answers.specs.declared.Refusal.TheVariants.{Overfull}
use Rattle.answers.specs.Answer.{Answer, Done}
use Rattle.answers.specs.Table.{code_of, number_of, CodeIn}
use Rattle.answers.proofs.Done.{unless_holds}
use Rattle.wiring.specs.Frame.{four}
use Rattle.wiring.specs.Check.{overfull_sides}
use Rattle.frame.specs.declared.Counts.{Counts}
use Rattle.frame.specs.Leaves.{count_list, map_bytes}
use Rattle.frame.specs.Tests.{Served}
use Rattle.frame.specs.Told.{RoomTold}
use Rattle.frame.proofs.Grounds.{routed_holds, routed-told}
use Rattle.overfull.specs.Overfull.{overfull_test, no_sums, sums_beside}
use Rattle.overfull.specs.Told.{SidesTold}
use Rattle.overfull.proofs.Told.{overfull_told, none_beside}
use Rattle.router.specs.Router.{route_answer, routed}

-- what holds of done and of code 3 holds of the test's answer
over_holds : (P : Answer → Type 0) (W : ℕ) (n : List ℕ) → P Done → ((sides : ℕ) → P (Err (Overfull sides))) → P (overfull_test W n)
unfolding overfull_test
over_holds P W n done over = unless_holds (eqb (overfull_sides four 4 W n) 0) (Overfull (overfull_sides four 4 W n)) P (over _) done

module _ (W : ℕ) (n : Counts) (room : List ℕ) where
  pub route_codes : CodeIn (0 ∷ 1 ∷ 2 ∷ 3 ∷ []) (route_answer W n room)
  unfolding route_answer among
  route_codes =
      let P : Answer → Type 0 = CodeIn (0 ∷ 1 ∷ 2 ∷ 3 ∷ []) in
      routed_holds P refl W (λ s. refl) (map_bytes W) room (λ e. refl) _ (λ s r. over_holds P W (count_list n) refl (λ sides. refl))

  pub route_told : RoomTold W (map_bytes W) room (route_answer W n room)
  unfolding route_answer
  route_told =
      routed-told W (map_bytes W) room _ (over_holds (RoomTold W (map_bytes W) room) W (count_list n)
      (record { code1 = λ x. absurd (omega arith); code2 = λ x. absurd (omega arith) })
      (λ sides. record { code1 = λ x. absurd (omega arith); code2 = λ x. absurd (omega arith) }))

  -- code 3 comes after 1 and 2, and tells all the overfull sides and the four sums
  pub route_overfull : code_of (routed W n room).answer ≡ 3
      → Served W × (map_bytes W ≤ length room) × SidesTold W n (number_of (routed W n room).answer) (routed W n room).sums
  unfolding routed route_answer
  route_overfull =
      let P : Answer → Type 0 = λ a. code_of a ≡ 3 → Served W × (map_bytes W ≤ length room) × SidesTold W n (number_of a) (sums_beside a (count_list n)) in
      routed_holds P (λ x. absurd (omega arith)) W (λ s x. absurd (omega arith)) (map_bytes W) room (λ e x. absurd (omega arith)) _
      (λ s r x. (s, r, overfull_told W n x))

  pub route_no_sums : (code_of (routed W n room).answer ≡ 3 → ⊥) → (routed W n room).sums ≡ no_sums
  unfolding routed
  route_no_sums h = none_beside (route_answer W n room) (count_list n) h
