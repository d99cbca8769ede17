-- What is known where the router says done, where it does, and that its contract allows one outcome alone. Assumes nothing.
use Prim.Native.Nat.{ℕ, ◌≤◌}
use mathlib.Core.Path.{◌≡◌, sym, ◌∙◌}
use mathlib.Core.Bool.{true}
use mathlib.Core.List.{List, ◌++◌}
use lib.ListN.{length, take, drop}
use Rattle.answers.specs.Answer.{Done}
use Rattle.answers.specs.Lent.{is_done}
use Rattle.answers.proofs.Done.{done_is, is_done_lem}
use Rattle.answers.proofs.Lent.{all_done, done_all}
use Rattle.wiring.specs.Wiring.{Within}
use Rattle.wiring.specs.Frame.{four, frame}
use Rattle.frame.specs.declared.Counts.{Counts}
use Rattle.frame.specs.Leaves.{count_list, map_bytes}
use Rattle.frame.specs.Tests.{Served, size_test}
use Rattle.frame.proofs.Tests.{size_served, size_is}
use Rattle.overfull.specs.Overfull.{overfull_test}
use Rattle.overfull.proofs.Overfull.{within-overfull, overfull-within}
use Rattle.router.specs.Route.{relays_for, map_for}
use Rattle.router.specs.declared.Routed.{Routed}
use Rattle.router.specs.Router.{route_answer, route_room, routed}
use Rattle.router.proofs.AnyRule.{rule_after, rule_front}

-- what is known where the router says done
pub record RouteDone (W : ℕ) (n : Counts) (room : List ℕ) : Type 0 where
  pub served : Served W
  pub fits : map_bytes W ≤ length room
  pub within : Within four W (count_list n)
  pub after : route_room W n room ≡ map_for W n ++ drop (map_bytes W) room
  pub front : take (map_bytes W) (route_room W n room) ≡ map_for W n

module _ (W : ℕ) (n : Counts) (room : List ℕ) where
  pub route_done : is_done (route_answer W n room) ≡ true → RouteDone W n room
  unfolding route_answer route_room map_for
  route_done e =
      let d = done_all (size_test W) (map_bytes W) (overfull_test W (count_list n)) (map_for W n) room (done_is _ e) in
      record {
        served = size_is W (is_done_lem _ d.0);
        fits = d.1;
        within = overfull-within W (count_list n) (is_done_lem _ d.2);
        after = rule_after (frame W) (relays_for W n) (size_test W) (overfull_test W (count_list n)) room (done_is _ e);
        front = rule_front (frame W) (relays_for W n) (size_test W) (overfull_test W (count_list n)) room (done_is _ e);
      }

  pub answers_done : 1 ≤ W → W ≤ 64 → map_bytes W ≤ length room → Within four W (count_list n) → route_answer W n room ≡ Done
  unfolding route_answer
  answers_done a b h w =
      all_done (size_test W) (map_bytes W) (overfull_test W (count_list n)) (map_for W n) room (sym (size_served W a b)) h (sym (within-overfull W (count_list n) w))

  -- an outcome that the router's contract allows; two of them are equal
  abbrev pub Allowed : Routed → List ℕ → Type 0
  Allowed given after = (given ≡ routed W n room) × (after ≡ route_room W n room)

  pub same_outcome : {a b : Routed} {r s : List ℕ} → Allowed a r → Allowed b s → (a ≡ b) × (r ≡ s)
  same_outcome x y = (x.0 ∙ sym y.0, x.1 ∙ sym y.1)
