-- A router for any wiring and any rule. It makes a test, asks for room for a map, tests the job, and then closes the relays that its rule
-- names in the room, whose front it has cleared. What its answers tell is in answers, proofs/Lent.antt (`routed`), what is known of its map in
-- wiring, proofs/Rule.antt; here is what it leaves in the room. Assumes nothing.
use Prim.Native.Nat.{ℕ, ◌≤◌, ◌<◌}
use mathlib.Core.Path.{◌≡◌, ap, ◌∙◌}
use mathlib.Core.Bool.{true}
use mathlib.Core.List.{List, ◌++◌}
use lib.ListN.{length, take, drop, replicate}
use lib.Seq.{take_at}
use Rattle.answers.specs.Answer.{Answer, Done}
use Rattle.answers.specs.Lent.{lent_after}
use Rattle.answers.proofs.Lent.{Outcome, out_done, routed, all_done}
use Rattle.counting.specs.Lists.{among}
use Rattle.wiring.specs.Wiring.{Wiring}
use Rattle.wiring.specs.Map.{map_length, close_all, map_of}
use Rattle.wiring.proofs.Rule.{rule_length, rule_room_lem}

-- the router of the wiring w whose rule names the relays ks; `test` and `job` are what the test before the room's and the one after it answer
module _ (w : Wiring) (ks : List ℕ) (test job : Answer) (room : List ℕ) where
  abbrev pub rule_answer : Answer
  rule_answer = routed test (map_length w.relays) job (map_of w.relays ks) room

  abbrev pub rule_room : List ℕ
  rule_room = lent_after rule_answer (map_of w.relays ks) room

  -- the way out past all tests: the front was cleared, and the relays were closed
  pub rule_out : {needed : ℕ} {cleared after : List ℕ} → ((k : ℕ) → among k ks ≡ true → k < w.relays)
      → test ≡ Done → needed ≡ map_length w.relays → needed ≤ length room → job ≡ Done
      → cleared ≡ replicate needed 0 ++ drop needed room → after ≡ close_all cleared ks → Outcome rule_answer (map_of w.relays ks) room Done after
  rule_out below t m h j e f =
      out_done rule_answer (map_of w.relays ks) room (all_done test (map_length w.relays) job (map_of w.relays ks) room t (rw (← m) h) j)
      (rw (f, e, m, rule_length w.relays ks) (rule_room_lem w.relays ks below (drop (map_length w.relays) room)))

  -- the room where the router says done: the map, and past it the room as it was
  pub rule_after : rule_answer ≡ Done → rule_room ≡ map_of w.relays ks ++ drop (map_length w.relays) room
  rule_after e = rw (e, rule_length w.relays ks)

  pub rule_front : rule_answer ≡ Done → take (map_length w.relays) rule_room ≡ map_of w.relays ks
  rule_front e = ap (take (map_length w.relays)) (rule_after e) ∙ take_at (map_of w.relays ks) _ (map_length w.relays) (rule_length w.relays ks)
