-- Any rule that names relays of a wiring for a job: their map is a map with those relays closed and no others, it carries the job where the
-- relays do, and closing them in a longer room leaves the rest of the room as it was. Assumes nothing.
use Prim.Native.Nat.{ℕ, ◌/◌, ◌<◌}
use mathlib.Core.Path.{◌≡◌, sym, ◌∙◌}
use mathlib.Core.Bool.{true, or-false}
use mathlib.Core.List.{List, ◌++◌}
use lib.ListN.{length, replicate, length-replicate}
use Rattle.counting.specs.Lists.{among}
use Rattle.wiring.specs.Wiring.{Wiring, Carries}
use Rattle.wiring.specs.Map.{closed_in, map_length, IsMap, MapCarries, close_all, map_of}
use Rattle.wiring.proofs.Map.{closed_zeros, zeros_map, byte_of}
use Rattle.wiring.proofs.Closing.{length-close_all, closed_close_all, close_all_front, close_all-map}
use Rattle.wiring.proofs.Change.{carries_ext}

pub rule_length : (relays : ℕ) (ks : List ℕ) → length (map_of relays ks) ≡ map_length relays
unfolding map_of
rule_length relays ks = length-close_all (replicate (map_length relays) 0) ks ∙ length-replicate {A = ℕ} (map_length relays) 0

module _ (relays : ℕ) (ks : List ℕ) (below : (k : ℕ) → among k ks ≡ true → k < relays) where
  byte_there : (k : ℕ) → among k ks ≡ true → k / 8 < length {A = ℕ} (replicate (map_length relays) 0)
  byte_there k e = byte_of relays (replicate (map_length relays) 0) (zeros_map relays) k (below k e)

  pub rule_closed : (k : ℕ) → closed_in (map_of relays ks) k ≡ among k ks
  unfolding map_of
  rule_closed k = closed_close_all ks (replicate (map_length relays) 0) k byte_there ∙ rw (closed_zeros (map_length relays) k) (or-false (among k ks))

  pub rule_map : IsMap relays (map_of relays ks)
  unfolding map_of
  rule_map = close_all-map relays ks (replicate (map_length relays) 0) (zeros_map relays) below

  pub rule_room_lem : (rest : List ℕ) → close_all (replicate (map_length relays) 0 ++ rest) ks ≡ map_of relays ks ++ rest
  unfolding map_of
  rule_room_lem rest = close_all_front (replicate (map_length relays) 0) rest ks byte_there

pub rule_carries : (w : Wiring) (n ks : List ℕ) → ((k : ℕ) → among k ks ≡ true → k < w.relays) → Carries w n (λ k. among k ks) → MapCarries w n (map_of w.relays ks)
rule_carries w n ks below c = carries_ext w n (λ k. among k ks) (closed_in (map_of w.relays ks)) (λ k h. sym (rule_closed w.relays ks below k)) c
