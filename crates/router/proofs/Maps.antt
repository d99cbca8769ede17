-- The relays that the choice rule closes carry the job, and so does their map. Assumes nothing.
use Prim.Native.Nat.{ℕ, ◌*◌, ◌<◌}
use mathlib.Core.Path.{◌≡◌}
use mathlib.Core.Bool.{true}
use lib.ListN.{length}
use Rattle.counting.specs.Lists.{among}
use Rattle.wiring.specs.Wiring.{Within, Carries}
use Rattle.wiring.specs.Frame.{four, frame}
use Rattle.wiring.specs.Map.{IsMap, MapCarries}
use Rattle.wiring.proofs.Rule.{rule_length, rule_map, rule_carries}
use Rattle.frame.specs.declared.Counts.{Counts}
use Rattle.frame.specs.Leaves.{count_list, map_bytes}
use Rattle.cells.specs.Cells.{cells}
use Rattle.cells.proofs.Serve.{holds_all}
use Rattle.cells.proofs.Listed.{listed_all}
use Rattle.cells.proofs.Carry.{serve_carries, serve_inside}
use Rattle.router.specs.Route.{relays_for, map_for}

pub map_length_lem : (W : ℕ) (n : Counts) → length (map_for W n) ≡ map_bytes W
unfolding map_for
map_length_lem W n = rule_length (frame W).relays (relays_for W n)

-- where no side is asked for more than W nets
module _ (W : ℕ) (n : Counts) (within : Within four W (count_list n)) where
  pub relays-below : (k : ℕ) → among k (relays_for W n) ≡ true → k < 6 * W
  unfolding relays_for
  relays-below k e = (serve_inside W (cells W) n (listed_all W) (rw (holds_all W) within) k e).0

  pub relays_carry : Carries (frame W) (count_list n) (λ k. among k (relays_for W n))
  unfolding relays_for
  relays_carry = serve_carries W (cells W) n (listed_all W) (rw (holds_all W) within)

  pub map_is : IsMap (frame W).relays (map_for W n)
  unfolding map_for
  map_is = rule_map (frame W).relays (relays_for W n) relays-below

  pub map_carries : MapCarries (frame W) (count_list n) (map_for W n)
  unfolding map_for
  map_carries = rule_carries (frame W) (count_list n) (relays_for W n) relays-below relays_carry
