use mathlib.Core.Path.{sym}
use native.Mathlib.Omega.{arith}
use Rattle.wiring.specs.Map.{with_closed}
use Rattle.wiring.proofs.Map.{close_past}
use Rattle.maps.proofs.Shifted.{shifted}
use Rattle.maps.proofs.close_relay.Goals as goal

pub returns-then-i-map : goal.returns-then-i-map
unfolding with_closed
returns-then-i-map c = rw (shifted c.args.relay)

pub returns-else-i-map : goal.returns-else-i-map
returns-else-i-map c = sym (close_past _ _ (omega arith))
