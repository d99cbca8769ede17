use mathlib.Core.Path.{sym}
use native.Mathlib.Omega.{arith}
use lib.Bits.{and_mask}
use Rattle.wiring.specs.Map.{closed_in}
use Rattle.wiring.proofs.Map.{closed_past}
use Rattle.maps.proofs.is_closed.Goals as goal

pub returns-then-map-i : goal.returns-then-map-i
returns-then-map-i c = sym (closed_past _ _ (omega arith))

pub returns : goal.returns
unfolding closed_in
returns c = rw (and_mask _ 1)
