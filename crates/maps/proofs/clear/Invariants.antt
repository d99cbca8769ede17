-- The first i bytes are 0, the others as they were.
use mathlib.Core.Path.{◌≡◌}
use mathlib.Core.List.{◌++◌}
use lib.ListN.{length, drop, replicate}
use Rattle.maps.proofs.clear.Given as goal

abbrev pub invariant-loop-i : goal.invariant-loop-i
invariant-loop-i l = (l.room ≡ replicate l.i 0 ++ drop l.i l.initial.room) × (length l.room ≡ length l.initial.room)
