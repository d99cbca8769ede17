-- No seating before s fits, and s does if the nets still to try do.
use Prim.Native.Nat.{ℕ, ◌-◌, ◌≤◌, ◌<◌}
use mathlib.Core.Path.{◌≡◌}
use mathlib.Core.Bool.{false}
use lib.ListN.{length, drop}
use Rattle.loads.specs.Seat.{seat_fits}
use Rattle.loads.proofs.Trial.{tried}
use Rattle.loads.proofs.seat.Given as goal

abbrev pub invariant-loop-j : goal.invariant-loop-j
invariant-loop-j l = (l.j ≤ l.m) × (length l.used ≡ 8) × (seat_fits l.types l.s ≡ tried l.used (drop l.j l.types) l.s)

abbrev pub decreases-loop-j : goal.decreases-loop-j
decreases-loop-j l = l.m - l.j

abbrev pub invariant-trial : goal.invariant-trial
invariant-trial l = (l.s ≤ l.top) × ((i : ℕ) → i < l.s → seat_fits l.types i ≡ false)

abbrev pub decreases-trial : goal.decreases-trial
decreases-trial l = l.top - l.s
