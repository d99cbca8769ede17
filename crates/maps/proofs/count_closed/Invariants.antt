-- The loop's invariant: the closed ones of the relays passed are counted.
use Prim.Native.Nat.{◌+◌, ◌-◌, ◌≤◌}
use mathlib.Core.Path.{◌≡◌}
use Rattle.counting.specs.Count.{count}
use Rattle.wiring.specs.Map.{closed_in}
use Rattle.maps.proofs.count_closed.Given as goal

abbrev pub invariant-loop-k : goal.invariant-loop-k
invariant-loop-k l = (l.k - l.from ≤ l.end - l.from) × (l.closed ≡ count (l.k - l.from) (λ i. closed_in l.map (l.from + i)))
