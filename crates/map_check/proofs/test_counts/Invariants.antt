-- The loop's invariant: the types before this one have as many closed relays as nets.
use Prim.Native.Nat.{ℕ, ◌≤◌, ◌<◌}
use mathlib.Core.Path.{◌≡◌}
use Rattle.wiring.specs.Wiring.{nets, closed_of}
use Rattle.wiring.specs.Frame.{frame}
use Rattle.wiring.specs.Map.{closed_in}
use Rattle.frame.specs.Leaves.{count_list}
use Rattle.map_check.proofs.test_counts.Given as goal

abbrev pub invariant-loop-kind : goal.invariant-loop-kind
invariant-loop-kind l = (c : ℕ) → c < l.kind → 1 ≤ c → closed_of (frame l.job.size) (closed_in l.map) c ≡ nets (count_list l.job.counts) c
