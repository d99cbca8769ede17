-- The loop's invariant: no bit from the first spare one to k is set.
use Prim.Native.Nat.{ℕ, ◌*◌, ◌≤◌, ◌<◌}
use mathlib.Core.Path.{◌≡◌}
use mathlib.Core.Bool.{false}
use Rattle.wiring.specs.Map.{closed_in}
use Rattle.map_check.proofs.test_form.Given as goal

abbrev pub invariant-loop-k : goal.invariant-loop-k
invariant-loop-k l = (j : ℕ) → j < l.k → 6 * l.size ≤ j → closed_in l.map j ≡ false
