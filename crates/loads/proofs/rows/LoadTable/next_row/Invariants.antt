-- No row before q fits, from the first that is tried on.
use Prim.Native.Nat.{ℕ, ◌<◌}
use mathlib.Core.Path.{◌≡◌}
use mathlib.Core.Bool.{false}
use Rattle.loads.specs.Load.{fits}
use Rattle.loads.proofs.rows.LoadTable.next_row.Given as goal

abbrev pub invariant-loop-q : goal.invariant-loop-q
invariant-loop-q l = (j : ℕ) → j < l.q → fits l.n l.k j ≡ false
