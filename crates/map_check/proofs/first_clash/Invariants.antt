-- The loop's invariant: the words are the marks of the relays passed, none of which clashes.
use Prim.Native.Nat.{ℕ, ◌<◌}
use mathlib.Core.Path.{◌≡◌}
use mathlib.Core.Bool.{false}
use Rattle.wiring.specs.Frame.{frame}
use Rattle.wiring.specs.Map.{closed_in}
use Rattle.wiring.specs.Check.{clashes}
use Rattle.marks.specs.Marks.{marks_of}
use Rattle.map_check.proofs.first_clash.Given as goal

abbrev pub invariant-loop-k : goal.invariant-loop-k
invariant-loop-k l = (l.touched ≡ marks_of (frame l.size.w) (closed_in l.map) l.k) × ((j : ℕ) → j < l.k → clashes (frame l.size.w) (closed_in l.map) j ≡ false)
