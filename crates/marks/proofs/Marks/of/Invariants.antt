-- The loop's invariant: the words are the marks of the relays passed.
use mathlib.Core.Path.{◌≡◌}
use Rattle.wiring.specs.Frame.{frame}
use Rattle.wiring.specs.Map.{closed_in}
use Rattle.marks.specs.Marks.{marks_of}
use Rattle.marks.proofs.Marks.of.Given as goal

abbrev pub invariant-loop-k : goal.invariant-loop-k
invariant-loop-k l = l.marks ≡ marks_of (frame l.size.w) (closed_in l.map) l.k
