-- The comparison is that of what is still to compare.
use Rattle.std.proofs.Common.{◌≡◌, drop}
use Rattle.run_examples.specs.Compare.{stands}
use Rattle.run_examples.proofs.stands_in.Given as goal

abbrev pub invariant-loop-i : goal.invariant-loop-i
invariant-loop-i l = stands l.room l.map ≡ stands (drop l.i l.room) (drop l.i l.map)
