-- The loop's invariant: the relays of the type that were passed have a marked terminal each.
use Prim.Native.Nat.{◌*◌, ◌-◌}
use Rattle.changes.proofs.LowestFree.{Marked}
use Rattle.changes.proofs.lowest_free.Given as goal

abbrev pub invariant-loop-k : goal.invariant-loop-k
invariant-loop-k l = Marked l.size.w l.touched ((l.kind - 1) * l.size.w) l.k
