-- What is still to do: the nets from j on.
use mathlib.Core.Path.{◌≡◌}
use Rattle.wiring.specs.Map.{close_all}
use Rattle.router.proofs.Blocks.{to_close}
use Rattle.router.proofs.Cell.close_block.Given as goal

abbrev pub invariant-loop-j : goal.invariant-loop-j
invariant-loop-j l =
    close_all l.room (to_close l.self.size.w l.self.p l.types l.seated.seating l.j) ≡ close_all l.initial.room (to_close l.self.size.w l.self.p l.types l.seated.seating 0)
