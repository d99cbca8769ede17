-- A turn of the loop serves one block or passes the one left out, and q is the row that is seated.
use mathlib.Core.Path.{◌≡◌}
use Rattle.wiring.specs.Map.{close_all}
use Rattle.cells.specs.Cells.{cells, without}
use Rattle.cells.specs.Serve.{serve}
use Rattle.router.proofs.Serving.{Turn}
use Rattle.router.proofs.close_cells.Given as goal

abbrev pub invariant-loop-p : goal.invariant-loop-p
invariant-loop-p l =
    Turn l.size.w l.skip l.r l.p l.n l.seated l.room (close_all l.initial.room (serve l.size.w (without l.skip (cells l.size.w)) l.initial.n)) × (l.q ≡ l.seated.q)
