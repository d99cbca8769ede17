-- One cell after the other, and what the cells hold. Assumes nothing.
use Prim.Native.Nat.{ℕ, zero, suc, ◌+◌, ◌/◌}
use mathlib.Core.Path.{◌≡◌, refl}
use mathlib.Core.Logic.{◌≢◌}
use mathlib.Core.List.{List, [], ◌∷◌, ◌++◌, append-nil, map}
use native.Mathlib.Omega.{arith}
use borrow.Author.Tests.{eq-eqb, ne_eqb}
use Rattle.frame.specs.declared.Counts.{Counts}
use Rattle.loads.specs.Load.{less, load}
use Rattle.loads.specs.Seat.{seating}
use Rattle.cells.specs.Cells.{size, capacity, run, cells}
use Rattle.cells.specs.Serve.{spread, centre, takes, seated_in, serve}

-- the centre, and a block
pub size-centre : (W p : ℕ) → p + p ≡ W + 1 → size W p ≡ 1
unfolding size
size-centre W p e = rw (eq-eqb (p + p) (W + 1) e)

pub size_block : (W p : ℕ) → p + p ≢ W + 1 → size W p ≡ 2
unfolding size
size_block W p e = rw (ne_eqb (p + p) (W + 1) e)

pub serve-centre : (W p : ℕ) (n : Counts) → p + p ≡ W + 1 → serve W (p ∷ []) n ≡ centre W p n
unfolding serve takes seated_in
serve-centre W p n e = rw (eq-eqb (p + p) (W + 1) e) (append-nil (centre W p n))

pub serve_block : (W p k : ℕ) (ps : List ℕ) (n : Counts) → p + p ≢ W + 1 → capacity W ps ≡ k
    → serve W (p ∷ ps) n ≡ map (spread W p) (seating (load n k)) ++ serve W ps (less n (load n k))
unfolding serve takes seated_in
serve_block W p k ps n e h = rw (ne_eqb (p + p) (W + 1) e, h)

-- r positions a side from p on are the cells from p on
half : (k : ℕ) → (suc (suc k) + 1) / 2 ≡ suc ((k + 1) / 2)
half k = omega arith

pub holds_run : (W r p : ℕ) → W + 2 ≡ r + (p + p) → capacity W (run p ((r + 1) / 2)) ≡ r
unfolding capacity run
holds_run W zero p e = refl
holds_run W (suc zero) p e = omega (arith, size-centre W p (omega arith))
holds_run W (suc (suc k)) p e = rw (half k) (omega (arith, size_block W p (omega arith), holds_run W k (suc p) (omega arith)))

-- all cells hold the size
pub holds_all : (W : ℕ) → capacity W (cells W) ≡ W
unfolding cells
holds_all W = holds_run W W 1 (omega arith)
