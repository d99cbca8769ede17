-- The choice rule (scope, "The choice rule", 1, 3 and 4) over a list of cells that are served in this order. Assumes nothing.
use Rattle.std.specs.Prelude.{ℕ, ◌+◌, ◌-◌, cond, List, [], ◌∷◌, ◌++◌, map, eqb}
use Rattle.wiring.specs.Frame.{relay, type_in, place_in}
use Rattle.frame.specs.declared.Counts.{Counts}
use Rattle.loads.specs.Load.{less, load}
use Rattle.loads.specs.Seat.{net_list, seating}
use Rattle.cells.specs.Cells.{is_centre, capacity}

-- rule 3: position 1 of a block, low, is position p of the frame; position 2, high, is position W + 1 - p
abbrev pub low_high : ℕ → ℕ → ℕ → ℕ
low_high W p position = cond (eqb position 1) p (W + 1 - p)

-- relay k of that block, as a relay of the frame
unfoldable pub spread : ℕ → ℕ → ℕ → ℕ
spread W p k = relay W (type_in 2 k) (low_high W p (place_in 2 k))

-- rule 4: the centre has each net by the relay of its type at position p, which is (W + 1) / 2
unfoldable pub centre : ℕ → ℕ → Counts → List ℕ
centre W p n = map (λ c. relay W c p) (net_list n)

-- What cell p takes of the remaining counts n, with k positions a side in the cells after it. Rule 1: with r positions a side not yet
-- served, a block takes the first row that is at most n in every type and leaves every side sum at most r - 2; a block has two of
-- these positions, so r - 2 is k. Rule 4: the centre takes what remains.
unfoldable pub takes : ℕ → ℕ → ℕ → Counts → Counts
takes W p k n = cond (is_centre W p) n (load n k)

-- the relays of cell p with what it takes: rule 4 in the centre, rule 3 in a block
unfoldable pub seated_in : ℕ → ℕ → Counts → List ℕ
seated_in W p l = cond (is_centre W p) (centre W p l) (map (spread W p) (seating l))

-- the first cell takes its part, and the cells after it are served with what is left of the counts
unfoldable pub serve : ℕ → List ℕ → Counts → List ℕ
serve W [] n = []
serve W (p ∷ ps) n =
    let l = takes W p (capacity W ps) n in
    seated_in W p l ++ serve W ps (less n l)
