-- Over any list of cells of the frame, each once and the centre last: where every side sum is within what they hold, the rule's
-- relays carry the counts, and stand in those cells alone. Assumes nothing.
use Prim.Native.Nat.{ℕ, ◌+◌, ◌*◌, ◌≤◌, ◌<◌}
use mathlib.Core.Path.{◌≡◌, refl, ap, ◌∙◌}
use mathlib.Core.Logic.{◌⊎◌, inl, inr, ◌≢◌}
use mathlib.Core.Bool.{true, false}
use mathlib.Core.List.{List, [], ◌∷◌, map}
use native.Mathlib.Omega.{arith}
use Rattle.counting.specs.Lists.{among}
use Rattle.wiring.specs.Wiring.{Within, Carries}
use Rattle.wiring.specs.Frame.{four, frame}
use Rattle.counting.proofs.Lists.{member_here}
use Rattle.wiring.proofs.Frame.{four-within, symmetric-counts}
use Rattle.frame.specs.declared.Counts.{Counts}
use Rattle.frame.specs.Leaves.{count_list}
use Rattle.loads.specs.Table.{row}
use Rattle.loads.specs.Load.{less, pick, load}
use Rattle.loads.specs.Seat.{seating}
use Rattle.loads.proofs.Counts.{SumsWithin}
use Rattle.loads.proofs.Choice.{loaded}
use Rattle.loads.proofs.Seats.{row_known, centre_known, centre_cell}
use Rattle.cells.specs.Cells.{cell_at, size, capacity}
use Rattle.cells.specs.Serve.{spread, centre, serve}
use Rattle.cells.proofs.Serve.{serve-centre, serve_block}
use Rattle.cells.proofs.Listed.{IsCell, Listed, none, next, which}
use Rattle.cells.proofs.Joining.{Good, elsewhere, In, Among, good_in, good_none, centre_laid, join}

-- what carries counts at some positions carries the job
good_carries : {W : ℕ} {There : ℕ → Type 0} {n : Counts} {ks : List ℕ} → Good W There n ks → Carries (frame W) (count_list n) (λ k. among k ks)
good_carries {W} {There} {n} {ks} g = record { counts = λ c x y. symmetric-counts four W (λ k. among k ks) c x y ∙ g.counts c x y; apart = g.apart }

good_block : (W p q : ℕ) → IsCell W p → size W p ≡ 2 → q < 56 → Good W (In W p) (row q) (map (spread W p) (seating (row q)))
unfolding spread
good_block W p q i two h = rw two at (good_in W p (row q) (seating (row q)) i (rw two (row_known q h).cell))

good_centre : (W p : ℕ) (n : Counts) → IsCell W p → size W p ≡ 1 → SumsWithin 1 n → Good W (In W p) n (centre W p n)
good_centre W p n i one w = rw (← centre_laid W p n) (rw one at (good_in W p n (centre_cell n) i (rw one (centre_known n w))))

-- one cell, and then the others
serve_step : (W p : ℕ) (ps : List ℕ) (n : Counts) → IsCell W p → among p ps ≡ false → p + p ≢ W + 1 → size W p ≡ 2 → SumsWithin (capacity W ps + 2) n
    → ((m : Counts) → SumsWithin (capacity W ps) m → Good W (Among W ps) m (serve W ps m)) → Good W (Among W (p ∷ ps)) n (serve W (p ∷ ps) n)
unfolding load
serve_step W p ps n i new block two w rest =
    let s = loaded (capacity W ps) n w in
    rw (serve_block W p (capacity W ps) ps n block refl) (join W p ps new s.part (good_block W p (pick n (capacity W ps)) i two s.below) (rest (less n (load n (capacity W ps))) s.leaves))

serve_last : (W p : ℕ) (n : Counts) → IsCell W p → p + p ≡ W + 1 → size W p ≡ 1 → SumsWithin 1 n → Good W (Among W (p ∷ [])) n (serve W (p ∷ []) n)
serve_last W p n i odd one w = rw (serve-centre W p n odd) (elsewhere (λ q e. member_here _ p [] e) (good_centre W p n i one w))

pub serve_good : (W : ℕ) (ps : List ℕ) (n : Counts) → Listed W ps → SumsWithin (capacity W ps) n → Good W (Among W ps) n (serve W ps n)
unfolding serve capacity
serve_good W [] n none w = good_none W n w
serve_good W (p ∷ ps) n (next i new last rest) w = go (which W p i) (λ m v. serve_good W ps m rest v)
  where
    go : ((p + p ≡ W + 1) × (size W p ≡ 1)) ⊎ ((p + p ≤ W) × (p + p ≢ W + 1) × (size W p ≡ 2)) → ((m : Counts) → SumsWithin (capacity W ps) m → Good W (Among W ps) m (serve W ps m))
        → Good W (Among W (p ∷ ps)) n (serve W (p ∷ ps) n)
    go (inl e) r = let z : ps ≡ [] = last e.0 in rw z (serve_last W p n i e.0 e.1 (omega (arith, ap (capacity W) z)))
    go (inr e) r = serve_step W p ps n i new e.1 e.2 (omega (arith, e.2)) r

-- so where no side is asked for more than the cells hold, the relays carry the job, and every one is in a cell of the list
module _ (W : ℕ) (ps : List ℕ) (n : Counts) (l : Listed W ps) (w : Within four (capacity W ps) (count_list n)) where
  pub serve_carries : Carries (frame W) (count_list n) (λ k. among k (serve W ps n))
  serve_carries = good_carries (serve_good W ps n l (four-within (capacity W ps) (count_list n) w))

  pub serve_inside : (k : ℕ) → among k (serve W ps n) ≡ true → (k < 6 * W) × (among (cell_at W k) ps ≡ true)
  serve_inside = (serve_good W ps n l (four-within (capacity W ps) (count_list n) w)).inside
