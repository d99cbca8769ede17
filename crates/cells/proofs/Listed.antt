-- Lists of cells of a frame: each once, and the centre last; and such a list with one cell left out. Assumes nothing.
use Prim.Native.Nat.{ℕ, zero, suc, ◌+◌, ◌*◌, ◌/◌, ◌≤◌, ◌<◌}
use mathlib.Core.Path.{◌≡◌, refl, sym, ap, ◌∙◌}
use mathlib.Core.Logic.{◌⊎◌, inl, inr, ◌≢◌}
use mathlib.Core.Bool.{true, false}
use mathlib.Core.List.{List, [], ◌∷◌}
use native.Mathlib.Omega.{arith}
use native.Mathlib.Decide.{ℕ_discrete}
use borrow.Author.Tests.{eq-eqb, ne_eqb}
use Rattle.counting.specs.Lists.{among}
use Rattle.counting.proofs.Bools.{clear, fails}
use Rattle.counting.proofs.Lists.{member_cases, member_here, member_there, no_member}
use Rattle.wiring.proofs.Relays.{place_in_lem}
use Rattle.cells.specs.Cells.{cell_at, size, capacity, run, cells, without}
use Rattle.cells.proofs.Serve.{size-centre, size_block, holds_all}

-- p is the low position of a cell of the frame of size W
pub record IsCell (W p : ℕ) : Type 0 where
  pub low : 1 ≤ p
  pub half : p + p ≤ W + 1

pub data Listed (W : ℕ) : List ℕ → Type 0 where
  none : Listed W []
  next : {p : ℕ} {ps : List ℕ} → IsCell W p → among p ps ≡ false → (p + p ≡ W + 1 → ps ≡ []) → Listed W ps → Listed W (p ∷ ps)

-- the centre or a block
pub which : (W p : ℕ) → IsCell W p → ((p + p ≡ W + 1) × (size W p ≡ 1)) ⊎ ((p + p ≤ W) × (p + p ≢ W + 1) × (size W p ≡ 2))
which W p i = go (ℕ_discrete (p + p) (W + 1))
  where
    go : Dec (p + p ≡ W + 1) → ((p + p ≡ W + 1) × (size W p ≡ 1)) ⊎ ((p + p ≤ W) × (p + p ≢ W + 1) × (size W p ≡ 2))
    go (yes e) = inl (e, size-centre W p e)
    go (no e) = inr (omega arith, e, size_block W p e)

-- every relay of the frame is in a cell
pub cell_at_lem : (W k : ℕ) → k < 6 * W → IsCell W (cell_at W k)
cell_at_lem W k h = let p = place_in_lem W 6 k h in record { low = omega arith; half = omega arith }

run_member : (p m q : ℕ) → among q (run p m) ≡ true → (p ≤ q) × (q < p + m)
unfolding run
run_member p zero q e = absurd (no_member q e)
run_member p (suc m) q e = elim (member_cases q p (run (suc p) m) e) [ inl z ↦ omega arith | inr z ↦ omega (arith, run_member (suc p) m q z) ]

member_run : (p m q : ℕ) → p ≤ q → q < p + m → among q (run p m) ≡ true
unfolding run
member_run p zero q a b = absurd (omega arith)
member_run p (suc m) q a b = elim (ℕ_discrete q p) [
  | yes z ↦ member_here q p (run (suc p) m) z
  | no z ↦ member_there q p (run (suc p) m) (member_run (suc p) m q (omega arith) (omega arith))
]

listed-run : (W p m : ℕ) → 1 ≤ p → p + m ≤ (W + 1) / 2 + 1 → Listed W (run p m)
unfolding run
listed-run W p zero a b = none
listed-run W p (suc m) a b =
    next (record { low = a; half = omega arith }) (fails (among p (run (suc p) m)) (λ e. omega (arith, run_member (suc p) m p e))) (λ e. last e m b)
    (listed-run W (suc p) m (omega arith) (omega arith))
  where
    last : p + p ≡ W + 1 → (m : ℕ) → p + suc m ≤ (W + 1) / 2 + 1 → run (suc p) m ≡ []
    last e zero b = refl
    last e (suc m) b = absurd (omega arith)

pub listed_all : (W : ℕ) → Listed W (cells W)
unfolding cells
listed_all W = listed-run W 1 ((W + 1) / 2) (omega arith) (omega arith)

pub cell_there : (W p : ℕ) → IsCell W p → among p (cells W) ≡ true
unfolding cells
cell_there W p i = member_run 1 ((W + 1) / 2) p i.low (omega arith)

-- the others
pub without-same : (d p : ℕ) (ps : List ℕ) → p ≡ d → without d (p ∷ ps) ≡ without d ps
unfolding without
without-same d p ps e = rw (eq-eqb p d e)

pub without_other : (d p : ℕ) (ps : List ℕ) → p ≢ d → without d (p ∷ ps) ≡ p ∷ without d ps
unfolding without
without_other d p ps e = rw (ne_eqb p d e)

pub without_member : (d q : ℕ) (ps : List ℕ) → among q (without d ps) ≡ true → (among q ps ≡ true) × (q ≢ d)
unfolding without
without_member d q [] e = absurd (no_member q e)
without_member d q (p ∷ ps) e = elim (ℕ_discrete p d) [
  | yes z ↦ let m = without_member d q ps (rw (without-same d p ps z) at e) in (member_there q p ps m.0, m.1)
  | no z ↦ elim (member_cases q p (without d ps) (rw (without_other d p ps z) at e)) [
    | inl y ↦ (member_here q p ps y, λ x. z (sym y ∙ x))
    | inr y ↦ let m = without_member d q ps y in (member_there q p ps m.0, m.1)
  ]
]

pub without_absent : (d : ℕ) (ps : List ℕ) → among d ps ≡ false → without d ps ≡ ps
unfolding without
without_absent d [] e = refl
without_absent d (p ∷ ps) e =
    without_other d p ps (λ z. clear (among d (p ∷ ps)) (member_here d p ps (sym z)) e)
    ∙ ap (λ (qs : List ℕ). p ∷ qs) (without_absent d ps (fails (among d ps) (λ x. clear (among d (p ∷ ps)) (member_there d p ps x) e)))

pub listed-without : (W d : ℕ) (ps : List ℕ) → Listed W ps → Listed W (without d ps)
unfolding without
listed-without W d [] none = none
listed-without W d (p ∷ ps) (next i new last rest) = elim (ℕ_discrete p d) [
  | yes z ↦ rw (without-same d p ps z) (listed-without W d ps rest)
  | no z ↦ rw (without_other d p ps z) (next i (fails (among p (without d ps)) (λ e. clear (among p ps) (without_member d p ps e).0 new)) (λ e. ap (without d) (last e)) (listed-without W d ps rest))
]

-- and what they hold
pub holds_without : (W d : ℕ) (ps : List ℕ) → Listed W ps → among d ps ≡ true → capacity W ps ≡ size W d + capacity W (without d ps)
unfolding capacity without
holds_without W d [] none e = absurd (no_member d e)
holds_without W d (p ∷ ps) (next i new last rest) e = elim (ℕ_discrete p d) [
  | yes z ↦ rw (without-same d p ps z, without_absent d ps (rw z at new), z)
  | no z ↦ rw (without_other d p ps z) (omega (arith, holds_without W d ps rest (later z (member_cases d p ps e))))
]
  where
    later : p ≢ d → (d ≡ p) ⊎ (among d ps ≡ true) → among d ps ≡ true
    later z (inl y) = absurd (z (sym y))
    later z (inr y) = y

pub without_holds : (W d : ℕ) (ps : List ℕ) → capacity W (without d ps) ≤ capacity W ps
unfolding capacity without
without_holds W d [] = omega arith
without_holds W d (p ∷ ps) = elim (ℕ_discrete p d) [
  | yes z ↦ rw (without-same d p ps z) (omega (arith, without_holds W d ps))
  | no z ↦ rw (without_other d p ps z) (omega (arith, without_holds W d ps))
]

pub others_hold : (W d : ℕ) → IsCell W d → W ≡ size W d + capacity W (without d (cells W))
others_hold W d i = sym (holds_all W) ∙ holds_without W d (cells W) (listed_all W) (cell_there W d i)

-- no cell has low position 0
pub no_zero : (W : ℕ) → among 0 (cells W) ≡ false
unfolding cells
no_zero W = fails (among 0 (run 1 ((W + 1) / 2))) (λ e. omega (arith, run_member 1 ((W + 1) / 2) 0 e))
