-- Counting with `count`: what passes only at given places, and what passes one of two tests. Assumes nothing.
use Prim.Native.Nat.{ℕ, zero, suc, ◌+◌, ◌<◌}
use mathlib.Core.Path.{◌≡◌, refl, sym, ap, ◌∙◌}
use mathlib.Core.Logic.{◌≢◌}
use mathlib.Core.Bool.{Bool, true, false, ◌&&◌, ◌||◌, not}
use native.Mathlib.Omega.{arith}
use native.Mathlib.Nat.{zero-add}
use native.Mathlib.Decide.{ℕ_discrete}
use lib.Dec.{eqb}
use borrow.Author.Tests.{eq-eqb, ne_eqb, eqb-false, not-true}
use Rattle.counting.specs.Count.{one, count}
use Rattle.counting.proofs.Bools.{fails, and_parts}
use Rattle.counting.proofs.Counting.{count_ext, count_none, count_more}

-- the test, but for one number
abbrev pub but_for : (ℕ → Bool) → ℕ → ℕ → Bool
but_for f k j = not (eqb j k) && f j

-- one number and the others
pub count_but : (m k : ℕ) (f : ℕ → Bool) → k < m → count m f ≡ one (f k) + count m (but_for f k)
count_but m k f l = go (f k) refl
  where
    go : (b : Bool) → f k ≡ b → count m f ≡ one b + count m (but_for f k)
    go true e = omega (arith, count_more m k (but_for f k) f l (rw (eq-eqb k k refl)) e (λ j d. rw (ne_eqb j k d)))
    go false e = count_ext m f (but_for f k) (λ j h. elim (ℕ_discrete j k) [ yes z ↦ rw (z, eq-eqb k k refl) e | no z ↦ rw (ne_eqb j k z) ]) ∙ sym (zero-add _)

-- what passes only at s different places is counted there
pub count-placed : (s W : ℕ) (f : ℕ → Bool) (place : ℕ → ℕ)
    → ((h : ℕ) → h < s → place h < W)
    → ((g h : ℕ) → g < s → h < s → place g ≡ place h → g ≡ h)
    → ((i : ℕ) → i < W → f i ≡ true → (h : ℕ) × (h < s) × (place h ≡ i))
    → count W f ≡ count s (λ h. f (place h))
unfolding count
count-placed zero W f place inside once cover = count_none W f (λ i l. fails (f i) (λ e. omega (arith, (cover i l e).1)))
count-placed (suc s) W f place inside once cover =
    let rest = count-placed s W (but_for f (place s)) place (λ h l. inside h (omega arith)) (λ g h p q. once g h (omega arith) (omega arith)) others in
    let same = count_ext s (λ h. but_for f (place s) (place h)) (λ h. f (place h)) (λ h l. rw (ne_eqb (place h) (place s) (λ e. omega (arith, once h s (omega arith) (omega arith) e)))) in
    omega (arith, count_but W (place s) f (inside s (omega arith)))
  where
    others : (i : ℕ) → i < W → but_for f (place s) i ≡ true → (h : ℕ) × (h < s) × (place h ≡ i)
    others i l t =
        let p = and_parts (not (eqb i (place s))) (f i) t in
        let c = cover i l p.1 in
        let apart : c.0 ≢ s = λ e. eqb-false i (place s) (not-true _ p.0) (sym c.2 ∙ ap place e) in
        (c.0, omega (arith, c.1), c.2)

-- what passes one of two tests that never pass together
one_or : (a b : Bool) → (a ≡ true → b ≡ true → ⊥) → one (a || b) ≡ one a + one b
one_or true true h = absurd (h refl refl)
one_or true false h = refl
one_or false true h = refl
one_or false false h = refl

pub count_or : (m : ℕ) (f g : ℕ → Bool) → ((k : ℕ) → k < m → f k ≡ true → g k ≡ true → ⊥) → count m (λ k. f k || g k) ≡ count m f + count m g
unfolding count
count_or zero f g h = refl
count_or (suc m) f g h = omega (arith, one_or (f m) (g m) (h m (omega arith)), count_or m f g (λ k l. h k (omega arith)))
