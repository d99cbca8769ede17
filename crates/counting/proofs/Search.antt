-- Laws of `first_from`, the first number that passes a test, and of `any_below`, that some number does: every search of the house is one
-- of these. Assumes nothing.
use Prim.Native.Nat.{ℕ, zero, suc, ◌+◌, ◌≤◌, ◌<◌}
use mathlib.Core.Path.{◌≡◌, refl}
use mathlib.Core.Logic.{◌⊎◌, inl, inr}
use mathlib.Core.Bool.{Bool, true, false, ◌&&◌, ◌||◌}
use native.Mathlib.Omega.{arith}
use native.Mathlib.Decide.{ℕ_discrete, dec_lt}
use Rattle.counting.specs.Count.{first_from, any_below}
use Rattle.counting.proofs.Bools.{clear, and_parts, or_cases, or_left, or_right, or_middle}

pub first-here : (ok : ℕ → Bool) (k i : ℕ) → ok i ≡ true → first_from i (suc k) ok ≡ i
unfolding first_from
first-here ok k i e = rw (e, first_from)

pub first_next : (ok : ℕ → Bool) (k i : ℕ) → ok i ≡ false → first_from i (suc k) ok ≡ first_from (suc i) k ok
unfolding first_from
first_next ok k i e = rw (e, first_from)

-- where the test passes at j, the first is at most j and passes
pub record Found (ok : ℕ → Bool) (i j r : ℕ) : Type 0 where
  pub from : i ≤ r
  pub upto : r ≤ j
  pub passes : ok r ≡ true
  pub none : (m : ℕ) → i ≤ m → m < r → ok m ≡ false

pub found : (ok : ℕ → Bool) (k i j : ℕ) → i ≤ j → j < i + k → ok j ≡ true → Found ok i j (first_from i k ok)
found ok zero i j a b t = absurd (omega arith)
found ok (suc k) i j a b t = go (ok i) refl (ℕ_discrete i j) (λ p. found ok k (suc i) j p (omega arith) t)
  where
    later : ok i ≡ false → Found ok (suc i) j (first_from (suc i) k ok) → Found ok i j (first_from i (suc k) ok)
    later e f = rw (first_next ok k i e) (record { from = omega arith; upto = f.upto; passes = f.passes; none = λ m p q. among m (ℕ_discrete i m) p q })
      where
        among : (m : ℕ) → Dec (i ≡ m) → i ≤ m → m < first_from (suc i) k ok → ok m ≡ false
        among m (yes z) p q = rw (← z) e
        among m (no z) p q = f.none m (omega arith) q

    go : (o : Bool) → ok i ≡ o → Dec (i ≡ j) → (suc i ≤ j → Found ok (suc i) j (first_from (suc i) k ok)) → Found ok i j (first_from i (suc k) ok)
    go true e d f = rw (first-here ok k i e) (record { from = omega arith; upto = a; passes = e; none = λ m p q. absurd (omega arith) })
    go false e (yes z) f = let w : ◌≡◌ {A = ℕ} 0 1 = cc in absurd (omega arith)
    go false e (no z) f = later e (f (omega arith))

-- the law for a loop that tries one number after the other: r passes, and none before it does
pub first_is : (ok : ℕ → Bool) (k i r : ℕ) → i ≤ r → r < i + k → ok r ≡ true → ((m : ℕ) → i ≤ m → m < r → ok m ≡ false) → first_from i k ok ≡ r
first_is ok k i r a b t h = go (found ok k i r a b t) (dec_lt (first_from i k ok) r)
  where
    go : Found ok i r (first_from i k ok) → Dec (first_from i k ok < r) → first_from i k ok ≡ r
    go f (yes p) = let p1 = f.passes in let p2 = h (first_from i k ok) f.from p in let w : ◌≡◌ {A = ℕ} 0 1 = cc in absurd (omega arith)
    go f (no p) = omega arith

-- where the search stops before its end, the test passes
pub first_passes : (ok : ℕ → Bool) (k i : ℕ) → first_from i k ok < i + k → ok (first_from i k ok) ≡ true
unfolding first_from
first_passes ok zero i h = absurd (omega arith)
first_passes ok (suc k) i h = go (ok i) refl h (λ p. first_passes ok k (suc i) p)
  where
    go : (o : Bool) → ok i ≡ o → first_from i (suc k) ok < i + suc k → (first_from (suc i) k ok < suc i + k → ok (first_from (suc i) k ok) ≡ true) → ok (first_from i (suc k) ok) ≡ true
    go true e q f = rw (first-here ok k i e) e
    go false e q f = rw (first_next ok k i e) (f (omega (arith, first_next ok k i e)))

-- the search runs to its end exactly where no test passes
pub first_none : (ok : ℕ → Bool) (k i : ℕ) → first_from i k ok ≡ i + k → (m : ℕ) → i ≤ m → m < i + k → ok m ≡ false
first_none ok k i e m a b = go (ok m) refl
  where
    go : (o : Bool) → ok m ≡ o → ok m ≡ false
    go true p = absurd (omega (arith, (found ok k i m a b p).upto))
    go false p = p

pub none_first : (ok : ℕ → Bool) (k i : ℕ) → ((m : ℕ) → i ≤ m → m < i + k → ok m ≡ false) → first_from i k ok ≡ i + k
unfolding first_from
none_first ok zero i h = omega arith
none_first ok (suc k) i h = omega (arith, first_next ok k i (h i (omega arith) (omega arith)), none_first ok k (suc i) (λ m p q. h m (omega arith) (omega arith)))

-- a search stays in its range: what is known where it stops before the end, and where it does not
first_in : (ok : ℕ → Bool) (k i : ℕ) → (i ≤ first_from i k ok) × (first_from i k ok ≤ i + k)
unfolding first_from
first_in ok zero i = omega arith
first_in ok (suc k) i = go (ok i) refl (first_in ok k (suc i))
  where
    go : (o : Bool) → ok i ≡ o → (suc i ≤ first_from (suc i) k ok) × (first_from (suc i) k ok ≤ suc i + k) → (i ≤ first_from i (suc k) ok) × (first_from i (suc k) ok ≤ i + suc k)
    go true e r = omega (arith, first-here ok k i e)
    go false e r = omega (arith, first_next ok k i e)

pub first_stops : (ok : ℕ → Bool) (k i : ℕ) → first_from i k ok < i + k → Found ok i (first_from i k ok) (first_from i k ok)
first_stops ok k i h = found ok k i (first_from i k ok) (first_in ok k i).0 h (first_passes ok k i h)

pub first_ends : (ok : ℕ → Bool) (k i : ℕ) → i + k ≤ first_from i k ok → (m : ℕ) → i ≤ m → m < i + k → ok m ≡ false
first_ends ok k i h = first_none ok k i (omega (arith, first_in ok k i))

-- tests that agree over the range find the same
pub first_ext : (f g : ℕ → Bool) (k i : ℕ) → ((m : ℕ) → i ≤ m → m < i + k → f m ≡ g m) → first_from i k f ≡ first_from i k g
unfolding first_from
first_ext f g zero i h = refl
first_ext f g (suc k) i h = rw (h i (omega arith) (omega arith), first_ext f g k (suc i) (λ m a b. h m (omega arith) (omega arith)))

-- some number below m passes
pub any_of : (m : ℕ) (f : ℕ → Bool) (j : ℕ) → j < m → f j ≡ true → any_below m f ≡ true
unfolding any_below
any_of zero f j h e = absurd (omega arith)
any_of (suc m) f j h e = go (dec_lt j m) (λ p. any_of m f j p e)
  where
    go : Dec (j < m) → (j < m → any_below m f ≡ true) → (f m || any_below m f) ≡ true
    go (yes p) r = or_right (f m) (any_below m f) (r p)
    go (no p) r = let q : j ≡ m = omega arith in or_left (f m) (any_below m f) (rw (← q) e)

pub any_is : (m : ℕ) (f : ℕ → Bool) → any_below m f ≡ true → (j : ℕ) × (j < m) × (f j ≡ true)
unfolding any_below
any_is zero f e = absurd (clear false e refl)
any_is (suc m) f e = go (or_cases (f m) (any_below m f) e) (λ p. any_is m f p)
  where
    go : (f m ≡ true) ⊎ (any_below m f ≡ true) → (any_below m f ≡ true → (j : ℕ) × (j < m) × (f j ≡ true)) → (j : ℕ) × (j < suc m) × (f j ≡ true)
    go (inl p) r = (m, omega arith, p)
    go (inr p) r = let s = r p in (s.0, omega (arith, s.1), s.2)

pub any_or : (m : ℕ) (f g : ℕ → Bool) → any_below m (λ j. f j || g j) ≡ (any_below m f || any_below m g)
unfolding any_below
any_or zero f g = refl
any_or (suc m) f g = rw (any_or m f g) (or_middle (f m) (g m) (any_below m f) (any_below m g))

pub any_ext : (m : ℕ) (f g : ℕ → Bool) → ((k : ℕ) → f k ≡ g k) → any_below m f ≡ any_below m g
unfolding any_below
any_ext zero f g h = refl
any_ext (suc m) f g h = rw (h m, any_ext m f g h)

-- a computed test over the numbers below k, carried to each
abbrev pub all_below : ℕ → (ℕ → Bool) → Bool
all_below zero f = true
all_below (suc k) f = f k && all_below k f

pub all_at : (k : ℕ) (f : ℕ → Bool) → all_below k f ≡ true → (i : ℕ) → i < k → f i ≡ true
all_at zero f e i h = absurd (omega arith)
all_at (suc k) f e i h = go (ℕ_discrete i k) (and_parts (f k) (all_below k f) e).0 (λ p. all_at k f (and_parts (f k) (all_below k f) e).1 i p)
  where
    go : Dec (i ≡ k) → f k ≡ true → (i < k → f i ≡ true) → f i ≡ true
    go (yes z) t r = rw z t
    go (no z) t r = r (omega arith)
