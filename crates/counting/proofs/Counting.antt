-- Laws of `count` and `sum_to`: sorting a count by kinds, and the pigeonhole. Assumes nothing.
use Prim.Native.Nat.{ℕ, zero, suc, ◌+◌, ◌*◌, ◌≤◌, ◌<◌}
use mathlib.Core.Path.{◌≡◌, refl, sym, ap, ◌∙◌}
use mathlib.Core.Logic.{◌≢◌}
use mathlib.Core.Bool.{Bool, true, false, ◌&&◌}
use native.Mathlib.Omega.{arith}
use native.Mathlib.Decide.{ℕ_discrete}
use native.Mathlib.Numerals.{add-one}
use lib.Dec.{eqb}
use borrow.Author.Tests.{eqb-true, eq-eqb, ne_eqb}
use Rattle.counting.specs.Count.{one, count, sum_to}
use Rattle.counting.proofs.Bools.{fails, and_parts}

pub count_ext : (m : ℕ) (f g : ℕ → Bool) → ((k : ℕ) → k < m → f k ≡ g k) → count m f ≡ count m g
unfolding count
count_ext zero f g h = refl
count_ext (suc m) f g h = rw (h m (omega arith), count_ext m f g (λ k p. h k (omega arith)))

pub count_none : (m : ℕ) (f : ℕ → Bool) → ((k : ℕ) → k < m → f k ≡ false) → count m f ≡ 0
unfolding count
count_none zero f h = refl
count_none (suc m) f h = rw (h m (omega arith)) (omega (arith, count_none m f (λ k p. h k (omega arith))))

-- counting one number after the other, as a loop does
pub count_passed : (k n : ℕ) (f : ℕ → Bool) → f k ≡ true → n ≡ count k f → n + 1 ≡ count (k + 1) f
unfolding count
count_passed k n f e h = rw (add-one k, e) (omega arith)

pub count_failed : (k n : ℕ) (f : ℕ → Bool) → f k ≡ false → n ≡ count k f → n ≡ count (k + 1) f
unfolding count
count_failed k n f e h = rw (add-one k, e) (omega arith)

-- at most all pass
pub count_le : (m : ℕ) (f : ℕ → Bool) → count m f ≤ m
unfolding count
count_le zero f = omega arith
count_le (suc m) f = go (f m) (count_le m f)
  where
    go : (b : Bool) → count m f ≤ m → one b + count m f ≤ suc m
    go true r = omega arith
    go false r = omega arith

-- where at most one passes, at most one is counted
pub count-one : (m : ℕ) (f : ℕ → Bool) → ((j k : ℕ) → j < m → k < m → f j ≡ true → f k ≡ true → j ≡ k) → count m f ≤ 1
unfolding count
count-one zero f h = omega arith
count-one (suc m) f h = go (f m) refl (count-one m f (λ j k p q. h j k (omega arith) (omega arith)))
  where
    go : (b : Bool) → f m ≡ b → count m f ≤ 1 → one (f m) + count m f ≤ 1
    go true e r = rw e (omega (arith, count_none m f (λ k p. fails (f k) (λ x. omega (arith, h k m (omega arith) (omega arith) x e)))))
    go false e r = rw e (omega arith)

-- the first a numbers, then the next b
pub count_split : (a b : ℕ) (f : ℕ → Bool) → count (a + b) f ≡ count a f + count b (λ i. f (a + i))
unfolding count
count_split a zero f = let e : a + 0 ≡ a = omega arith in rw e (omega arith)
count_split a (suc b) f = let e : a + suc b ≡ suc (a + b) = omega arith in rw e (omega (arith, count_split a b f))

-- one test more passes: one more is counted
pub count_more : (m k : ℕ) (f g : ℕ → Bool) → k < m → f k ≡ false → g k ≡ true → ((j : ℕ) → j ≢ k → g j ≡ f j) → count m g ≡ suc (count m f)
unfolding count
count_more zero k f g l a b h = absurd (omega arith)
count_more (suc m) k f g l a b h = go (ℕ_discrete m k) (λ p. count_more m k f g p a b h)
  where
    go : Dec (m ≡ k) → (k < m → count m g ≡ suc (count m f)) → one (g m) + count m g ≡ suc (one (f m) + count m f)
    go (yes e) r = rw (e, a, b) (omega (arith, rw e at (count_ext m g f (λ j p. h j (omega arith)))))
    go (no e) r = rw (h m e) (omega (arith, r (omega arith)))

pub sum_to_ext : (m : ℕ) (f g : ℕ → ℕ) → ((c : ℕ) → 1 ≤ c → c ≤ m → f c ≡ g c) → sum_to m f ≡ sum_to m g
unfolding sum_to
sum_to_ext zero f g h = refl
sum_to_ext (suc m) f g h = omega (arith, h (suc m) (omega arith) (omega arith), sum_to_ext m f g (λ c p q. h c p (omega arith)))

pub sum_to_zero : (m : ℕ) (f : ℕ → ℕ) → ((c : ℕ) → 1 ≤ c → c ≤ m → f c ≡ 0) → sum_to m f ≡ 0
unfolding sum_to
sum_to_zero zero f h = refl
sum_to_zero (suc m) f h = omega (arith, h (suc m) (omega arith) (omega arith), sum_to_zero m f (λ c p q. h c p (omega arith)))

pub sum_to_add : (m : ℕ) (f g : ℕ → ℕ) → sum_to m (λ c. f c + g c) ≡ sum_to m f + sum_to m g
unfolding sum_to
sum_to_add zero f g = refl
sum_to_add (suc m) f g = omega (arith, sum_to_add m f g)

pub sum_to_le : (m a : ℕ) (f : ℕ → ℕ) → ((c : ℕ) → 1 ≤ c → c ≤ m → f c ≤ a) → sum_to m f ≤ m * a
unfolding sum_to
sum_to_le zero a f h = omega arith
sum_to_le (suc m) a f h = omega (arith, h (suc m) (omega arith) (omega arith), sum_to_le m a f (λ c p q. h c p (omega arith)))

-- a sum with one term that is not 0
pub sum_to_only : (m a v : ℕ) (f : ℕ → ℕ) → 1 ≤ a → a ≤ m → f a ≡ v → ((c : ℕ) → 1 ≤ c → c ≢ a → f c ≡ 0) → sum_to m f ≡ v
unfolding sum_to
sum_to_only zero a v f p q e h = absurd (omega arith)
sum_to_only (suc m) a v f p q e h = go (ℕ_discrete (suc m) a) (λ r. sum_to_only m a v f p r e h)
  where
    go : Dec (suc m ≡ a) → (a ≤ m → sum_to m f ≡ v) → sum_to m f + f (suc m) ≡ v
    go (yes z) r = rw z (omega (arith, e, sum_to_zero m f (λ c x y. h c x (omega arith))))
    go (no z) r = omega (arith, h (suc m) (omega arith) z, r (omega arith))

-- what passes is sorted by a kind from 1 to m: the counts of the kinds add up to the count
pub sort_out : (N m : ℕ) (g : ℕ → Bool) (kind : ℕ → ℕ) → ((k : ℕ) → k < N → g k ≡ true → (1 ≤ kind k) × (kind k ≤ m)) → count N g ≡ sum_to m (λ c. count N (λ k. g k && eqb (kind k) c))
unfolding count
sort_out zero m g kind h = sym (sum_to_zero m (λ c. 0) (λ c p q. refl))
sort_out (suc N) m g kind h =
    go (g N) refl (sort_out N m g kind (λ k p. h k (omega arith)))
    ∙ sym (sum_to_add m (λ c. one (g N && eqb (kind N) c)) (λ c. count N (λ k. g k && eqb (kind k) c)))
  where
    rest : ℕ
    rest = sum_to m (λ c. count N (λ k. g k && eqb (kind k) c))

    go : (b : Bool) → g N ≡ b → count N g ≡ rest → one (g N) + count N g ≡ sum_to m (λ c. one (g N && eqb (kind N) c)) + rest
    go true e r =
        let b = h N (omega arith) e in
        rw e (omega (arith, sum_to_only m (kind N) 1 (λ c. one (eqb (kind N) c)) b.0 b.1 (ap one (eq-eqb (kind N) (kind N) refl)) (λ c a z. ap one (ne_eqb (kind N) c (λ x. z (sym x))))))
    go false e r = rw e (omega (arith, sum_to_zero m (λ c. 0) (λ c p q. refl)))

-- the pigeonhole: what passes has places from 1 to m, and no two have one place
pub pigeonhole : (N m : ℕ) (g : ℕ → Bool) (place : ℕ → ℕ)
    → ((k : ℕ) → k < N → g k ≡ true → (1 ≤ place k) × (place k ≤ m))
    → ((j k : ℕ) → j < N → k < N → g j ≡ true → g k ≡ true → place j ≡ place k → j ≡ k)
    → count N g ≤ m
pigeonhole N m g place h once =
    let each : (p : ℕ) → 1 ≤ p → p ≤ m → count N (λ k. g k && eqb (place k) p) ≤ 1 = λ p a b. count-one N (λ k. g k && eqb (place k) p) (λ j k x y u v.
    let uj = and_parts (g j) (eqb (place j) p) u in
    let vk = and_parts (g k) (eqb (place k) p) v in
    once j k x y uj.0 vk.0 (eqb-true _ _ uj.1 ∙ sym (eqb-true _ _ vk.1))) in
    omega (arith, sort_out N m g place h, sum_to_le m 1 (λ p. count N (λ k. g k && eqb (place k) p)) each)
