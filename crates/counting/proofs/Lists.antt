-- Laws of lists of numbers: what is among them, also after a function was applied; ranges; one element put, and zeros. Assumes nothing.
use Prim.Native.Nat.{ℕ, zero, suc, ◌≤◌, ◌<◌}
use mathlib.Core.Path.{◌≡◌, refl, sym, ap}
use mathlib.Core.Logic.{◌⊎◌, inl, inr}
use mathlib.Core.Bool.{true, false, ◌||◌, or_assoc, cond}
use mathlib.Core.List.{List, [], ◌∷◌, ◌++◌, map}
use native.Mathlib.Omega.{arith}
use native.Mathlib.Decide.{ℕ_discrete}
use lib.Dec.{eqb, leb}
use lib.ListN.{length, get_or, set, replicate}
use lib.Seq.{get_or-set_same, get_or-set_other}
use borrow.Author.Tests.{eqb-true, eq-eqb, ne_eqb, leb-true, le-leb}
use Rattle.counting.specs.Lists.{among, between, all_between}
use Rattle.counting.proofs.Bools.{clear, fails, and_both, and_parts, or_cases, or_left, or_right}

pub member_cases : (k j : ℕ) (js : List ℕ) → among k (j ∷ js) ≡ true → (k ≡ j) ⊎ (among k js ≡ true)
unfolding among
member_cases k j js e = go (or_cases (eqb k j) (among k js) e)
  where
    go : (eqb k j ≡ true) ⊎ (among k js ≡ true) → (k ≡ j) ⊎ (among k js ≡ true)
    go (inl p) = inl (eqb-true k j p)
    go (inr p) = inr p

pub member_here : (k j : ℕ) (js : List ℕ) → k ≡ j → among k (j ∷ js) ≡ true
unfolding among
member_here k j js e = or_left (eqb k j) (among k js) (eq-eqb k j e)

pub member_there : (k j : ℕ) (js : List ℕ) → among k js ≡ true → among k (j ∷ js) ≡ true
unfolding among
member_there k j js e = or_right (eqb k j) (among k js) e

pub among-append : (k : ℕ) (js ks : List ℕ) → among k (js ++ ks) ≡ (among k js || among k ks)
unfolding among
among-append k [] ks = refl
among-append k (j ∷ js) ks = rw (among-append k js ks) (sym (or_assoc (eqb k j) (among k js) (among k ks)))

pub no_member : (k : ℕ) → among k [] ≡ true → ⊥
unfolding among
no_member k e = clear false e refl

pub member_map : (f : ℕ → ℕ) (k : ℕ) (js : List ℕ) → among k (map f js) ≡ true → (j : ℕ) × (among j js ≡ true) × (f j ≡ k)
member_map f k [] e = absurd (no_member k e)
member_map f k (j ∷ js) e = go (member_cases k (f j) (map f js) e) (λ p. member_map f k js p)
  where
    go : (k ≡ f j) ⊎ (among k (map f js) ≡ true) → (among k (map f js) ≡ true → (i : ℕ) × (among i js ≡ true) × (f i ≡ k)) → (i : ℕ) × (among i (j ∷ js) ≡ true) × (f i ≡ k)
    go (inl p) r = (j, member_here j j js refl, sym p)
    go (inr p) r = let m = r p in (m.0, member_there m.0 j js m.1, m.2)

pub map_member : (f : ℕ → ℕ) (j : ℕ) (js : List ℕ) → among j js ≡ true → among (f j) (map f js) ≡ true
map_member f j [] e = absurd (no_member j e)
map_member f j (i ∷ js) e = go (member_cases j i js e) (λ p. map_member f j js p)
  where
    go : (j ≡ i) ⊎ (among j js ≡ true) → (among j js ≡ true → among (f j) (map f js) ≡ true) → among (f j) (f i ∷ map f js) ≡ true
    go (inl p) r = member_here (f j) (f i) (map f js) (ap f p)
    go (inr p) r = member_there (f j) (f i) (map f js) (r p)

-- a range, as a test and as a fact
pub between_is : (low high k : ℕ) → between low high k ≡ true → (low ≤ k) × (k ≤ high)
between_is low high k e = let p = and_parts (leb low k) (leb k high) e in (leb-true low k p.0, leb-true k high p.1)

pub is_between : (low high k : ℕ) → low ≤ k → k ≤ high → between low high k ≡ true
is_between low high k a b = and_both (leb low k) (leb k high) (le-leb low k a) (le-leb k high b)

pub not-between : (low high k : ℕ) → (low ≤ k → k ≤ high → ⊥) → between low high k ≡ false
not-between low high k h = fails (between low high k) (λ e. let p = between_is low high k e in h p.0 p.1)

pub between_first : (low high k : ℕ) (ks : List ℕ) → all_between low high (k ∷ ks) ≡ true → (low ≤ k) × (k ≤ high) × (all_between low high ks ≡ true)
unfolding all_between
between_first low high k ks e =
    let a = and_parts (between low high k) (all_between low high ks) e in
    let b = between_is low high k a.0 in
    (b.0, b.1, a.1)

pub between_at : (low high i : ℕ) (ks : List ℕ) → all_between low high ks ≡ true → i < length ks → (low ≤ get_or ks i 0) × (get_or ks i 0 ≤ high)
between_at low high i [] a h = absurd (omega arith)
between_at low high zero (k ∷ ks) a h = let p = between_first low high k ks a in (p.0, p.1)
between_at low high (suc i) (k ∷ ks) a h = between_at low high i ks (between_first low high k ks a).2 (omega arith)

pub between_member : (low high k : ℕ) (ks : List ℕ) → all_between low high ks ≡ true → among k ks ≡ true → (low ≤ k) × (k ≤ high)
between_member low high k [] a e = absurd (no_member k e)
between_member low high k (j ∷ ks) a e =
    let p = between_first low high j ks a in
    elim (member_cases k j ks e) [ inl z ↦ omega (arith, p) | inr z ↦ between_member low high k ks p.2 z ]

-- element i put: there it stands, and the others stay
pub get_d_set : {A : Type 0} (l : List A) (i j : ℕ) (v d : A) → i < length l → get_or (set l i v) j d ≡ cond (eqb j i) v (get_or l j d)
get_d_set l i j v d h = go (ℕ_discrete j i)
  where
    go : Dec (j ≡ i) → get_or (set l i v) j d ≡ cond (eqb j i) v (get_or l j d)
    go (yes e) = rw (e, eq-eqb i i refl) (get_or-set_same l i v d h)
    go (no n) = rw (ne_eqb j i n) (get_or-set_other l i j v d n)

pub get_or_alike : {A : Type 0} (m i : ℕ) (v : A) → get_or (replicate m v) i v ≡ v
get_or_alike zero i v = refl
get_or_alike (suc m) zero v = refl
get_or_alike (suc m) (suc i) v = get_or_alike m i v
