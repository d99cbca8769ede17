-- Laws of relay numbers: (c, p) to number and back, the ranges of the types, and the closed relays of one type. Assumes nothing.
use Prim.Native.Nat.{ℕ, zero, suc, ◌+◌, ◌*◌, ◌-◌, ◌/◌, ◌%◌, ◌≤◌, ◌<◌}
use mathlib.Core.Path.{◌≡◌, sym, ap, ◌∙◌}
use mathlib.Core.Bool.{Bool, ◌&&◌, and-false, and-true}
use native.Mathlib.Omega.{arith}
use native.Mathlib.Nat.{mod-lt, div-eq_of_lt-le, div-add-mod', div-lt_iff_lt-mul, mul-le-mul_right}
use native.Mathlib.Decide.{ℕ_discrete, dec_lt}
use lib.Dec.{eqb}
use borrow.Author.Tests.{eq-eqb, ne_eqb}
use Rattle.counting.specs.Count.{count}
use Rattle.wiring.specs.Frame.{relay, type_in, place_in}
use Rattle.counting.proofs.Counting.{count_ext, count_none, count_split}

-- the decision over ranges: type c has the numbers from (c - 1) * W to c * W - 1
pub type_range : (W c k : ℕ) → 1 ≤ c → (c - 1) * W ≤ k → k < c * W → type_in W k ≡ c
unfolding type_in
type_range W c k h a b =
    let e : c ≡ c - 1 + 1 = omega arith in
    let q : k / W ≡ c - 1 = div-eq_of_lt-le W a (rw e at b) in
    omega arith

pub place_range : (W c k : ℕ) → 1 ≤ c → (c - 1) * W ≤ k → k < c * W → place_in W k ≡ k - (c - 1) * W + 1
unfolding type_in place_in
place_range W c k h a b =
    let q : k / W ≡ c - 1 = omega (arith, type_range W c k h a b) in
    omega (arith, div-add-mod' k W, ap (λ (x : ℕ). x * W) q)

-- the numbers of type c, of m types, stand together and are all there
pub type_block : (W m c : ℕ) → 1 ≤ c → c ≤ m → ((c - 1) * W + W ≡ c * W) × (c * W ≤ m * W)
type_block W m c a b = let s : c - 1 + 1 ≡ c = omega arith in (omega (arith, ap (λ (x : ℕ). x * W) s), mul-le-mul_right W b)

-- relay (c, p) is below c * W, so below m * W for c up to m
pub relay_lt : (W m c p : ℕ) → 1 ≤ c → c ≤ m → 1 ≤ p → p ≤ W → relay W c p < m * W
relay_lt W m c p a b x y =
    let s : c - 1 + 1 ≡ c = omega arith in
    omega (arith, mul-le-mul_right W b, ap (λ (z : ℕ). z * W) s)

pub type_relay : (W c p : ℕ) → 1 ≤ c → 1 ≤ p → p ≤ W → type_in W (relay W c p) ≡ c
type_relay W c p h x y = type_range W c (relay W c p) h (omega arith) (relay_lt W c c p h (omega arith) x y)

pub place_relay : (W c p : ℕ) → 1 ≤ c → 1 ≤ p → p ≤ W → place_in W (relay W c p) ≡ p
place_relay W c p h x y = omega (arith, place_range W c (relay W c p) h (omega arith) (relay_lt W c c p h (omega arith) x y))

-- and the other way: every number below m * W is a relay's
pub type_in_lem : (W m k : ℕ) → k < m * W → (1 ≤ type_in W k) × (type_in W k ≤ m)
unfolding type_in
type_in_lem W m k h = let q : k / W < m = go (dec_lt 0 W) in omega arith
  where
    go : Dec (0 < W) → k / W < m
    go (yes p) = (div-lt_iff_lt-mul p).1 h
    go (no p) = let z : W ≡ 0 = omega arith in absurd (omega (arith, rw z at h))

pub place_in_lem : (W m k : ℕ) → k < m * W → (1 ≤ place_in W k) × (place_in W k ≤ W)
unfolding place_in
place_in_lem W m k h = go (dec_lt 0 W)
  where
    go : Dec (0 < W) → (1 ≤ k % W + 1) × (k % W + 1 ≤ W)
    go (yes p) = omega (arith, mod-lt k p)
    go (no p) = let z : W ≡ 0 = omega arith in absurd (omega (arith, rw z at h))

pub relay_of : (W k : ℕ) → relay W (type_in W k) (place_in W k) ≡ k
unfolding type_in place_in
relay_of W k =
    let q : k / W + 1 - 1 ≡ k / W = omega arith in
    omega (arith, div-add-mod' k W, ap (λ (x : ℕ). x * W) q)

pub range_of : (W m c k : ℕ) → k < m * W → type_in W k ≡ c → ((c - 1) * W ≤ k) × (k < c * W)
range_of W m c k h e =
    let t = type_in_lem W m k h in
    let p = place_in_lem W m k h in
    let r : (c - 1) * W + (place_in W k - 1) ≡ k = rw e at (relay_of W k) in
    let s : c - 1 + 1 ≡ c = omega arith in
    omega (arith, ap (λ (z : ℕ). z * W) s)

pub same-relay : (W j k : ℕ) → type_in W j ≡ type_in W k → place_in W j ≡ place_in W k → j ≡ k
same-relay W j k a b = cc (relay_of W j, relay_of W k)

-- the closed relays of type c are those among its W numbers
pub count_type : (W m c : ℕ) (closed : ℕ → Bool) → 1 ≤ c → c ≤ m → count (m * W) (λ k. closed k && eqb (type_in W k) c) ≡ count W (λ i. closed ((c - 1) * W + i))
count_type W zero c closed a b = absurd (omega arith)
count_type W (suc m) c closed a b = e ∙ go (ℕ_discrete c (suc m)) (λ p. count_type W m c closed a p)
  where
    test : ℕ → Bool
    test k = closed k && eqb (type_in W k) c

    e : count (suc m * W) test ≡ count (m * W) test + count W (λ i. test (m * W + i))
    e = let z : suc m * W ≡ m * W + W = omega arith in rw z (count_split (m * W) W test)

    types : (i : ℕ) → i < W → type_in W (m * W + i) ≡ suc m
    types i h = let z : suc m - 1 ≡ m = omega arith in type_range W (suc m) (m * W + i) (omega arith) (rw z (omega arith)) (omega arith)

    go : Dec (c ≡ suc m) → (c ≤ m → count (m * W) test ≡ count W (λ i. closed ((c - 1) * W + i))) → count (m * W) test + count W (λ i. test (m * W + i)) ≡ count W (λ i. closed ((c - 1) * W + i))
    go (yes p) r =
        let s : c - 1 ≡ m = omega arith in
        let low = count_none (m * W) test (λ k h. rw (ne_eqb (type_in W k) c (λ x. omega (arith, type_in_lem W m k h))) (and-false (closed k))) in
        let top = count_ext W (λ i. test (m * W + i)) (λ i. closed (m * W + i)) (λ i h. rw (types i h, eq-eqb (suc m) c (omega arith)) (and-true (closed (m * W + i)))) in
        rw s (omega arith)
    go (no p) r =
        let top = count_none W (λ i. test (m * W + i)) (λ i h. rw (types i h, ne_eqb (suc m) c (λ x. p (sym x))) (and-false (closed (m * W + i)))) in
        omega (arith, r (omega arith))
