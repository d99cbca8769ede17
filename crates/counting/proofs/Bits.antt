-- Binary digits of a number: of a power of two, under or and xor, that a number is known by its digits; and a digit set in one word of a
-- list of words. Assumes nothing.
use Prim.Native.Nat.{ℕ, zero, suc, ◌+◌, ◌-◌, ◌/◌, ◌%◌, ◌^◌, ◌<◌, max}
use mathlib.Core.Path.{◌≡◌, refl, sym, ◌∙◌, subst⁻¹}
use mathlib.Core.Logic.{◌≢◌}
use mathlib.Core.Bool.{Bool, true, false, ◌&&◌, ◌||◌, not, cond}
use mathlib.Core.List.{List}
use native.Mathlib.Omega.{arith}
use native.Mathlib.Nat.{zero-div, div_self, div-eq_of_lt, mul-div_cancel, mul-mod_left, pow-suc, one-mul}
use native.Mathlib.Numerals.{one-add}
use native.Mathlib.Decide.{ℕ_discrete, dec_lt}
use lib.Dec.{eqb}
use lib.Bits.{bit_and, bit_or, bit_xor, differ, or_step, xor_step, or_shr, xor_shr, xor_add_and, and_high}
use lib.ListN.{length, get_or, set}
use lib.Pow.{pow_pos, pow-lt, pow-add, shr-shr}
use borrow.Author.Tests.{eqb-true, eq-eqb, ne_eqb}
use Rattle.counting.specs.Count.{one}
use Rattle.counting.proofs.Lists.{get_d_set}

-- digit j of a number
unfoldable pub bit : ℕ → ℕ → ℕ
bit x j = x / 2 ^ j % 2

pub bit_lt : (x j : ℕ) → bit x j < 2
unfolding bit
bit_lt x j = omega arith

pub bit_half : (x j : ℕ) → bit (x / 2) j ≡ bit x (suc j)
unfolding bit
bit_half x j = rw (shr-shr x 1 j, one-add)

pub bit_zero : (j : ℕ) → bit 0 j ≡ 0
unfolding bit
bit_zero j = rw (zero-div (2 ^ j))

-- the digits of 2 ^ k: 1 at k, else 0
bit_pow_same : (k : ℕ) → bit (2 ^ k) k ≡ 1
unfolding bit
bit_pow_same k = rw (div_self (pow_pos k))

bit_pow_even : (i j : ℕ) → bit (2 ^ (suc i + j)) j ≡ 0
unfolding bit
bit_pow_even i j = rw (pow-add 2 (suc i) j, mul-div_cancel (2 ^ suc i) (pow_pos j), pow-suc 2 i, mul-mod_left)

bit_pow_other : (k j : ℕ) → j ≢ k → bit (2 ^ k) j ≡ 0
unfolding bit
bit_pow_other k j h = go (dec_lt j k)
  where
    go : Dec (j < k) → bit (2 ^ k) j ≡ 0
    go (yes l) = let e : k ≡ suc (k - suc j) + j = omega arith in subst⁻¹ (λ (n : ℕ). bit (2 ^ n) j ≡ 0) e (bit_pow_even (k - suc j) j)
    go (no n) = let l : k < j = omega arith in rw (div-eq_of_lt (pow-lt l))

pub bit_pow : (k j : ℕ) → bit (2 ^ k) j ≡ one (eqb j k)
bit_pow k j = go (ℕ_discrete j k)
  where
    go : Dec (j ≡ k) → bit (2 ^ k) j ≡ one (eqb j k)
    go (yes e) = rw (e, eq-eqb k k refl) (bit_pow_same k)
    go (no n) = rw (ne_eqb j k n) (bit_pow_other k j n)

pub bit_or_lem : (x y j : ℕ) → bit (bit_or x y) j ≡ max (bit x j) (bit y j)
unfolding bit
bit_or_lem x y j = rw or_shr (omega (arith, or_step (x / 2 ^ j) (y / 2 ^ j)))

differ_lt : (x y : ℕ) → x < 2 → y < 2 → differ x y < 2
differ_lt zero y a b = b
differ_lt (suc x) zero a b = a
differ_lt (suc x) (suc y) a b = differ_lt x y (omega arith) (omega arith)

pub bit_xor_lem : (x y j : ℕ) → bit (bit_xor x y) j ≡ differ (bit x j) (bit y j)
unfolding bit
bit_xor_lem x y j =
    let a = x / 2 ^ j in
    let b = y / 2 ^ j in
    rw xor_shr (omega (arith, xor_step a b, differ_lt (a % 2) (b % 2) (omega arith) (omega arith)))

-- a set digit taken off by subtraction is flipped
pub sub_flip : (x k : ℕ) → bit x k ≡ 1 → x - 2 ^ k ≡ bit_xor x (2 ^ k)
unfolding bit
sub_flip x k e =
    let p : 2 ^ (1 + k) - 2 ^ k ≡ 2 ^ k = omega (arith, pow-add 2 1 k) in
    let a : bit_and x (2 ^ k) ≡ 2 ^ k = rw (p, e, one-mul) at (and_high x 1 k) in
    omega (arith, xor_add_and x (2 ^ k))

-- numbers below 2 ^ w are known by their w digits
pub bits_ext : (w x y : ℕ) → x < 2 ^ w → y < 2 ^ w → ((j : ℕ) → j < w → bit x j ≡ bit y j) → x ≡ y
bits_ext zero x y a b h = omega arith
bits_ext (suc w) x y a b h =
    let low : x % 2 ≡ y % 2 = unfold bit in omega (arith, h 0 (omega arith)) in
    let high = bits_ext w (x / 2) (y / 2) (omega arith) (omega arith) (λ j q. bit_half x j ∙ h (suc j) (omega arith) ∙ sym (bit_half y j)) in
    omega arith

-- digit j of word i of a list is 1
unfoldable pub digit_in : List ℕ → ℕ → ℕ → Bool
digit_in ws i j = eqb (bit (get_or ws i 0) j) 1

or_digit : (x : ℕ) (b : Bool) → x < 2 → eqb (max x (one b)) 1 ≡ (b || eqb x 1)
or_digit zero true h = refl
or_digit zero false h = refl
or_digit (suc zero) true h = refl
or_digit (suc zero) false h = refl
or_digit (suc (suc x)) b h = absurd (omega arith)

-- that digit set: the others stay
pub digit_set : (ws : List ℕ) (i j a b : ℕ) → i < length ws → digit_in (set ws i (bit_or (get_or ws i 0) (2 ^ j))) a b ≡ (eqb a i && eqb b j || digit_in ws a b)
unfolding digit_in
digit_set ws i j a b h = rw (get_d_set ws i a (bit_or (get_or ws i 0) (2 ^ j)) 0 h) (go (ℕ_discrete a i))
  where
    x : ℕ
    x = get_or ws i 0

    go : Dec (a ≡ i) → eqb (bit (cond (eqb a i) (bit_or x (2 ^ j)) (get_or ws a 0)) b) 1 ≡ (eqb a i && eqb b j || eqb (bit (get_or ws a 0) b) 1)
    go (yes e) = rw (e, eq-eqb i i refl, bit_or_lem x (2 ^ j) b, bit_pow j b) (or_digit (bit x b) (eqb b j) (bit_lt x b))
    go (no n) = rw (ne_eqb a i n)

flip_digit : (x : ℕ) (b : Bool) → x < 2 → (b ≡ true → x ≡ 1) → eqb (differ x (one b)) 1 ≡ (not b && eqb x 1)
flip_digit zero true h f = absurd (omega (arith, f refl))
flip_digit zero false h f = refl
flip_digit (suc zero) true h f = refl
flip_digit (suc zero) false h f = refl
flip_digit (suc (suc x)) b h f = absurd (omega arith)

-- a digit that is 1 taken off: the others stay
pub digit_clear : (ws : List ℕ) (i j a b : ℕ) → i < length ws → digit_in ws i j ≡ true
    → digit_in (set ws i (get_or ws i 0 - 2 ^ j)) a b ≡ (not (eqb a i && eqb b j) && digit_in ws a b)
unfolding digit_in
digit_clear ws i j a b h one-there = rw (get_d_set ws i a (get_or ws i 0 - 2 ^ j) 0 h) (go (ℕ_discrete a i))
  where
    x : ℕ
    x = get_or ws i 0

    is : bit x j ≡ 1
    is = eqb-true (bit x j) 1 one-there

    go : Dec (a ≡ i) → eqb (bit (cond (eqb a i) (x - 2 ^ j) (get_or ws a 0)) b) 1 ≡ (not (eqb a i && eqb b j) && eqb (bit (get_or ws a 0) b) 1)
    go (yes e) = rw (e, eq-eqb i i refl, sub_flip x j is, bit_xor_lem x (2 ^ j) b, bit_pow j b) (flip_digit (bit x b) (eqb b j) (bit_lt x b) (λ z. rw (eqb-true b j z) is))
    go (no n) = rw (ne_eqb a i n)
