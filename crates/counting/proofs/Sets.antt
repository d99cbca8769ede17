-- A set of the numbers 1 to m as one number: the sum of 1, 2, 4, .. for its members 1, 2, 3, .. Its digits tell them. Assumes nothing.
use Prim.Native.Nat.{ℕ, zero, suc, ◌+◌, ◌-◌, ◌^◌, ◌<◌, max}
use mathlib.Core.Path.{◌≡◌, refl}
use mathlib.Core.Bool.{Bool, true, false}
use native.Mathlib.Omega.{arith}
use native.Mathlib.Decide.{ℕ_discrete}
use native.Mathlib.Nat.{div-eq_of_lt, pow-suc, one-mul}
use lib.Dec.{eqb}
use lib.Bits.{bit_or, or_shifted_r}
use borrow.Author.Tests.{eq-eqb, ne_eqb}
use Rattle.counting.specs.Count.{one, only_if, sum_to}
use Rattle.counting.proofs.Bits.{bit, bit_or_lem, bit_pow}

module _ (member : ℕ → Bool) where
  abbrev pub as_number : ℕ → ℕ
  as_number m = sum_to m (λ s. only_if (member s) (2 ^ (s - 1)))

  -- one number more
  set_more : (m : ℕ) → as_number (suc m) ≡ as_number m + only_if (member (suc m)) (2 ^ m)
  unfolding sum_to
  set_more m = let e : suc m - 1 ≡ m = omega arith in rw e

  pub set_below : (m : ℕ) → as_number m < 2 ^ m
  unfolding sum_to
  set_below zero = omega arith
  set_below (suc m) = rw (set_more m) (go (member (suc m)) (set_below m))
    where
      go : (b : Bool) → as_number m < 2 ^ m → as_number m + only_if b (2 ^ m) < 2 ^ suc m
      go true r = omega (arith, pow-suc 2 m)
      go false r = omega (arith, pow-suc 2 m)

  -- it adds its own digit, or none
  set_with : (m j : ℕ) → member (suc m) ≡ true → bit (as_number (suc m)) j ≡ max (bit (as_number m) j) (one (eqb j m))
  set_with m j e =
      let o : bit_or (as_number m) (2 ^ m) ≡ as_number m + 2 ^ m = omega (arith, rw (one-mul (2 ^ m)) at (or_shifted_r 1 m (as_number m) (set_below m))) in
      rw (set_more m, e, ← o, bit_or_lem (as_number m) (2 ^ m) j, bit_pow m j)

  set-without : (m : ℕ) → member (suc m) ≡ false → as_number (suc m) ≡ as_number m
  set-without m e = rw (set_more m, e) (omega arith)

  -- no digit past the last number
  set_past : (m : ℕ) → bit (as_number m) m ≡ 0
  unfolding bit
  set_past m = rw (div-eq_of_lt (set_below m))

  -- digit j is that of number j + 1
  pub set-digit : (m j : ℕ) → j < m → bit (as_number m) j ≡ one (member (suc j))
  set-digit zero j h = absurd (omega arith)
  set-digit (suc m) j h = go (member (suc m)) refl (ℕ_discrete j m) (λ l. set-digit m j l)
    where
      go : (b : Bool) → member (suc m) ≡ b → Dec (j ≡ m) → (j < m → bit (as_number m) j ≡ one (member (suc j))) → bit (as_number (suc m)) j ≡ one (member (suc j))
      go true e (yes z) r = rw (z, set_with m m e, set_past m, eq-eqb m m refl, e)
      go true e (no z) r = rw (set_with m j e, ne_eqb j m z, r (omega arith)) (omega arith)
      go false e (yes z) r = rw (z, set-without m e, set_past m, e)
      go false e (no z) r = rw (set-without m e) (r (omega arith))
