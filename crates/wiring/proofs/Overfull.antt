-- The set of overfull sides, for any table of types: its bits are those sides, and it is empty exactly where no side is asked for more than
-- the size. Assumes nothing.
use Prim.Native.Nat.{ℕ, suc, ◌+◌, ◌-◌, ◌^◌, ◌≤◌, ◌<◌}
use mathlib.Core.Path.{◌≡◌, refl, sym, ◌∙◌}
use mathlib.Core.Bool.{Bool, true, false}
use mathlib.Core.List.{List}
use native.Mathlib.Omega.{arith}
use native.Mathlib.Nat.{zero-div}
use native.Mathlib.Decide.{dec_lt}
use lib.Dec.{eqb}
use borrow.Author.Tests.{ltb-false, le-ltb}
use Rattle.counting.specs.Count.{one, first_from}
use Rattle.counting.proofs.Bits.{bit}
use Rattle.counting.proofs.Counting.{sum_to_zero}
use Rattle.counting.proofs.Search.{first_stops, first_ends, none_first, first_ext}
use Rattle.counting.proofs.Sets.{set_below, set-digit}
use Rattle.wiring.specs.Wiring.{Types, side_sum, Within}
use Rattle.wiring.specs.Check.{overfull, overfull_sides, has_side}
use Rattle.wiring.proofs.Frame.{rows, within_sides}

one_is : (b : Bool) → eqb (one b) 1 ≡ b
one_is true = refl
one_is false = refl

module _ (ts : Types) (m W : ℕ) (n : List ℕ) where
  -- the number has the bit of a side exactly if that side is overfull
  pub sides_has : (s : ℕ) → 1 ≤ s → s ≤ m → has_side (overfull_sides ts m W n) s ≡ overfull ts W n s
  unfolding overfull_sides bit
  sides_has s a b =
      let e : suc (s - 1) ≡ s = omega arith in
      let digit : bit (overfull_sides ts m W n) (s - 1) ≡ one (overfull ts W n (suc (s - 1))) = set-digit (overfull ts W n) m (s - 1) (omega arith) in
      rw (digit, e) (one_is (overfull ts W n s))

  -- and no other bits
  pub sides_below : overfull_sides ts m W n < 2 ^ m
  unfolding overfull_sides
  sides_below = set_below (overfull ts W n) m

  pub within_none : Within ts W n → overfull_sides ts m W n ≡ 0
  unfolding overfull_sides
  within_none w = sum_to_zero m _ (λ s a b. rw (le-ltb W (side_sum ts n s) (w s)))

  pub none_within : rows m ts ≡ true → overfull_sides ts m W n ≡ 0 → Within ts W n
  none_within r e = within_sides m ts r W n (λ s a b. ltb-false W _ (sym (sides_has s a b) ∙ rw (e, zero-div (2 ^ (s - 1)))))

  -- the first of them; m + 1 if there is none
  abbrev pub first_over : ℕ
  first_over = first_from 1 m (overfull ts W n)

  pub first-there : rows m ts ≡ true → (overfull_sides ts m W n ≡ 0 → ⊥) → (1 ≤ first_over) × (first_over ≤ m) × (overfull ts W n first_over ≡ true)
  first-there r h = go (dec_lt first_over (1 + m))
    where
      go : Dec (first_over < 1 + m) → (1 ≤ first_over) × (first_over ≤ m) × (overfull ts W n first_over ≡ true)
      go (yes l) = let f = first_stops (overfull ts W n) m 1 l in (f.from, omega arith, f.passes)
      go (no l) = absurd (h (within_none (within_sides m ts r W n (λ s a b. ltb-false _ _ (first_ends (overfull ts W n) m 1 (omega arith) s a (omega arith))))))

  pub none_over : Within ts W n → first_over ≡ 1 + m
  none_over w = none_first (overfull ts W n) m 1 (λ s a b. le-ltb W (side_sum ts n s) (w s))

  -- which is that of the lowest bit
  pub first_bit : first_from 1 m (has_side (overfull_sides ts m W n)) ≡ first_over
  first_bit = first_ext (has_side (overfull_sides ts m W n)) (overfull ts W n) m 1 (λ s a b. sides_has s a (omega arith))
