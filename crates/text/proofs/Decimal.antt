-- Numbers as text: all of it is digits, and never more than 64. Assumes nothing.
use Prim.Native.Nat.{ℕ, zero, suc, ◌+◌, ◌/◌, ◌%◌, ◌≤◌, ◌<◌}
use mathlib.Core.Bool.{Bool, true, false, cond}
use mathlib.Core.List.{List, [], ◌∷◌}
use native.Mathlib.Omega.{arith}
use lib.ListN.{length}
use lib.Dec.{eqb}
use borrow.Author.Tests.{lt-ltb}
use Rattle.std.specs.List.{All}
use Rattle.std.proofs.lemmas.List.Elements.{All-cons, All-nil}
use Rattle.std.specs.Fmt.{digit_glyph, digits_onto, digits, decimal}

-- a byte that is a digit
abbrev pub IsDigit : ℕ → Type 0
IsDigit b = (48 ≤ b) × (b ≤ 57)

glyph_digit : (d : ℕ) → d < 10 → IsDigit (digit_glyph false d)
glyph_digit d h = rw (lt-ltb d 10 h) (omega arith)

-- what holds with k digits to come, and of the digits that came, holds of all that the number writes
onto_made : (P : ℕ → List ℕ → Type 0) (Q : List ℕ → Type 0) → ((k d : ℕ) (xs : List ℕ) → d < 10 → P (suc k) xs → P k (digit_glyph false d ∷ xs))
    → ((k : ℕ) (xs : List ℕ) → P k xs → Q xs) → (k n : ℕ) (xs : List ℕ) → P k xs → Q (digits_onto k 10 false n xs)
onto_made P Q more last zero n xs p = last 0 xs p
onto_made P Q more last (suc k) n xs p =
    let q = more k (n % 10) xs (omega arith) p in
    go (eqb (n / 10) 0) (last k _ q) (onto_made P Q more last k (n / 10) _ q)
  where
    go : (b : Bool) → let ys : List ℕ = digit_glyph false (n % 10) ∷ xs in Q ys → Q (digits_onto k 10 false (n / 10) ys) → Q (cond b ys (digits_onto k 10 false (n / 10) ys))
    go true q r = q
    go false q r = r

pub decimal_digits : (n : ℕ) → All IsDigit (decimal n)
unfolding digits
decimal_digits n = onto_made (λ k xs. All IsDigit xs) (All IsDigit) (λ k d xs h p. All-cons IsDigit _ xs (glyph_digit d h) p) (λ k xs p. p) 64 n [] (All-nil IsDigit)

pub decimal_most : (n : ℕ) → length (decimal n) ≤ 64
unfolding digits
decimal_most n = onto_made (λ k xs. k + length xs ≤ 64) (λ xs. length xs ≤ 64) (λ k d xs h p. omega arith) (λ k xs p. omega arith) 64 n [] (omega arith)
