-- Numbers as text, as the definition of our own had them before std's `decimal` took its place: the same digits for every number of 64
-- bits, so what the own one's laws said of such a number holds today. Assumes nothing.
use Prim.Native.Nat.{ℕ, zero, suc, ◌+◌, ◌/◌, ◌%◌, ◌^◌, ◌≤◌, ◌<◌}
use mathlib.Core.Path.{◌≡◌, sym, ap, ◌∙◌}
use mathlib.Core.Bool.{cond}
use mathlib.Core.List.{List, [], ◌∷◌, ◌++◌}
use native.Mathlib.Omega.{arith}
use native.Mathlib.Decide.{dec_lt}
use lib.Dec.{ltb}
use lib.ListN.{length}
use borrow.Author.Tests.{lt-ltb, le-ltb}
use Rattle.std.specs.Fmt.{decimal}
use Rattle.std.proofs.lemmas.Fmt.{decimal_digit, decimal_step, length-decimal-le}

-- the digits, the highest first, of which there are k at most
unfoldable pub decimal_in : ℕ → ℕ → List ℕ
decimal_in zero n = []
decimal_in (suc k) n = cond (ltb n 10) ((48 + n) ∷ []) (decimal_in k (n / 10) ++ ((48 + n % 10) ∷ []))

abbrev pub decimal_before : ℕ → List ℕ
decimal_before n = decimal_in 20 n

same_in : (k n : ℕ) → n < 10 ^ suc k → n < 2 ^ 64 → decimal_in (suc k) n ≡ decimal n
unfolding decimal_in
same_in zero n h b = rw (lt-ltb n 10 (omega arith)) (sym (decimal_digit n (omega arith)))
same_in (suc k) n h b = go (dec_lt n 10) (same_in k (n / 10))
  where
    go : Dec (n < 10) → (n / 10 < 10 ^ suc k → n / 10 < 2 ^ 64 → decimal_in (suc k) (n / 10) ≡ decimal (n / 10)) → decimal_in (suc (suc k)) n ≡ decimal n
    go (yes l) r = rw (lt-ltb n 10 l) (sym (decimal_digit n l))
    go (no l) r = rw (le-ltb n 10 (omega arith)) (ap (λ (x : List ℕ). x ++ ((48 + n % 10) ∷ [])) (r (omega arith) (omega arith)) ∙ sym (decimal_step n (omega arith) b))

pub same_decimal : (n : ℕ) → n < 2 ^ 64 → decimal_before n ≡ decimal n
same_decimal n b = same_in 19 n (omega arith) b

-- and so there are twenty digits at most
pub decimal_twenty : (n : ℕ) → n < 2 ^ 64 → length (decimal n) ≤ 20
decimal_twenty n b = length-decimal-le 20 n (omega arith) (omega arith) b
