-- Laws of bytes that are put one after the other. Assumes nothing.
use Prim.Native.Nat.{ℕ, suc, ◌+◌, ◌<◌}
use mathlib.Core.Path.{◌≡◌, ap, ◌∙◌}
use mathlib.Core.List.{List, [], ◌∷◌, ◌++◌}
use native.Mathlib.Nat.{add-zero}
use native.Mathlib.Numerals.{add-one}
use native.Mathlib.Omega.{arith}
use lib.ListN.{length, get_or, set, take}
use lib.Seq.{sets, take-suc, length-take-le}

sets_append : (room : List ℕ) (at : ℕ) (a b : List ℕ) → sets (sets room at a) (at + length a) b ≡ sets room at (a ++ b)
sets_append room at [] b = ap (λ (k : ℕ). sets room k b) (add-zero at)
sets_append room at (x ∷ a) b =
    let e : at + suc (length a) ≡ suc at + length a = omega arith in
    rw e (sets_append (set room at x) (suc at) a b)

-- what is put where the last ended is put with it
pub onto : (room : List ℕ) (at : ℕ) (a b : List ℕ) {room₁ room₂ : List ℕ} → room₁ ≡ sets room at a → room₂ ≡ sets room₁ (at + length a) b → room₂ ≡ sets room at (a ++ b)
onto room at a b p q = q ∙ ap (λ (l : List ℕ). sets l (at + length a) b) p ∙ sets_append room at a b

-- one turn of a copy
pub put_more : (room : List ℕ) (at : ℕ) (bytes : List ℕ) (i : ℕ) {room₁ : List ℕ} → i < length bytes → room₁ ≡ sets room at (take i bytes)
    → set room₁ (at + i) (get_or bytes i 0) ≡ sets room at (take (i + 1) bytes)
put_more room at bytes i {room₁} h p =
    let n : length (take i bytes) ≡ i = length-take-le i bytes (omega arith) in
    let one : set room₁ (at + i) (get_or bytes i 0) ≡ sets room₁ (at + length (take i bytes)) (get_or bytes i 0 ∷ []) = rw n in
    rw (add-one, take-suc bytes i 0) (onto room at (take i bytes) (get_or bytes i 0 ∷ []) p one)
