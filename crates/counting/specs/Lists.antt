-- Lists of numbers: whether a number is among them, whether all differ, whether all lie in a range, and lists of bytes. Assumes nothing.
use Rattle.std.specs.Prelude.{ℕ, ◌<◌, Bool, true, false, ◌&&◌, ◌||◌, not, List, [], ◌∷◌, eqb, leb, get_or}

unfoldable pub among : ℕ → List ℕ → Bool
among k [] = false
among k (j ∷ js) = eqb k j || among k js

unfoldable pub distinct : List ℕ → Bool
distinct [] = true
distinct (k ∷ ks) = not (among k ks) && distinct ks

-- k is from low to high
abbrev pub between : ℕ → ℕ → ℕ → Bool
between low high k = leb low k && leb k high

unfoldable pub all_between : ℕ → ℕ → List ℕ → Bool
all_between low high [] = true
all_between low high (k ∷ ks) = between low high k && all_between low high ks

-- a list of bytes, as every lent slice is
abbrev pub Bytes : List ℕ → Type 0
Bytes s = (i : ℕ) → get_or s i 0 < 256
