-- What is left of a record from a place on. Assumes nothing.
use Rattle.std.specs.Prelude.{ℕ, ◌-◌, List, length}

-- 0 past the end
abbrev pub bytes_left : List ℕ → ℕ → ℕ
bytes_left s at = length s - at
