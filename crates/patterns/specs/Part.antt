-- The map that a read tells by its place, as the part of the record that it is. Assumes nothing.
use Rattle.std.specs.Prelude.{ℕ, ◌+◌, List, [], cond, length, leb}
use Rattle.patterns.specs.declared.Pattern.{Pattern}
use Rattle.patterns.specs.Read.{part}

-- the part where it lies inside the bytes; else no bytes
unfoldable pub map_part : List ℕ → Pattern → List ℕ
map_part s p = cond (leb (p.start + p.len) (length s)) (part s p.start p.len) []
