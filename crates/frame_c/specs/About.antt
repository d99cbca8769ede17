-- The version, and a terminal as a program in C is told it. Assumes nothing.
use Rattle.std.specs.Prelude.{ℕ, ◌+◌, ◌*◌, List, [], ◌∷◌}
use Rattle.frame.specs.declared.Terminal.{Terminal}

-- 0.5.0, as the header's three numbers have it
abbrev pub version : ℕ
version = 0 * 10000 + 5 * 100 + 0

-- its side, 1 to 4 for L, T, R, B, and its position
abbrev pub end_told : Terminal → List ℕ
end_told t = t.side ∷ t.position ∷ []
