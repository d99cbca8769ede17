-- Terminals as numbers, and those that a list of relays touches. Assumes nothing.
use Rattle.std.specs.Prelude.{ℕ, ◌+◌, ◌*◌, ◌-◌, List, [], ◌∷◌}
use Rattle.wiring.specs.Wiring.{Wiring, from_side, to_side}

-- position p of side s in a frame of size W, as one number
abbrev pub terminal : ℕ → ℕ → ℕ → ℕ
terminal W s p = (s - 1) * W + (p - 1)

-- the terminals that a list of relays touches, one after the other
unfoldable pub touched : Wiring → List ℕ → List ℕ
touched w [] = []
touched w (k ∷ ks) = terminal w.size (from_side w k) (w.first k) ∷ (terminal w.size (to_side w k) (w.second k) ∷ touched w ks)
