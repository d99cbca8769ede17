-- How an example is compared with what it should be. Assumes nothing.
use Rattle.std.specs.Prelude.{ℕ, Bool, true, false, ◌&&◌, List, [], ◌∷◌, ◌==◌, Result}
use Rattle.answers.specs.declared.Refusal.{Refusal}
use Rattle.answers.specs.Table.{code_of, number_of}

-- the answer has this code and this number
abbrev pub given : {A : Type 0} → Result A Refusal → ℕ → ℕ → Bool
given answer code number = code_of answer == code && number_of answer == number

-- the room's first bytes are the map, and the bytes past it are what a room is filled with before it is lent
unfoldable pub stands : List ℕ → List ℕ → Bool
stands [] [] = true
stands [] (b ∷ map) = false
stands (x ∷ room) [] = x == 0xA5 && stands room []
stands (x ∷ room) (b ∷ map) = x == b && stands room map
