-- What the codes 1 and 2 tell (scope, "Numbers that come back"). Assumes nothing.
use Rattle.std.specs.Prelude.{ℕ, ◌<◌, ◌≡◌, List, length}
use Rattle.answers.specs.Answer.{Answer}
use Rattle.answers.specs.Table.{code_of, number_of}
use Rattle.frame.specs.Tests.{Served}

-- of a call that tests a size W and asks for a lent room of so many bytes
pub record RoomTold (W needed : ℕ) (room : List ℕ) (a : Answer) : Type 0 where
  -- the size, which is not served
  pub code1 : code_of a ≡ 1 → (number_of a ≡ W) × (Served W → ⊥)
  -- the length needed, which the room has not
  pub code2 : code_of a ≡ 2 → (number_of a ≡ needed) × (length room < needed)
