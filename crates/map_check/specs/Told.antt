-- What the map check's numbers tell (scope, "Numbers that come back"): of a map m, of a frame of size W and of a job n. Assumes nothing.
use Rattle.std.specs.Prelude.{ℕ, ◌≡◌, ◌≢◌, true, List, length}
use Rattle.answers.specs.Answer.{Answer}
use Rattle.answers.specs.Table.{code_of, number_of}
use Rattle.wiring.specs.Frame.{frame}
use Rattle.wiring.specs.Map.{closed_in}
use Rattle.wiring.specs.Check.{spare_set, LowestSharing, WrongFirst}
use Rattle.frame.specs.Leaves.{map_bytes}
use Rattle.frame.specs.Tests.{Served}

pub record MapTold (W : ℕ) (n m : List ℕ) (a : Answer) : Type 0 where
  -- the size, which is not served
  pub code1 : code_of a ≡ 1 → (number_of a ≡ W) × (Served W → ⊥)
  -- the length needed, which the map has not
  pub code2 : code_of a ≡ 2 → (number_of a ≡ map_bytes W) × (length m ≢ map_bytes W)
  -- 0; a spare bit is set
  pub code11 : code_of a ≡ 11 → (number_of a ≡ 0) × (spare_set (frame W).relays m ≡ true)
  -- the lowest closed relay that shares a terminal with a lower-numbered closed one
  pub code12 : code_of a ≡ 12 → LowestSharing (frame W) (closed_in m) (number_of a)
  -- the first type whose closed relays are not as many as the job has nets
  pub code13 : code_of a ≡ 13 → WrongFirst (frame W) n (closed_in m) (number_of a)
