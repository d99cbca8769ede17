-- Why row 14 of the scope's table, a side sum above W in the map check, could go (requests, item 7). Proved in proofs/Retired.antt. That
-- no answer has its code is in the first demand. Assumes nothing.
use Rattle.std.specs.Prelude.{ℕ, ◌≡◌, Bool, List}
use Rattle.answers.specs.Answer.{Done}
use Rattle.wiring.specs.Wiring.{Within, Wiring, Proper, Carries}
use Rattle.wiring.specs.Frame.{four}
use Rattle.map_check.specs.Check.{form_test, shared_test, counts_test}

pub record Retired : Type 0 where
  -- over any wiring: closed relays of which no two share a terminal, and of each type as many as the job has nets, leave no side sum
  -- above the size
  pub any_wiring : (w : Wiring) → Proper w → (n : List ℕ) (closed : ℕ → Bool) → Carries w n closed → Within w.types w.size n
  -- a map past 11, 12 and 13 has no side sum above W
  pub past_13 : (W : ℕ) (n m : List ℕ) → form_test W m ≡ Done → shared_test W m ≡ Done → counts_test W n m ≡ Done → Within four W n
