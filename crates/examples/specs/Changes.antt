-- A technician's calls at size 2, one after the other from an open frame, with what each must give; among them item 4's own example:
-- with relays 0 and 2 closed type 3 has no free relay, though the side sums would allow one net more. Assumes nothing.
use Rattle.std.specs.Prelude.{ℕ, ◌≡◌, List, [], ◌∷◌, Result, Ok, Err}
use Rattle.answers.specs.declared.Refusal.{Refusal}
use Rattle.answers.specs.declared.Refusal.TheVariants.{Kind, NoneFree, NotClosed}
use Rattle.answers.specs.Answer.{Answer, Done}
use Rattle.wiring.specs.Calls.{adding, dropping}
use Rattle.changes.specs.Technician.{call_answer, call_map, add_net}

-- a call, what it gives, and the map then
pub data Step : Type 0 where
  adds : ℕ → Result ℕ Refusal → List ℕ → Step
  drops : ℕ → Answer → List ℕ → Step

-- from the map m each step gives just that, and the next one goes on from there
unfoldable pub Follow : ℕ → List ℕ → List Step → Type 0
Follow W m [] = Unit {0}
Follow W m (adds c gives then ∷ steps) = (add_net W m c ≡ gives) × (call_map W m (adding c) ≡ then) × Follow W then steps
Follow W m (drops k gives then ∷ steps) = (call_answer W m (dropping k) ≡ gives) × (call_map W m (dropping k) ≡ then) × Follow W then steps

-- the bench's own: relays 0 and 2 are closed, and stay so
unfoldable pub both_closed : List Step
both_closed = adds 3 (Err (NoneFree 3)) (0x05 ∷ 0x00 ∷ []) ∷ []

unfoldable pub hour : List Step
hour =
    adds 1 (Ok 0) (0x01 ∷ 0x00 ∷ [])
    ∷ adds 2 (Ok 2) (0x05 ∷ 0x00 ∷ [])
    ∷ adds 3 (Err (NoneFree 3)) (0x05 ∷ 0x00 ∷ [])
    ∷ drops 0 Done (0x04 ∷ 0x00 ∷ [])
    ∷ adds 3 (Ok 4) (0x14 ∷ 0x00 ∷ [])
    ∷ adds 1 (Ok 1) (0x16 ∷ 0x00 ∷ [])
    ∷ adds 0 (Err (Kind 0)) (0x16 ∷ 0x00 ∷ [])
    ∷ adds 7 (Err (Kind 7)) (0x16 ∷ 0x00 ∷ [])
    ∷ drops 0 (Err (NotClosed 0)) (0x16 ∷ 0x00 ∷ [])
    ∷ drops 12 (Err (NotClosed 12)) (0x16 ∷ 0x00 ∷ [])
    ∷ drops 4 Done (0x06 ∷ 0x00 ∷ [])
    ∷ adds 1 (Ok 0) (0x07 ∷ 0x00 ∷ [])
    ∷ []
