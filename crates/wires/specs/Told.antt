-- What the codes 1 and 20 tell of a relay that a caller asks for, and what is told on done. Assumes nothing.
use Rattle.std.specs.Prelude.{ℕ, ◌+◌, ◌≤◌, ◌≡◌}
use Rattle.answers.specs.Answer.{Answer}
use Rattle.answers.specs.Table.{code_of, number_of}
use Rattle.wiring.specs.Wiring.{earlier, later}
use Rattle.wiring.specs.Frame.{four, relay, frame}
use Rattle.frame.specs.Tests.{Served}
use Rattle.wires.specs.declared.Wired.{Wired}

-- of a call that is asked for relay k
pub record RelayTold (W k : ℕ) (a : Answer) : Type 0 where
  pub code1 : code_of a ≡ 1 → (number_of a ≡ W) × (Served W → ⊥)
  -- the relay, which is not there
  pub code20 : code_of a ≡ 20 → (number_of a ≡ k) × ((frame W).relays ≤ k)

-- of relay k, which is told as r: it joins its type's two sides, at positions p and q with p + q = W + 1, and has the number of its type and p
pub record WiredRight (W k : ℕ) (r : Wired) : Type 0 where
  pub from : r.earlier.side ≡ earlier four r.kind
  pub to : r.later.side ≡ later four r.kind
  pub sum : r.earlier.position + r.later.position ≡ W + 1
  pub number : k ≡ relay W r.kind r.earlier.position
