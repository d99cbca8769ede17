-- What is promised of a relay that a caller asks for by its number (scope, "Wiring"), over the definition that the call's contract cites.
-- Proved in proofs/Wires.antt. That the six types join each pair of sides once is in the second demand. Assumes nothing.
use Rattle.std.specs.Prelude.{ℕ, ◌+◌, ◌≤◌, ◌<◌, ◌≡◌, [], ◌∷◌, Ok}
use Rattle.answers.specs.Answer.{Done, answer_of}
use Rattle.answers.specs.Table.{CodeIn}
use Rattle.wiring.specs.Wiring.{earlier, later}
use Rattle.wiring.specs.Frame.{four, relay, frame}
use Rattle.frame.specs.Tests.{Served}
use Rattle.wires.specs.Told.{RelayTold, WiredRight}
use Rattle.wires.specs.Wired.{not_wired, wired_told, wired_as}
use Rattle.demands.specs.Demands.{TellsAs}

pub record Wires : Type 0 where
  -- the codes, and what their numbers tell; a refusal names no type and no terminal
  pub codes : (W k : ℕ) → CodeIn (0 ∷ 1 ∷ 20 ∷ []) (wired_as W k)
  pub same : (W k : ℕ) → TellsAs (wired_as W k) (answer_of (wired_as W k))
  pub told : (W k : ℕ) → RelayTold W k (answer_of (wired_as W k))
  pub refused : (W k : ℕ) → (answer_of (wired_as W k) ≡ Done → ⊥) → wired_told (wired_as W k) ≡ not_wired
  -- each relay of a size that is served is told, and no other; it joins position p of its type's earlier side to W + 1 - p of the later side
  pub done : (W k : ℕ) → Served W → k < (frame W).relays → answer_of (wired_as W k) ≡ Done
  pub there : (W k : ℕ) → answer_of (wired_as W k) ≡ Done → Served W × (k < (frame W).relays)
  pub joins : (W k : ℕ) → answer_of (wired_as W k) ≡ Done → WiredRight W k (wired_told (wired_as W k))
  -- and terminals p and q of a type's two sides have a relay if p + q = W + 1: relay (c, p)
  pub joined : (W c p q : ℕ) → Served W → 1 ≤ c → c ≤ 6 → 1 ≤ p → 1 ≤ q → p + q ≡ W + 1
      → wired_as W (relay W c p) ≡ Ok (record {
        kind = c;
        earlier = record { side = earlier four c; position = p };
        later = record { side = later four c; position = q };
      })
