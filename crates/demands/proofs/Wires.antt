-- What is promised of a relay that a caller asks for by its number holds. Assumes nothing.
use mathlib.Core.Path.{ap, ◌∙◌}
use Rattle.wiring.specs.Frame.{four, relay}
use Rattle.wiring.proofs.Frame.{joined}
use Rattle.answers.specs.Answer.{answer_of}
use Rattle.wires.proofs.HowWired.{wired_codes, relay_told, wired_refused, wired_there, wired_served, wired_joins}
use Rattle.demands.specs.Wires.{Wires}
use Rattle.demands.proofs.Parts.{tells_same}

pub wires : Wires
wires = record {
  codes = wired_codes;
  same = λ W k. tells_same _;
  told = relay_told;
  refused = wired_refused;
  done = λ W k s h. ap answer_of (wired_there W k s h);
  there = wired_served;
  joins = wired_joins;
  joined = λ W c p q s a b x y e. let j = joined four W c p q a b x y e in wired_there W (relay W c p) s j.there ∙ rw (j.typed, j.second, j.first);
}
