-- How a relay is wired, as a caller is told who has tested nothing. Assumes nothing.
use Rattle.std.specs.Prelude.{ℕ, cond, ltb, Result, Ok, Err}
use Rattle.answers.specs.declared.Refusal.{Refusal}
use Rattle.answers.specs.declared.Refusal.TheVariants.{NotClosed}
use Rattle.answers.specs.Lent.{and_then}
use Rattle.wiring.specs.Wiring.{from_side, to_side}
use Rattle.wiring.specs.Frame.{frame}
use Rattle.wires.specs.declared.Wired.{Wired}
use Rattle.frame.specs.Tests.{size_test}

-- the type and the two terminals of relay k
abbrev pub wires_of : ℕ → ℕ → Wired
wires_of W k =
    let w = frame W in
    record {
      kind = w.type_of k;
      earlier = record { side = from_side w k; position = w.first k };
      later = record { side = to_side w k; position = w.second k };
    }

-- a refusal names no type and no terminal
abbrev pub not_wired : Wired
not_wired = record { kind = 0; earlier = record { side = 0; position = 0 }; later = record { side = 0; position = 0 } }

-- relay k of size W: code 1, then 20 where there is no relay of that number; else its type and its two terminals
unfoldable pub wired_as : ℕ → ℕ → Result Wired Refusal
wired_as W k =
    and_then (size_test W)
    (cond (ltb k (frame W).relays)
    (Ok (wires_of W k))
    (Err (NotClosed k)))

-- what is told of a relay
abbrev pub wired_told : Result Wired Refusal → Wired
wired_told (Ok wired) = wired
wired_told (Err r) = not_wired
