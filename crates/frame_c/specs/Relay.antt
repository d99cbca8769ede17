-- The relay beside an added net, as a number. Assumes nothing.
use Rattle.std.specs.Prelude.{ℕ, Result, Ok, Err}
use Rattle.answers.specs.declared.Refusal.{Refusal}

-- 65535 where none was closed: no frame has a relay of that number
abbrev pub relay_told : Result ℕ Refusal → ℕ
relay_told (Ok k) = k
relay_told (Err r) = 65535
