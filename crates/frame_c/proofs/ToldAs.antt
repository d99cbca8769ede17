-- What an entry tells is what the call below it answered, with or without what it gave. Assumes nothing.
use Prim.Native.Nat.{ℕ}
use Rattle.std.specs.Prelude.{Result, Ok, Err}
use Rattle.answers.specs.declared.Refusal.{Refusal}
use Rattle.answers.specs.Answer.{answer_of}
use Rattle.frame_c.specs.Told.{Told}

pub told_answer : {A : Type 0} (a : Result A Refusal) {code number : ℕ} → Told a code number → Told (answer_of a) code number
told_answer (Ok x) t = t
told_answer (Err r) t = t
