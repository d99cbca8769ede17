-- What a call answers: done, or why it refuses. Assumes nothing.
use Rattle.std.specs.Prelude.{Result, Ok, Err, ⊤}
use Rattle.answers.specs.declared.Refusal.{Refusal}

abbrev pub Answer : Type 0
Answer = Result ⊤ Refusal

abbrev pub Done : Answer
Done = Ok tt

-- whether it was done, without what it gave
abbrev pub answer_of : {A : Type 0} → Result A Refusal → Answer
answer_of (Ok x) = Done
answer_of (Err r) = Err r
