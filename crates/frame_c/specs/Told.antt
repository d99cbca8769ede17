-- How an answer is told in C: the code as the result, the number through a pointer. Assumes nothing.
use Rattle.std.specs.Prelude.{ℕ, ◌≡◌, Result}
use Rattle.answers.specs.declared.Refusal.{Refusal}
use Rattle.answers.specs.Table.{code_of, number_of}

abbrev pub Told : {A : Type 0} → Result A Refusal → ℕ → ℕ → Type 0
Told answer code number = (code ≡ code_of answer) × (number ≡ number_of answer)
