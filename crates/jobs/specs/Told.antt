-- What the numbers of a record's reader tell (scope, "Numbers that come back"), of the bytes s. Assumes nothing.
use Rattle.std.specs.Prelude.{ℕ, ◌≤◌, ◌<◌, ◌≡◌, List, length, take, Result}
use Rattle.answers.specs.declared.Refusal.{Refusal}
use Rattle.answers.specs.Table.{code_of, number_of}
use Rattle.frame.specs.Tests.{Served}
use Rattle.frame.specs.declared.Job.{Job}
use Rattle.jobs.specs.Format.{size_field, job_record, HeadFields}

-- bytes that are a whole job record
abbrev pub WholeJob : List ℕ → Type 0
WholeJob s = (j : Job) × (s ≡ job_record j)

-- of both readers, each with what a whole record is to it
pub record ReadTold {A : Type 0} (s : List ℕ) (Whole : List ℕ → Type 0) (a : Result A Refusal) : Type 0 where
  -- the size in the size's field, which is not served
  pub code1 : code_of a ≡ 1 → (take (length (size_field (number_of a))) s ≡ size_field (number_of a)) × (Served (number_of a) → ⊥)
  -- codes 7, 8 and 9: the place of a field
  pub code7to9 : 7 ≤ code_of a → code_of a ≤ 9 → HeadFields s (number_of a) × (number_of a ≤ length s)
  -- the place after a whole record, where more bytes stand
  pub code10 : code_of a ≡ 10 → Whole (take (number_of a) s) × (number_of a < length s)
