-- What bytes a job record is (scope, "Records"): the size's field and the counts' field. Assumes nothing.
use Rattle.std.specs.Prelude.{ℕ, ◌≡◌, ◌⊎◌, List, [], ◌∷◌, ◌++◌, take}
use Rattle.frame.specs.declared.Counts.{Counts}
use Rattle.frame.specs.Leaves.{count_list}
use Rattle.fields.specs.Format.{words_of, field}
use Rattle.frame.specs.declared.Job.{Job}

-- tag 01, length 1: the size
abbrev pub size_field : ℕ → List ℕ
size_field size = field 1 (size ∷ [])

-- tag 02, length 12: n1 to n6, two bytes each, high byte first
abbrev pub counts_field : Counts → List ℕ
counts_field n = field 2 (words_of (count_list n))

-- what both records begin with
abbrev pub head_bytes : Job → List ℕ
head_bytes j = size_field j.size ++ counts_field j.counts

abbrev pub job_record : Job → List ℕ
job_record j = head_bytes j

-- `at` is a place where a field must start: before it stands nothing, the size's field, or all that both records begin with
abbrev pub HeadFields : List ℕ → ℕ → Type 0
HeadFields s at = (at ≡ 0) ⊎ ((size : ℕ) × (take at s ≡ size_field size)) ⊎ ((j : Job) × (take at s ≡ head_bytes j))
