-- What reading any bytes as a job record gives. Assumes nothing.
use Rattle.std.specs.Prelude.{ℕ, ◌+◌, List, cond, length, get_or, ltb, Result, Ok, Err}
use Rattle.answers.specs.declared.Refusal.{Refusal}
use Rattle.answers.specs.declared.Refusal.TheVariants.{After}
use Rattle.answers.specs.Lent.{goes_on, and_then}
use Rattle.frame.specs.declared.Counts.{Counts}
use Rattle.frame.specs.Leaves.{counts}
use Rattle.frame.specs.Tests.{size_test}
use Rattle.fields.specs.Read.{word_at, field_at}
use Rattle.frame.specs.declared.Job.{Job}

-- six counts from a place on
abbrev pub counts_at : List ℕ → ℕ → Counts
counts_at s at =
    record {
      n1 = word_at s at;
      n2 = word_at s (at + 2);
      n3 = word_at s (at + 4);
      n4 = word_at s (at + 6);
      n5 = word_at s (at + 8);
      n6 = word_at s (at + 10);
    }

-- the size, its range tested as soon as it is read, then the counts: the job, and the place after it
unfoldable pub read_head : List ℕ → Result (Job × ℕ) Refusal
read_head s =
    goes_on (field_at s 0 1 1) (λ a.
    and_then (size_test (get_or s a 0))
    (goes_on (field_at s (a + 1) 2 12) (λ b.
    Ok (record { size = get_or s a 0; counts = counts_at s b }, b + 12))))

-- a job record is the head, and nothing after it
unfoldable pub read_job : List ℕ → Result Job Refusal
read_job s =
    goes_on (read_head s) (λ begun.
    cond (ltb begun.1 (length s)) (Err (After begun.1))
    (Ok begun.0))

-- size 0 and six counts of 0
abbrev pub empty_job : Job
empty_job = record { size = 0; counts = counts 0 0 0 0 0 0 }

-- what a read tells a caller in C: the job, and all 0 beside a refusal
abbrev pub job_told : Result Job Refusal → Job
job_told (Ok j) = j
job_told (Err r) = empty_job
