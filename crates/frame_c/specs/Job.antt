-- The job of plain numbers. Assumes nothing.
use Rattle.std.specs.Prelude.{ℕ}
use Rattle.frame.specs.Leaves.{counts}
use Rattle.frame.specs.declared.Job.{Job}

abbrev pub job_of : ℕ → ℕ → ℕ → ℕ → ℕ → ℕ → ℕ → Job
job_of size n1 n2 n3 n4 n5 n6 = record { size = size; counts = counts n1 n2 n3 n4 n5 n6 }
