-- What bytes a pattern record is (scope, "Records"): a job's head and the map's field. Assumes nothing.
use Rattle.std.specs.Prelude.{ℕ, List, ◌++◌}
use Rattle.fields.specs.Format.{field}
use Rattle.frame.specs.declared.Job.{Job}
use Rattle.jobs.specs.Format.{head_bytes}

-- tag 03, length m: the map
abbrev pub pattern_record : Job → List ℕ → List ℕ
pattern_record j map = head_bytes j ++ field 3 map
