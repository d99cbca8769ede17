-- What the numbers of the pattern reader tell, besides those of both readers. Assumes nothing.
use Rattle.std.specs.Prelude.{ℕ, ◌≡◌, List, length}
use Rattle.answers.specs.Answer.{Answer}
use Rattle.frame.specs.Leaves.{map_bytes}
use Rattle.frame.specs.declared.Job.{Job}
use Rattle.patterns.specs.Format.{pattern_record}
use Rattle.patterns.specs.Read.{check_job}

-- bytes that are a whole pattern record: of a job, and of a map as long as a map of its size
abbrev pub WholePattern : List ℕ → Type 0
WholePattern s = (j : Job) × (map : List ℕ) × (length map ≡ map_bytes j.size) × (s ≡ pattern_record j map)

-- codes 11, 12 and 13: the bytes are such a record, and the answer is the map check's
abbrev pub MapRefused : List ℕ → Answer → Type 0
MapRefused s a = (j : Job) × (map : List ℕ) × (length map ≡ map_bytes j.size) × (s ≡ pattern_record j map) × (a ≡ check_job j map)
