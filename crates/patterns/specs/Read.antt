-- What reading any bytes as a pattern record gives. The map is told by its place in the record. Assumes nothing.
use Rattle.std.specs.Prelude.{ℕ, ◌+◌, List, cond, length, take, drop, ltb, Result, Ok, Err}
use Rattle.answers.specs.declared.Refusal.{Refusal}
use Rattle.answers.specs.declared.Refusal.TheVariants.{After}
use Rattle.answers.specs.Answer.{Answer}
use Rattle.answers.specs.Lent.{goes_on, and_then}
use Rattle.frame.specs.Leaves.{count_list, map_bytes}
use Rattle.map_check.specs.Check.{check_map}
use Rattle.fields.specs.Read.{field_at}
use Rattle.frame.specs.declared.Job.{Job}
use Rattle.jobs.specs.Read.{read_head, empty_job}
use Rattle.patterns.specs.declared.Pattern.{Pattern}

-- len bytes from a place on
abbrev pub part : List ℕ → ℕ → ℕ → List ℕ
part s start len = take len (drop start s)

-- the map check of a job and its map
abbrev pub check_job : Job → List ℕ → Answer
check_job j map = check_map j.size (count_list j.counts) map

-- a map at its place: nothing stands after it, and then comes the map check
unfoldable pub map_at : List ℕ → Job → ℕ → Result Pattern Refusal
map_at s j start =
    let m : ℕ = map_bytes j.size in
    cond (ltb (start + m) (length s)) (Err (After (start + m)))
    (and_then (check_job j (part s start m))
    (Ok (record { job = j; start = start; len = m })))

-- a pattern record is the head and the map's field
unfoldable pub read_pattern : List ℕ → Result Pattern Refusal
read_pattern s =
    goes_on (read_head s) (λ begun.
    let j : Job = begun.0 in
    goes_on (field_at s begun.1 3 (map_bytes j.size)) (λ start. map_at s j start))

-- size 0, six counts of 0 and a map of no bytes
abbrev pub empty_pattern : Pattern
empty_pattern = record { job = empty_job; start = 0; len = 0 }

-- what a read tells a caller in C: the pattern, and all 0 beside a refusal
abbrev pub pattern_told : Result Pattern Refusal → Pattern
pattern_told (Ok p) = p
pattern_told (Err r) = empty_pattern
