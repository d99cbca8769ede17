-- What is promised: the three demands over the definitions that the contracts cite. Each is proved in proofs/Demands.antt.
-- That every input is taken, and that every call ends without a fault, is proved of each function itself: no function that others
-- call has a `requires`. (A few leaves that only our own crates call have one; docs/DECISIONS.md lists them.) Assumes nothing.
use Rattle.std.specs.Prelude.{ℕ, ◌+◌, ◌≤◌, ◌<◌, ◌≡◌, Bool, false, ◌&&◌, List, [], ◌∷◌, ◌++◌, eqb, length, take, drop, replicate, Result, Ok}
use Rattle.std.specs.Result.{result_unwrap_or}
use Rattle.counting.specs.Count.{count}
use Rattle.counting.specs.Lists.{among, Bytes}
use Rattle.answers.specs.declared.Refusal.{Refusal}
use Rattle.answers.specs.Answer.{Answer, Done, answer_of}
use Rattle.answers.specs.Table.{code_of, number_of, retired_codes, CodeIn}
use Rattle.answers.specs.Lent.{over}
use Rattle.wiring.specs.Wiring.{earlier, later, Within, Carries}
use Rattle.wiring.specs.Frame.{four, frame}
use Rattle.wiring.specs.Map.{closed_in, IsMap, MapCarries}
use Rattle.frame.specs.declared.Counts.{Counts}
use Rattle.frame.specs.Leaves.{count_list, map_bytes}
use Rattle.frame.specs.Tests.{Served}
use Rattle.frame.specs.Told.{RoomTold}
use Rattle.overfull.specs.Overfull.{no_sums}
use Rattle.overfull.specs.Told.{SidesTold}
use Rattle.router.specs.Route.{relays_for, map_for}
use Rattle.router.specs.Router.{route_answer, route_room, routed}
use Rattle.map_check.specs.Check.{closed_test, check_map}
use Rattle.map_check.specs.Told.{MapTold}
use Rattle.frame.specs.declared.Job.{Job}
use Rattle.jobs.specs.Format.{job_record}
use Rattle.jobs.specs.Read.{empty_job, job_told, read_job}
use Rattle.jobs.specs.Write.{job_answer, job_room}
use Rattle.jobs.specs.Told.{WholeJob, ReadTold}
use Rattle.patterns.specs.declared.Pattern.{Pattern as ReadPattern}
use Rattle.patterns.specs.Format.{pattern_record}
use Rattle.patterns.specs.Read.{part, check_job, pattern_told, read_pattern}
use Rattle.patterns.specs.Part.{map_part}
use Rattle.patterns.specs.Write.{pattern_answer, pattern_room}
use Rattle.patterns.specs.Told.{WholePattern, MapRefused}
use Rattle.listing.specs.Lines.{total, size_line, net_lines}
use Rattle.listing.specs.Listing.{text_of, most_text, listed, listed_room}

-- a pattern: a job of a size that is served, and a map of that size that carries it
abbrev pub Pattern : Job → List ℕ → Type 0
Pattern j map = Served j.size × IsMap (frame j.size).relays map × MapCarries (frame j.size) (count_list j.counts) map

-- the same code and the same number
abbrev pub TellsAs : {A B : Type 0} → Result A Refusal → Result B Refusal → Type 0
TellsAs a b = (code_of a ≡ code_of b) × (number_of a ≡ number_of b)

-- Demand 1. A refusal gives its number from the table, and the lent room stays as it came. There is no default pattern.
pub record Demand1 : Type 0 where
  -- a program in C sees the code: it is 0 exactly if the answer is done
  pub code_0 : (a : Answer) → code_of a ≡ 0 → a ≡ Done
  pub done_0 : (code_of Done ≡ 0) × (number_of Done ≡ 0)
  -- and a code that is retired is no answer's
  pub not_retired : (a : Answer) → among (code_of a) retired_codes ≡ false
  -- with a job, a pattern or a text's length in it an answer tells the same as without
  pub read_job_same : (s : List ℕ) → TellsAs (read_job s) (answer_of (read_job s))
  pub read_pattern_same : (s : List ℕ) → TellsAs (read_pattern s) (answer_of (read_pattern s))
  pub list_same : (s room : List ℕ) → TellsAs (listed s room) (answer_of (listed s room))
  -- the codes that each call can give
  pub route_codes : (W : ℕ) (n : Counts) (room : List ℕ) → CodeIn (0 ∷ 1 ∷ 2 ∷ 3 ∷ []) (route_answer W n room)
  pub check_codes : (W : ℕ) (n m : List ℕ) → CodeIn (0 ∷ 1 ∷ 2 ∷ 11 ∷ 12 ∷ 13 ∷ []) (check_map W n m)
  pub read_job_codes : (s : List ℕ) → CodeIn (0 ∷ 1 ∷ 7 ∷ 8 ∷ 9 ∷ 10 ∷ []) (read_job s)
  pub read_pattern_codes : (s : List ℕ) → CodeIn (0 ∷ 1 ∷ 7 ∷ 8 ∷ 9 ∷ 10 ∷ 11 ∷ 12 ∷ 13 ∷ []) (read_pattern s)
  pub write_job_codes : (j : Job) (room : List ℕ) → CodeIn (0 ∷ 1 ∷ 2 ∷ []) (job_answer j room)
  pub write_pattern_codes : (j : Job) (map room : List ℕ) → CodeIn (0 ∷ 1 ∷ 2 ∷ 11 ∷ 12 ∷ 13 ∷ []) (pattern_answer j map room)
  pub list_codes : (s room : List ℕ) → CodeIn (0 ∷ 2 ∷ []) (listed s room)
  -- and the number is the table's: the size, the length needed ..
  pub route_told : (W : ℕ) (n : Counts) (room : List ℕ) → RoomTold W (map_bytes W) room (route_answer W n room)
  pub write_job_told : (j : Job) (room : List ℕ) → RoomTold j.size (length (job_record j)) room (job_answer j room)
  pub list_told : (s room : List ℕ) → code_of (listed s room) ≡ 2
      → (number_of (listed s room) ≡ most_text) × (length room < most_text)
  -- .. with code 3, which comes after 1 and 2, all the overfull sides, and the four sums beside it; with any other code, done too, no sum
  pub overfull_told : (W : ℕ) (n : Counts) (room : List ℕ) → let told = routed W n room in code_of told.answer ≡ 3
      → Served W × (map_bytes W ≤ length room) × SidesTold W n (number_of told.answer) told.sums
  pub no_sums_beside : (W : ℕ) (n : Counts) (room : List ℕ) → let told = routed W n room in (code_of told.answer ≡ 3 → ⊥) → told.sums ≡ no_sums
  -- .. the relay and the type that the map check names; a map that may not be closed is refused for that, whatever its job. The pattern
  -- writer makes the map check first, and then asks for its record's length
  pub check_told : (W : ℕ) (n m : List ℕ) → MapTold W n m (check_map W n m)
  pub check_first : (W : ℕ) (n m : List ℕ) → (closed_test W m ≡ Done → ⊥) → check_map W n m ≡ closed_test W m
  pub write_pattern_first : (j : Job) (map room : List ℕ) → (check_job j map ≡ Done → ⊥) → pattern_answer j map room ≡ check_job j map
  pub write_pattern_told : (j : Job) (map room : List ℕ) → check_job j map ≡ Done
      → RoomTold j.size (length (pattern_record j map)) room (pattern_answer j map room)
  -- .. the offset of a field, before which whole fields stand, or of the first byte after a whole record; and with 11, 12 and 13 the bytes are
  -- a whole pattern record, and the answer is the map check's
  pub read_job_told : (s : List ℕ) → Bytes s → ReadTold s WholeJob (read_job s)
  pub read_pattern_told : (s : List ℕ) → Bytes s → ReadTold s WholePattern (read_pattern s)
  pub read_pattern_map : (s : List ℕ) → Bytes s → 11 ≤ code_of (read_pattern s) → MapRefused s (answer_of (read_pattern s))
  -- a refusal leaves lent room as it came, and gives no job, no map and no text
  pub router_refuses : (W : ℕ) (n : Counts) (room : List ℕ) → (route_answer W n room ≡ Done → ⊥) → route_room W n room ≡ room
  pub job_writer_refuses : (j : Job) (room : List ℕ) → (job_answer j room ≡ Done → ⊥) → job_room j room ≡ room
  pub pattern_writer_refuses : (j : Job) (map room : List ℕ) → (pattern_answer j map room ≡ Done → ⊥) → pattern_room j map room ≡ room
  pub lister_refuses : (s room : List ℕ) → (answer_of (listed s room) ≡ Done → ⊥)
      → (listed_room s room ≡ room) × (result_unwrap_or (listed s room) 0 ≡ 0)
  pub job_reader_refuses : (s : List ℕ) → (answer_of (read_job s) ≡ Done → ⊥) → job_told (read_job s) ≡ empty_job
  pub pattern_reader_refuses : (s : List ℕ) → (answer_of (read_pattern s) ≡ Done → ⊥)
      → ((pattern_told (read_pattern s)).job ≡ empty_job) × (map_part s (pattern_told (read_pattern s)) ≡ [])
  -- what the router closes carries the job
  pub no_default : (W : ℕ) (n : Counts) (room : List ℕ) → route_answer W n room ≡ Done
      → MapCarries (frame W) (count_list n) (take (map_bytes W) (route_room W n room))

-- Demand 2. For each job that can be carried the relays are the ones fixed by the written choice rule, and the records keep what
-- they are given.
pub record Demand2 : Type 0 where
  -- the six types join each pair of sides once
  pub pairs : (s t : ℕ) → 1 ≤ s → s < t → t ≤ 4 → count 6 (λ i. eqb (earlier four (i + 1)) s && eqb (later four (i + 1)) t) ≡ 1
  pub chosen : (W : ℕ) (n : Counts) (room : List ℕ) (closed : ℕ → Bool) → Served W → map_bytes W ≤ length room
      → Carries (frame W) (count_list n) closed
      → (route_answer W n room ≡ Done) × (route_room W n room ≡ map_for W n ++ drop (map_bytes W) room)
  -- the closed relays of that map are exactly those of the rule
  pub rule_closed : (W : ℕ) (n : Counts) (room : List ℕ) (k : ℕ) → route_answer W n room ≡ Done
      → closed_in (take (map_bytes W) (route_room W n room)) k ≡ among k (relays_for W n)
  -- each pattern that carries its job is written where the room is long enough; so is each job of a size from 1 to 64
  pub pattern_written : (j : Job) (map room : List ℕ) → Pattern j map → length (pattern_record j map) ≤ length room
      → pattern_answer j map room ≡ Done
  pub job_written : (j : Job) (room : List ℕ) → Served j.size → length (job_record j) ≤ length room → job_answer j room ≡ Done
  -- what the router gives passes the map check for its job, and is written as a pattern
  pub routed_passes : (W : ℕ) (n : Counts) (room : List ℕ) → route_answer W n room ≡ Done → check_map W (count_list n) (map_for W n) ≡ Done
  pub routed_written : (j : Job) (room record-room : List ℕ) → route_answer j.size j.counts room ≡ Done
      → length (pattern_record j (map_for j.size j.counts)) ≤ length record-room
      → pattern_answer j (map_for j.size j.counts) record-room ≡ Done
  -- the record reads back to the same size, counts and relays
  pub pattern_back : (j : Job) (map room : List ℕ) → pattern_answer j map room ≡ Done
      → let s = take (length (pattern_record j map)) (pattern_room j map room) in
      (p : ReadPattern) × (read_pattern s ≡ Ok p) × (p.job ≡ j) × (map_part s p ≡ map)
  pub job_back : (j : Job) (room : List ℕ) → job_answer j room ≡ Done
      → let s = take (length (job_record j)) (job_room j room) in read_job s ≡ Ok j
  -- every record that the reader accepts is written again as the same bytes
  pub pattern_again : (s : List ℕ) → Bytes s → (p : ReadPattern) → read_pattern s ≡ Ok p → (room : List ℕ) → length s ≤ length room
      → let map = map_part s p in
      (pattern_answer p.job map room ≡ Done) × (pattern_room p.job map room ≡ over s room)
  pub job_again : (s : List ℕ) → Bytes s → (j : Job) → read_job s ≡ Ok j → (room : List ℕ) → length s ≤ length room
      → (job_answer j room ≡ Done) × (job_room j room ≡ over s room)
  -- and what it accepts as a pattern is one; its map is the part of the record that a program in C is told by place and length
  pub pattern_read : (s : List ℕ) → Bytes s → (p : ReadPattern) → read_pattern s ≡ Ok p → Pattern p.job (map_part s p)
  pub pattern_part : (s : List ℕ) (p : ReadPattern) → read_pattern s ≡ Ok p
      → (p.start + p.len ≤ length s) × (map_part s p ≡ part s p.start p.len)
  -- the lister's first line has the size and the number of the job's nets, and then a line comes for each closed relay of that map
  pub lines : (s : List ℕ) (j : Job) → read_job s ≡ Ok j → route_answer j.size j.counts (replicate 48 0) ≡ Done
      → let W = j.size in text_of s ≡ size_line W (total j.counts) ++ net_lines W (map_for W j.counts) (frame W).relays

-- Demand 3. For each size from 1 to 64, all counts and a room long enough for the map, three verdicts agree.
abbrev pub RouterDone : ℕ → Counts → List ℕ → Type 0
RouterDone W n room = route_answer W n room ≡ Done

-- no bank is asked for more nets than the size
abbrev pub NoneOver : ℕ → Counts → Type 0
NoneOver W n = Within four W (count_list n)

-- some set of relays carries exactly those counts and touches no terminal twice: over the relays alone
abbrev pub SomeCarry : ℕ → Counts → Type 0
SomeCarry W n = (closed : ℕ → Bool) × Carries (frame W) (count_list n) closed

pub record Agree (W : ℕ) (n : Counts) (room : List ℕ) : Type 0 where
  pub done_within : RouterDone W n room → NoneOver W n
  pub within_carried : NoneOver W n → SomeCarry W n
  pub carried_done : SomeCarry W n → RouterDone W n room

abbrev pub Demand3 : Type 0
Demand3 = (W : ℕ) (n : Counts) (room : List ℕ) → Served W → map_bytes W ≤ length room → Agree W n room
