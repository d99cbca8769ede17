-- Pattern reader and writer as they were before row 14 was retired (requests, item 7), kept as history; and that both did what today's do,
-- for all bytes, jobs, maps and rooms. Assumes nothing.
use Prim.Native.Nat.{ℕ, ◌+◌}
use mathlib.Core.Path.{◌≡◌, refl}
use mathlib.Core.Logic.{inl}
use mathlib.Core.Bool.{Bool, true, false, cond}
use mathlib.Core.List.{List}
use native.Mathlib.Omega.{arith}
use lib.Dec.{ltb}
use lib.ListN.{length}
use borrow.Author.Tests.{ne_eqb}
use Rattle.std.specs.Prelude.{Result, Ok, Err}
use Rattle.answers.specs.declared.Refusal.{Refusal}
use Rattle.answers.specs.declared.Refusal.TheVariants.{After}
use Rattle.answers.specs.Answer.{Answer, Done}
use Rattle.answers.specs.Table.{refusal_code}
use Rattle.answers.specs.Lent.{is_done, goes_on, and_then, room_for, over}
use Rattle.answers.proofs.Done.{refusal_coded}
use Rattle.answers.proofs.Before.{AnswerBefore, when_done_before}
use Rattle.frame.specs.Leaves.{count_list, map_bytes}
use Rattle.map_check.proofs.Before.{check_map_before, same_check}
use Rattle.fields.specs.Read.{field_at}
use Rattle.frame.specs.declared.Job.{Job}
use Rattle.jobs.specs.Read.{read_head, empty_job}
use Rattle.patterns.specs.declared.Pattern.{Pattern}
use Rattle.patterns.specs.Format.{pattern_record}
use Rattle.patterns.specs.Read.{part, check_job, map_at, read_pattern}
use Rattle.patterns.specs.Write.{pattern_answer, pattern_room}

abbrev check_job_before : Job → List ℕ → AnswerBefore
check_job_before j map = check_map_before j.size (count_list j.counts) map

-- an answer of today's went on as it does today
done_goes_on : {A : Type 0} (a : Answer) (refuse : AnswerBefore → A) (more : A) → when_done_before (inl a) refuse more ≡ cond (is_done a) more (refuse (inl a))
done_goes_on (Ok x) refuse more = refl
done_goes_on (Err r) refuse more = rw (ne_eqb (refusal_code r) 0 (λ e. omega (arith, e, refusal_coded r)))

-- ---- reading

-- what a read gave: an answer of that table, a job and a map's place
pub record PatternReadBefore : Type 0 where
  pub answer : AnswerBefore
  pub job : Job
  pub start : ℕ
  pub len : ℕ

abbrev pub no_pattern_before : AnswerBefore → PatternReadBefore
no_pattern_before a = record { answer = a; job = empty_job; start = 0; len = 0 }

-- the reader went on only with a value
abbrev pub goes_on_before : {A : Type 0} → Result A Refusal → (A → PatternReadBefore) → PatternReadBefore
goes_on_before (Ok x) more = more x
goes_on_before (Err r) more = no_pattern_before (inl (Err r))

unfoldable pub map_at_before : List ℕ → Job → ℕ → PatternReadBefore
map_at_before s j start =
    let m : ℕ = map_bytes j.size in
    cond (ltb (start + m) (length s)) (no_pattern_before (inl (Err (After (start + m)))))
    (when_done_before (check_job_before j (part s start m)) no_pattern_before
    (record { answer = inl Done; job = j; start = start; len = m }))

unfoldable pub read_pattern_before : List ℕ → PatternReadBefore
read_pattern_before s =
    goes_on_before (read_head s) (λ begun.
    let j : Job = begun.0 in
    goes_on_before (field_at s begun.1 3 (map_bytes j.size)) (λ start. map_at_before s j start))

-- today's read as one of those
abbrev pub as_before : Result Pattern Refusal → PatternReadBefore
as_before (Ok p) = record { answer = inl Done; job = p.job; start = p.start; len = p.len }
as_before (Err r) = no_pattern_before (inl (Err r))

module _ (s : List ℕ) where
  same_map : (j : Job) (start : ℕ) → map_at_before s j start ≡ as_before (map_at s j start)
  unfolding map_at_before map_at
  same_map j start =
      let m : ℕ = map_bytes j.size in
      rw (same_check j.size (count_list j.counts) (part s start m))
      (ways (record { job = j; start = start; len = m }) (ltb (start + m) (length s)) (After (start + m)) (check_job j (part s start m)))
    where
      ways : (p : Pattern) (more : Bool) (after : Refusal) (check : Answer)
          → cond more (no_pattern_before (inl (Err after))) (when_done_before (inl check) no_pattern_before (as_before (Ok p))) ≡ as_before (cond more (Err after) (and_then check (Ok p)))
      ways p true after check = refl
      ways p false after (Ok x) = refl
      ways p false after (Err r) = done_goes_on (Err r) no_pattern_before (as_before (Ok p))

  pub same_read : read_pattern_before s ≡ as_before (read_pattern s)
  unfolding read_pattern_before read_pattern
  same_read = begun (read_head s)
    where
      third : (j : Job) (f : Result ℕ Refusal) → goes_on_before f (λ start. map_at_before s j start) ≡ as_before (goes_on f (λ start. map_at s j start))
      third j (Ok start) = same_map j start
      third j (Err r) = refl

      begun : (h : Result (Job × ℕ) Refusal)
          → goes_on_before h (λ x. goes_on_before (field_at s x.1 3 (map_bytes x.0.size)) (λ start. map_at_before s x.0 start))
          ≡ as_before (goes_on h (λ x. goes_on (field_at s x.1 3 (map_bytes x.0.size)) (λ start. map_at s x.0 start)))
      begun (Ok x) = third x.0 (field_at s x.1 3 (map_bytes x.0.size))
      begun (Err r) = refl

-- ---- writing

unfoldable pub pattern_answer_before : Job → List ℕ → List ℕ → AnswerBefore
pattern_answer_before j map room = when_done_before (check_job_before j map) (λ a. a) (inl (room_for (length (pattern_record j map)) room))

unfoldable pub pattern_room_before : Job → List ℕ → List ℕ → List ℕ
pattern_room_before j map room = when_done_before (pattern_answer_before j map room) (λ a. room) (over (pattern_record j map) room)

module _ (j : Job) (map room : List ℕ) where
  pub same_answer : pattern_answer_before j map room ≡ inl (pattern_answer j map room)
  unfolding pattern_answer_before pattern_answer
  same_answer =
      rw (same_check j.size (count_list j.counts) map)
      (ways (check_job j map) (room_for (length (pattern_record j map)) room))
    where
      ways : (check fits : Answer) → ◌≡◌ {A = AnswerBefore} (when_done_before (inl check) (λ a. a) (inl fits)) (inl (and_then check fits))
      ways (Ok x) fits = refl
      ways (Err r) fits = done_goes_on (Err r) (λ a. a) (inl fits)

  pub same-room : pattern_room_before j map room ≡ pattern_room j map room
  unfolding pattern_room_before pattern_room
  same-room = rw same_answer (done_goes_on (pattern_answer j map room) (λ a. room) (over (pattern_record j map) room))
