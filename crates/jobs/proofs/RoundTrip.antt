-- The job records' round trip: what is written reads back, what is accepted is written again as the same bytes, a refusal gives no
-- job; and what each code and its number tell. Assumes nothing.
use Prim.Native.Nat.{ℕ, ◌≤◌, ◌<◌}
use mathlib.Core.Path.{◌≡◌, refl, sym, ap, ◌∙◌}
use mathlib.Core.List.{List, [], ◌∷◌}
use native.Mathlib.Omega.{arith}
use lib.ListN.{length, take}
use lib.Seq.{take_all}
use lib.Dec.{ltb}
use borrow.Author.Tests.{ltb-true, ltb-false, lt-ltb}
use Rattle.std.specs.Prelude.{Result, Ok, Err}
use Rattle.std.specs.Result.{IfOk}
use Rattle.std.proofs.lemmas.Result.{IfOk-at_ok}
use Rattle.counting.specs.Lists.{among, Bytes}
use Rattle.answers.specs.declared.Refusal.{Refusal}
use Rattle.answers.specs.declared.Refusal.TheVariants.{After}
use Rattle.answers.specs.Answer.{Done}
use Rattle.answers.specs.Table.{number_of, CodeIn}
use Rattle.answers.specs.Lent.{over}
use Rattle.answers.proofs.Done.{is_done_lem}
use Rattle.answers.proofs.Lent.{asked_done, done-fits}
use Rattle.frame.specs.Tests.{Served, size_test}
use Rattle.frame.specs.Told.{RoomTold}
use Rattle.frame.proofs.Tests.{size_served, size_is}
use Rattle.frame.proofs.Grounds.{asked_holds, asked_codes, asked_told}
use Rattle.fields.proofs.Fields.{either, if_goes_on}
use Rattle.frame.specs.declared.Job.{Job}
use Rattle.jobs.specs.Format.{job_record}
use Rattle.jobs.specs.Read.{read_head, read_job, empty_job, job_told}
use Rattle.jobs.specs.Write.{job_answer, job_room}
use Rattle.jobs.specs.Told.{WholeJob, ReadTold}
use Rattle.jobs.proofs.Grounds.{ReadRefusals, in_codes, numbers_small, other-code, numbers_told}
use Rattle.jobs.proofs.Heads.{head_back, head_way}

pub job-length : (j : Job) → length (job_record j) ≡ 19
job-length j = refl

-- ---- writing, then reading

pub job_is_written : (j : Job) (room : List ℕ) → Served j.size → length (job_record j) ≤ length room → job_answer j room ≡ Done
unfolding job_answer
job_is_written j room s fits = asked_done (size_test j.size) (length (job_record j)) (job_record j) room (sym (size_served j.size s.0 s.1)) fits

pub job_reads_back : (j : Job) → Served j.size → read_job (job_record j) ≡ Ok j
unfolding read_job
job_reads_back j s = rw (head_back j [] s)

-- what a writer that said done left in the room reads back
pub written_job_reads_back : (j : Job) (room : List ℕ) → job_answer j room ≡ Done → read_job (take (length (job_record j)) (job_room j room)) ≡ Ok j
unfolding job_answer job_room
written_job_reads_back j room e =
    let d = done-fits (size_test j.size) (length (job_record j)) (job_record j) room e in
    rw e (job_reads_back j (size_is j.size (is_done_lem _ d.0)))

-- bytes after the last field are refused, with the place of the first
pub bytes_after : (s : List ℕ) {j : Job} {next : ℕ} → read_head s ≡ Ok (j, next) → next < length s → Err (After next) ≡ read_job s
unfolding read_job
bytes_after s {next = next} e h = rw e (simp (lt-ltb next (length s) h))

-- ---- reading, then writing

-- the job of an accepted record: its record is the same bytes
pub record AcceptedJob (s : List ℕ) (j : Job) : Type 0 where
  pub served : Served j.size
  pub same : job_record j ≡ s

module _ (s : List ℕ) where
  -- what holds of a job that was accepted, and of each refusal on its ground, holds of what the reader gives
  job_holds : (P : Result Job Refusal → Type 0) → ((j : Job) → (Bytes s → AcceptedJob s j) → P (Ok j)) → ReadRefusals (λ r. P (Err r)) s WholeJob → P (read_job s)
  unfolding read_job
  job_holds P p r =
      if_goes_on P (read_head s) (λ begun e.
      let h = rw e at (head_way s (λ x. P (Err x)) WholeJob r) in
      let next = begun.1 in
      either P (ltb next (length s)) (λ t. r.after next (ltb-true _ _ t) (omega (arith, h)) (λ b. (begun.0, h.whole b)))
      (λ t. p begun.0 (λ b. record { served = h.served; same = sym (h.whole b) ∙ take_all next s (ltb-false _ _ t) })))
      (λ x e. rw e at (head_way s (λ x. P (Err x)) WholeJob r))

  pub job_rewritten : Bytes s → {j : Job} → read_job s ≡ Ok j → AcceptedJob s j
  job_rewritten bytes {j} e =
      IfOk-at_ok (AcceptedJob s) e
      (job_holds (λ x. IfOk x (AcceptedJob s)) (λ k a. a bytes) (record { size = λ v f n. tt; fault = λ at r f h l b. tt; after = λ at h l b. tt }))

  -- the writer does not refuse what the reader accepted, and the same bytes come out
  pub job_written_again : Bytes s → {j : Job} → read_job s ≡ Ok j → (room : List ℕ) → length s ≤ length room
      → (job_answer j room ≡ Done) × (job_room j room ≡ over s room)
  unfolding job_room
  job_written_again bytes {j} e room fits =
      let a = job_rewritten bytes e in
      let d = job_is_written j room a.served (omega (arith, ap length a.same)) in
      (d, rw d (ap (λ (l : List ℕ). over l room) a.same))

  -- size 0 and six counts of 0
  pub refused-job : {r : Refusal} → read_job s ≡ Err r → job_told (read_job s) ≡ empty_job
  refused-job e = rw e

  -- ---- what the codes and numbers tell

  pub job-codes : CodeIn (0 ∷ 1 ∷ 7 ∷ 8 ∷ 9 ∷ 10 ∷ []) (read_job s)
  unfolding among
  job-codes = job_holds (CodeIn (0 ∷ 1 ∷ 7 ∷ 8 ∷ 9 ∷ 10 ∷ [])) (λ j a. refl) (in_codes s WholeJob [])

  pub job-number : Bytes s → number_of (read_job s) < 65536
  job-number bytes = job_holds (λ x. number_of x < 65536) (λ j a. omega arith) (numbers_small s WholeJob bytes)

  pub job-told : Bytes s → ReadTold s WholeJob (read_job s)
  job-told bytes = job_holds (ReadTold s WholeJob) (λ j a. other-code s WholeJob (Ok j) (λ x. omega arith) (λ l m. omega arith)) (numbers_told s WholeJob bytes)

module _ (j : Job) (room : List ℕ) where
  pub written_job_codes : CodeIn (0 ∷ 1 ∷ 2 ∷ []) (job_answer j room)
  unfolding job_answer
  written_job_codes = asked_codes j.size (length (job_record j)) room

  pub written_job_told : RoomTold j.size (length (job_record j)) room (job_answer j room)
  unfolding job_answer
  written_job_told = asked_told j.size (length (job_record j)) room

  pub written_job_number : j.size < 65536 → number_of (job_answer j room) < 65536
  unfolding job_answer
  written_job_number h = asked_holds (λ a. number_of a < 65536) (omega arith) j.size (λ s. h) (length (job_record j)) room (λ e. omega arith)
