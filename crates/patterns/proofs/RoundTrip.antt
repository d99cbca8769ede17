-- The pattern records' round trip: what is written reads back, what is accepted is written again as the same bytes, a refusal gives no
-- job and no map; and what the codes and numbers tell. Assumes nothing.
use Prim.Native.Nat.{ℕ, ◌+◌, ◌≤◌, ◌<◌}
use mathlib.Core.Path.{◌≡◌, refl, sym, ap, ◌∙◌}
use mathlib.Core.Logic.{inr}
use mathlib.Core.Bool.{false}
use mathlib.Core.List.{List, [], ◌∷◌}
use native.Mathlib.Omega.{arith}
use lib.ListN.{length, take, drop, length-drop}
use lib.Seq.{take_all, take-append_seam, length-take-le}
use lib.Dec.{ltb}
use borrow.Author.Tests.{ltb-true, ltb-false, lt-ltb, le-ltb, le-leb}
use Rattle.std.specs.Prelude.{Result, Ok, Err}
use Rattle.std.specs.Result.{IfOk}
use Rattle.std.proofs.lemmas.Result.{IfOk-at_ok}
use Rattle.counting.specs.Lists.{among, Bytes}
use Rattle.answers.specs.declared.Refusal.{Refusal}
use Rattle.answers.specs.declared.Refusal.TheVariants.{Room, After}
use Rattle.answers.specs.Answer.{Answer, Done, answer_of}
use Rattle.answers.specs.Table.{refusal_code, code_of, number_of, CodeIn}
use Rattle.answers.specs.Lent.{is_done, and_then, room_for, over}
use Rattle.answers.proofs.Done.{and_then_lem, if_holds}
use Rattle.answers.proofs.Lent.{asked_done, done-fits}
use Rattle.frame.specs.Leaves.{count_list, map_bytes}
use Rattle.frame.specs.Tests.{Served}
use Rattle.frame.specs.Told.{RoomTold}
use Rattle.map_check.proofs.Grounds.{check_holds}
use Rattle.map_check.proofs.Checked.{checked, check_mild}
use Rattle.map_check.proofs.Told.{check_codes}
use Rattle.fields.specs.Format.{field}
use Rattle.fields.specs.Read.{field_at}
use Rattle.fields.proofs.Fields.{FieldFound, found, there, faulty, fault_range, either, if_goes_on, word_back, field_taken}
use Rattle.frame.specs.declared.Job.{Job}
use Rattle.jobs.specs.Format.{head_bytes}
use Rattle.jobs.specs.Read.{read_head}
use Rattle.jobs.specs.Told.{ReadTold}
use Rattle.jobs.proofs.Grounds.{ReadRefusals, in_codes, numbers_small, other-code, numbers_told}
use Rattle.jobs.proofs.Heads.{HeadFound, head_back, head_way}
use Rattle.patterns.specs.declared.Pattern.{Pattern}
use Rattle.patterns.specs.Format.{pattern_record}
use Rattle.patterns.specs.Read.{part, check_job, map_at, read_pattern, empty_pattern, pattern_told}
use Rattle.patterns.specs.Part.{map_part}
use Rattle.patterns.specs.Write.{pattern_answer, pattern_room}
use Rattle.patterns.specs.Told.{WholePattern, MapRefused}

pub pattern_length : (j : Job) (map : List ℕ) → length map ≡ map_bytes j.size → length (pattern_record j map) ≡ 22 + map_bytes j.size
pattern_length j map e = omega arith

-- the part that a read tells
pub part_inside : (s : List ℕ) (p : Pattern) → p.start + p.len ≤ length s → map_part s p ≡ part s p.start p.len
unfolding map_part
part_inside s p h = simp (le-leb (p.start + p.len) (length s) h)

-- bytes after the map are refused, with the place of the first
pub bytes_after : (s : List ℕ) (j : Job) (start : ℕ) {m : ℕ} → m ≡ map_bytes j.size → start + m < length s → Err (After (start + m)) ≡ map_at s j start
unfolding map_at
bytes_after s j start e h = rw (← e) (simp (lt-ltb _ _ h))

-- ---- writing, then reading

pub pattern_is_written : (j : Job) (map room : List ℕ) → check_job j map ≡ Done → length (pattern_record j map) ≤ length room → pattern_answer j map room ≡ Done
unfolding pattern_answer
pattern_is_written j map room ok fits = asked_done (check_job j map) (length (pattern_record j map)) (pattern_record j map) room ok fits

-- what a record reads back as: the map starts where a record of no map would end
abbrev pub reads : Job → Pattern
reads j = record { job = j; start = length (pattern_record j []); len = map_bytes j.size }

module _ (j : Job) (map : List ℕ) (ok : check_job j map ≡ Done) where
  pub pattern_reads_back : read_pattern (pattern_record j map) ≡ Ok (reads j)
  unfolding read_pattern map_at
  pattern_reads_back =
      let c = checked _ _ _ ok in
      let third : field_at (pattern_record j map) (length (head_bytes j)) 3 (map_bytes j.size) ≡ Ok (length (pattern_record j [])) =
      there _ _ _ _ (record { place = refl; fits = omega (arith, c); tagged = refl; sized = word_back (length map) ∙ c.long }) in
      let all : take (map_bytes j.size) map ≡ map = take_all (map_bytes j.size) map (omega (arith, c)) in
      rw (head_back j (field 3 map) c.served, third)
      (simp (le-ltb (length (pattern_record j []) + map_bytes j.size) (length (pattern_record j map)) (omega (arith, c)))
      (rw (all, ok)))

  pub map_reads_back : map_part (pattern_record j map) (reads j) ≡ map
  map_reads_back =
      let c = checked _ _ _ ok in
      part_inside (pattern_record j map) (reads j) (omega (arith, c)) ∙ take_all (map_bytes j.size) map (omega (arith, c))

-- what a writer that said done left in the room reads back: the same job, and the same map as the part that is told
pub record ReadsBack (j : Job) (map s : List ℕ) : Type 0 where
  pub read : read_pattern s ≡ Ok (reads j)
  pub same : map_part s (reads j) ≡ map

pub written_pattern_reads_back : (j : Job) (map room : List ℕ) → pattern_answer j map room ≡ Done → ReadsBack j map (take (length (pattern_record j map)) (pattern_room j map room))
unfolding pattern_answer pattern_room
written_pattern_reads_back j map room e =
    let ok = (done-fits (check_job j map) (length (pattern_record j map)) (pattern_record j map) room e).0 in
    rw (e, take-append_seam (pattern_record j map) (drop (length (pattern_record j map)) room))
    (record { read = pattern_reads_back j map ok; same = map_reads_back j map ok })

-- ---- reading, then writing

-- an accepted record: its map lies inside it and passes the check, and the job's and the map's record is the same bytes
pub record AcceptedPattern (s : List ℕ) (p : Pattern) : Type 0 where
  pub served : Served p.job.size
  pub inside : p.start + p.len ≤ length s
  pub passes : check_job p.job (map_part s p) ≡ Done
  pub same : pattern_record p.job (map_part s p) ≡ s

-- what holds of a map that the check refuses, where nothing stands after it
abbrev MapRefusals : (Refusal → Type 0) → List ℕ → Type 0
MapRefusals P s =
    (j : Job) (map : List ℕ) → Served j.size → length map ≡ map_bytes j.size → (Bytes s → s ≡ pattern_record j map)
    → (r : Refusal) → check_job j map ≡ Err r → 11 ≤ refusal_code r → P r

-- a map of the right length, of a size that is served, is refused by code 11, 12 or 13
refused-map : (j : Job) (map : List ℕ) → Served j.size → length map ≡ map_bytes j.size → {r : Refusal} → check_job j map ≡ Err r → 11 ≤ refusal_code r
refused-map j map s l e =
    let late = check_holds (λ a. is_done a ≡ false → 11 ≤ code_of a) j.size map
    (record { done = λ d. cc; size = λ n d. absurd (n s); room = λ x n d. absurd (n l); spare = λ e d. omega arith; shared = λ x k e d. omega arith })
    (count_list j.counts) (λ c e d. omega arith) in
    (rw e at late) refl

-- what holds of a pattern that was accepted, and of each refusal on its ground, holds of what the reader gives
module _ (s : List ℕ) (P : Result Pattern Refusal → Type 0) (p : (x : Pattern) → x.start + x.len ≤ length s → (Bytes s → AcceptedPattern s x) → P (Ok x))
    (r : ReadRefusals (λ x. P (Err x)) s WholePattern) (q : MapRefusals (λ x. P (Err x)) s) where
  map_holds : {j : Job} {next v : ℕ} → HeadFound s j next → FieldFound s next 3 (map_bytes j.size) v → P (map_at s j v)
  unfolding map_at
  map_holds {j} {next} {v} h f =
      let m : ℕ = map_bytes j.size in
      let pattern : Pattern = record { job = j; start = v; len = m } in
      let long : length (part s v m) ≡ m = length-take-le m (drop v s) (simp length-drop (omega (arith, f))) in
      let here : map_part s pattern ≡ part s v m = part_inside s pattern f.fits in
      either P (ltb (v + m) (length s)) (λ t.
      r.after (v + m) (ltb-true _ _ t) (omega (arith, h, f)) (λ b. (j, part s v m, long, rw (h.whole b) at (field_taken s b f)))) (λ t.
      let whole : Bytes s → s ≡ pattern_record j (part s v m) = λ b. sym (take_all (v + m) s (ltb-false _ _ t)) ∙ rw (h.whole b) at (field_taken s b f) in
      if_goes_on P (check_job j (part s v m)) (λ u d.
      p pattern f.fits (λ b. record { served = h.served; inside = f.fits; passes = rw here d; same = rw here (sym (whole b)) })) (λ x d.
      q j (part s v m) h.served long whole x d (refused-map j (part s v m) h.served long d)))

  pattern_holds : P (read_pattern s)
  unfolding read_pattern
  pattern_holds =
      if_goes_on P (read_head s) (λ begun e.
      let j = begun.0 in
      let next = begun.1 in
      let h = rw e at (head_way s (λ x. P (Err x)) WholePattern r) in
      if_goes_on P (field_at s next 3 (map_bytes j.size)) (λ v d. map_holds h (found _ _ _ _ d))
      (λ x d. r.fault next x (faulty _ _ _ _ d) h.inside (omega (arith, h)) (λ b. inr (inr (j, h.whole b)))))
      (λ x e. rw e at (head_way s (λ x. P (Err x)) WholePattern r))

module _ (s : List ℕ) where
  -- of a pattern that was accepted
  accepted_holds : (P : Pattern → Type 0) → ((p : Pattern) → p.start + p.len ≤ length s → (Bytes s → AcceptedPattern s p) → P p) → IfOk (read_pattern s) P
  accepted_holds P p =
      pattern_holds s (λ x. IfOk x P) p (record { size = λ v f n. tt; fault = λ at r f h l b. tt; after = λ at h l b. tt }) (λ j map w l b r e h. tt)

  pub pattern_rewritten : Bytes s → {p : Pattern} → read_pattern s ≡ Ok p → AcceptedPattern s p
  pattern_rewritten bytes e = IfOk-at_ok (AcceptedPattern s) e (accepted_holds (AcceptedPattern s) (λ p l a. a bytes))

  -- the writer does not refuse what the reader accepted, and the same bytes come out
  pub pattern_written_again : Bytes s → {p : Pattern} → read_pattern s ≡ Ok p → (room : List ℕ) → length s ≤ length room
      → (pattern_answer p.job (map_part s p) room ≡ Done) × (pattern_room p.job (map_part s p) room ≡ over s room)
  unfolding pattern_room
  pattern_written_again bytes e room fits =
      let a = pattern_rewritten bytes e in
      let d = pattern_is_written _ _ room a.passes (omega (arith, ap length a.same)) in
      (d, rw d (ap (λ (l : List ℕ). over l room) a.same))

  -- the map of an accepted record is the part at the place that is told, inside the record
  pub accepted_part : {p : Pattern} → read_pattern s ≡ Ok p → (p.start + p.len ≤ length s) × (map_part s p ≡ part s p.start p.len)
  accepted_part {p} e =
      let inside = IfOk-at_ok (λ p. p.start + p.len ≤ length s) e (accepted_holds (λ p. p.start + p.len ≤ length s) (λ p l a. l)) in
      (inside, part_inside s p inside)

  -- size 0, six counts of 0 and a map of no bytes
  pub refused_pattern : {r : Refusal} → read_pattern s ≡ Err r → pattern_told (read_pattern s) ≡ empty_pattern
  refused_pattern e = rw e

  -- ---- what the codes and numbers tell

  pub pattern_codes : CodeIn (0 ∷ 1 ∷ 7 ∷ 8 ∷ 9 ∷ 10 ∷ 11 ∷ 12 ∷ 13 ∷ []) (read_pattern s)
  unfolding among
  pattern_codes =
      pattern_holds s (CodeIn (0 ∷ 1 ∷ 7 ∷ 8 ∷ 9 ∷ 10 ∷ 11 ∷ 12 ∷ 13 ∷ [])) (λ p l a. refl) (in_codes s WholePattern (11 ∷ 12 ∷ 13 ∷ [])) (λ j map w l b r e h.
      rw e at (check_holds (CodeIn (0 ∷ 1 ∷ 7 ∷ 8 ∷ 9 ∷ 10 ∷ 11 ∷ 12 ∷ 13 ∷ [])) j.size map
      (record { done = refl; size = λ n. refl; room = λ x n. absurd (n l); spare = λ e. refl; shared = λ x k e. refl }) (count_list j.counts) (λ c e. refl)))

  module _ (bytes : Bytes s) where
    pub pattern_number : number_of (read_pattern s) < 65536
    pattern_number =
        pattern_holds s (λ x. number_of x < 65536) (λ p l a. omega arith) (numbers_small s WholePattern bytes)
        (λ j map w l b r e h. rw e at ((check_mild j.size map (omega (arith, w)) (count_list j.counts)).small))

    pub pattern-told : ReadTold s WholePattern (read_pattern s)
    pattern-told =
        pattern_holds s (ReadTold s WholePattern) (λ p l a. other-code s WholePattern (Ok p) (λ x. omega arith) (λ p q. omega arith)) (numbers_told s WholePattern bytes)
        (λ j map w l b r e h. other-code s WholePattern (Err r) (λ x. omega arith) (λ p q. omega arith))

    pub map-told : 11 ≤ code_of (read_pattern s) → MapRefused s (answer_of (read_pattern s))
    map-told =
        pattern_holds s (λ x. 11 ≤ code_of x → MapRefused s (answer_of x)) (λ p l a x. absurd (omega arith))
        (record { size = λ v f n x. absurd (omega arith); fault = λ at r f h l b x. absurd (omega (arith, fault_range f)); after = λ at h l b x. absurd (omega arith) })
        (λ j map w l b r e h x. (j, map, l, b bytes, sym e))

module _ (j : Job) (map room : List ℕ) where
  -- the length needed
  abbrev needed : ℕ
  needed = length (pattern_record j map)

  by_answer : (P : Answer → Type 0) → P (check_job j map) → (check_job j map ≡ Done → P (Err (Room needed))) → P (pattern_answer j map room)
  unfolding pattern_answer
  by_answer P c p = and_then_lem P (check_job j map) _ c (λ d. if_holds (ltb (length room) needed) (Room needed) P (λ t. p d) (rw d at c))

  -- the map check comes first, and then the room
  pub written_pattern_first : (check_job j map ≡ Done → ⊥) → pattern_answer j map room ≡ check_job j map
  unfolding pattern_answer
  written_pattern_first n = go (check_job j map) n
    where
      go : (a : Answer) → (a ≡ Done → ⊥) → and_then a (room_for needed room) ≡ a
      go (Ok x) f = absurd (f refl)
      go (Err r) f = refl

  pub written_pattern_told : check_job j map ≡ Done → RoomTold j.size (length (pattern_record j map)) room (pattern_answer j map room)
  unfolding pattern_answer
  written_pattern_told ok =
      rw ok
      (if_holds (ltb (length room) needed) (Room needed) (RoomTold j.size needed room)
      (λ t. record { code1 = λ x. absurd (omega arith); code2 = λ x. (refl, ltb-true _ _ t) })
      (record { code1 = λ x. absurd (omega arith); code2 = λ x. absurd (omega arith) }))

  pub written_pattern_codes : CodeIn (0 ∷ 1 ∷ 2 ∷ 11 ∷ 12 ∷ 13 ∷ []) (pattern_answer j map room)
  unfolding among
  written_pattern_codes = by_answer (CodeIn (0 ∷ 1 ∷ 2 ∷ 11 ∷ 12 ∷ 13 ∷ [])) (check_codes j.size (count_list j.counts) map) (λ d. refl)

  pub written_pattern_number : j.size < 65536 → number_of (pattern_answer j map room) < 65536
  written_pattern_number h =
      by_answer (λ a. number_of a < 65536) (check_mild j.size map h (count_list j.counts)).small (λ d. omega (arith, checked j.size (count_list j.counts) map d))
