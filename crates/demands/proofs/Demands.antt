-- The three demands hold. Assumes nothing.
use Prim.Native.Nat.{ℕ}
use mathlib.Core.Path.{◌≡◌, refl, sym, ap, ◌∙◌}
use mathlib.Core.List.{List}
use Rattle.counting.specs.Lists.{among}
use Rattle.answers.specs.Answer.{Done}
use Rattle.answers.proofs.Done.{is_done_lem, code-done}
use Rattle.answers.proofs.Retired.{not_retired}
use Rattle.answers.proofs.Lent.{room_stays}
use Rattle.wiring.specs.Frame.{frame}
use Rattle.wiring.proofs.Pigeon.{carried_within}
use Rattle.wiring.proofs.Frame.{frame_proper, pair_once}
use Rattle.wiring.proofs.Rule.{rule_closed}
use Rattle.frame.specs.declared.Counts.{Counts}
use Rattle.frame.specs.Leaves.{count_list}
use Rattle.router.specs.Route.{relays_for, map_for}
use Rattle.router.specs.Router.{route_answer, route_room}
use Rattle.router.proofs.Maps.{relays-below, relays_carry, map_is, map_carries}
use Rattle.router.proofs.Answering.{route_done, answers_done}
use Rattle.router.proofs.Told.{route_codes, route_told, route_overfull, route_no_sums}
use Rattle.map_check.proofs.Meaning.{check_first, check_is, is_check}
use Rattle.map_check.proofs.Told.{check_codes, check_told}
use Rattle.frame.specs.declared.Job.{Job}
use Rattle.jobs.specs.Format.{job_record}
use Rattle.jobs.specs.Write.{job_answer, job_room}
use Rattle.jobs.proofs.RoundTrip.{job_is_written, written_job_reads_back, job_written_again, refused-job, job-codes, job-told, written_job_codes, written_job_told}
use Rattle.patterns.specs.Format.{pattern_record}
use Rattle.patterns.specs.declared.Pattern.{Pattern}
use Rattle.patterns.specs.Read.{check_job, pattern_told, read_pattern}
use Rattle.patterns.specs.Write.{pattern_answer, pattern_room}
use Rattle.patterns.proofs.RoundTrip.{pattern_is_written, written_pattern_reads_back, pattern_rewritten, pattern_written_again, refused_pattern, accepted_part}
use Rattle.patterns.proofs.RoundTrip.{pattern_codes, pattern-told, map-told, written_pattern_codes, written_pattern_first, written_pattern_told}
use Rattle.listing.specs.Listing.{text_of}
use Rattle.listing.proofs.Texts.{list_codes, list_told, list_refused}
use Rattle.listing.proofs.Ends.{nets-listed}
use Rattle.demands.specs.Demands.{Pattern as JobPattern, Demand1, Demand2, Demand3}
use Rattle.demands.proofs.Parts.{no_map, part_bytes, refuses, tells_same}

pub demand_1 : Demand1
unfolding route_room job_room pattern_room
demand_1 = record {
  code_0 = code-done;
  done_0 = (refl, refl);
  not_retired = not_retired;
  read_job_same = λ s. tells_same _;
  read_pattern_same = λ s. tells_same _;
  list_same = λ s room. tells_same _;
  route_codes = route_codes;
  check_codes = check_codes;
  read_job_codes = job-codes;
  read_pattern_codes = pattern_codes;
  write_job_codes = written_job_codes;
  write_pattern_codes = written_pattern_codes;
  list_codes = list_codes;
  route_told = route_told;
  write_job_told = written_job_told;
  list_told = list_told;
  overfull_told = route_overfull;
  no_sums_beside = route_no_sums;
  check_told = check_told;
  check_first = check_first;
  write_pattern_first = written_pattern_first;
  write_pattern_told = written_pattern_told;
  read_job_told = job-told;
  read_pattern_told = pattern-told;
  read_pattern_map = map-told;
  router_refuses = λ W n room f. room_stays (route_answer W n room) (map_for W n) room f;
  job_writer_refuses = λ j room f. room_stays (job_answer j room) (job_record j) room f;
  pattern_writer_refuses = λ j map room f. room_stays (pattern_answer j map room) (pattern_record j map) room f;
  lister_refuses = list_refused;
  job_reader_refuses = λ s f. refused-job s (refuses _ f).1;
  pattern_reader_refuses = λ s f.
      let e = refused_pattern s (refuses _ f).1 in
      (ap (λ (p : Pattern). p.job) e, no_map s (pattern_told (read_pattern s)) (ap (λ (p : Pattern). p.len) e));
  no_default = λ W n room e. let r = route_done W n room (is_done_lem _ e) in rw r.front (map_carries W n r.within);
}

pub demand_3 : Demand3
demand_3 W n room s h = record {
  done_within = λ e. (route_done W n room (is_done_lem _ e)).within;
  within_carried = λ f. ((λ k. among k (relays_for W n)), relays_carry W n f);
  carried_done = λ c. answers_done W n room s.0 s.1 h (carried_within (frame W) (frame_proper W) (count_list n) c.0 c.1);
}

-- what the router gives is a pattern
pub routed_pattern : (W : ℕ) (n : Counts) (room : List ℕ) → route_answer W n room ≡ Done → JobPattern (record { size = W; counts = n }) (map_for W n)
routed_pattern W n room e = let r = route_done W n room (is_done_lem _ e) in (r.served, map_is W n r.within, map_carries W n r.within)

pattern_passes : (j : Job) (map : List ℕ) → JobPattern j map → check_job j map ≡ Done
pattern_passes j map p = is_check j.size (count_list j.counts) map p.0 p.1 p.2

pub demand_2 : Demand2
unfolding map_for text_of
demand_2 = record {
  pairs = pair_once;
  chosen = λ W n room closed s h c. let e = (demand_3 W n room s h).carried_done (closed, c) in (e, (route_done W n room (is_done_lem _ e)).after);
  rule_closed = λ W n room k e.
      let r = route_done W n room (is_done_lem _ e) in
      rw r.front (rule_closed (frame W).relays (relays_for W n) (relays-below W n r.within) k);
  pattern_written = λ j map room p h. pattern_is_written j map room (pattern_passes j map p) h;
  job_written = λ j room s h. job_is_written j room s h;
  routed_passes = λ W n room e. pattern_passes (record { size = W; counts = n }) (map_for W n) (routed_pattern W n room e);
  routed_written = λ j room record-room e h. pattern_is_written j (map_for j.size j.counts) record-room (pattern_passes j (map_for j.size j.counts) (routed_pattern j.size j.counts room e)) h;
  pattern_back = λ j map room e. let b = written_pattern_reads_back j map room e in (_, b.read, refl, b.same);
  job_back = written_job_reads_back;
  pattern_again = λ s b p e room h. pattern_written_again s b e room h;
  job_again = λ s b j e room h. job_written_again s b e room h;
  pattern_read = λ s b p e.
      let a = pattern_rewritten s b e in
      let c = check_is _ _ _ (part_bytes s p b) (is_done_lem _ a.passes) in
      (c.served, c.map, c.carries);
  pattern_part = λ s p e. accepted_part s e;
  lines = λ s j e f. rw e (nets-listed j (is_done_lem _ f)).text;
}

-- every public contract is an equation with a definition of what was handed in: two outcomes that it allows are equal
pub one_outcome : {A : Type 0} {meaning a b : A} → a ≡ meaning → b ≡ meaning → a ≡ b
one_outcome p q = p ∙ sym q
