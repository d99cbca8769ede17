-- What is promised of nets that are added and dropped one by one holds. Assumes nothing.
use Prim.Native.Nat.{ℕ}
use mathlib.Core.Path.{◌≡◌, sym, ap, ◌∙◌}
use mathlib.Core.List.{List}
use Rattle.answers.specs.Answer.{Done}
use Rattle.answers.proofs.Done.{is_done_lem, not_done, both_done}
use Rattle.answers.proofs.Lent.{room_stays}
use Rattle.wiring.specs.Frame.{frame}
use Rattle.wiring.specs.Map.{closed_in}
use Rattle.wiring.proofs.Change.{apart_ext, carries_none}
use Rattle.wiring.proofs.Map.{zeros_map, closed_zeros}
use Rattle.wiring.proofs.Calls.{closed_stands, stands_closed}
use Rattle.frame.specs.Leaves.{map_bytes}
use Rattle.frame.specs.Tests.{size_test}
use Rattle.frame.proofs.Tests.{size_is}
use Rattle.frame.proofs.Grounds.{asked_codes, asked_told}
use Rattle.router.specs.Route.{map_for}
use Rattle.map_check.proofs.Meaning.{Closable, closed_is, is_closed_map}
use Rattle.map_check.proofs.Told.{closed_told}
use Rattle.frame.specs.declared.Job.{Job}
use Rattle.changes.specs.Start.{open_answer, open_map, open_room, start_test}
use Rattle.changes.specs.Technician.{call_answer}
use Rattle.changes.proofs.Answers.{start_first, drop_not_there, drop-granted, start_codes, add_codes, drop_codes}
use Rattle.changes.proofs.Ways.{added_answer_lem, map-refused}
use Rattle.changes.proofs.Kept.{calls_closable, calls_closed}
use Rattle.changes.proofs.Promises.{named_lowest, add_own, add_opens_none, add_no_type, taken_nineteen, not_taken_done, nineteen_taken, dropped_own, dropped_free, dropped_serves, dropped_carries, added_carries}
use Rattle.demands.specs.Demands.{Pattern}
use Rattle.demands.specs.AddDrop.{Start, AddDrop}
use Rattle.demands.proofs.Parts.{tells_same}
use Rattle.demands.proofs.Demands.{routed_pattern}

-- a start is a map that may be closed, and the other way
closable : (W : ℕ) (m : List ℕ) → Start W m → Closable W m
closable W m s = closed_is W m s.0 (is_done_lem _ s.1)

starts : (W : ℕ) (m : List ℕ) → Closable W m → Start W m
starts W m x = (x.map.bytes, is_closed_map W m x)

-- what carries a job may be closed
pattern_closable : (j : Job) (m : List ℕ) → Pattern j m → Closable j.size m
pattern_closable j m p = record { served = p.0; map = p.1; apart = p.2.apart }

-- the open frame
open_closable : (W : ℕ) (room : List ℕ) → open_answer W room ≡ Done → Closable W (open_map W)
unfolding open_answer
open_closable W room e = record {
  served = size_is W (both_done (size_test W) _ (is_done_lem _ e)).0;
  map = zeros_map (frame W).relays;
  apart = apart_ext (frame W) _ (closed_in (open_map W)) (λ k h. sym (closed_zeros (map_bytes W) k)) (carries_none (frame W)).apart;
}

pub add_drop : AddDrop
unfolding open_answer open_room
add_drop = record {
  open_starts = λ W room e. (starts W (open_map W) (open_closable W room e), rw (is_done_lem _ e));
  routed_starts = λ W n room e. starts W (map_for W n) (pattern_closable (record { size = W; counts = n }) (map_for W n) (routed_pattern W n room e));
  pattern_starts = λ j m p. starts j.size m (pattern_closable j m p);
  start_refused = λ W m call f. start_first W m call (not_done (start_test W m) f);
  added = added_answer_lem;
  added_same = λ W m c. rw (← added_answer_lem W m c) (tells_same _);
  open_codes = λ W room. asked_codes W (map_bytes W) room;
  start_codes = start_codes;
  add_codes = add_codes;
  drop_codes = drop_codes;
  open_told = λ W room. asked_told W (map_bytes W) room;
  start_told = closed_told;
  opening_refused = λ W room f. room_stays (open_answer W room) (open_map W) room f;
  call_refused = λ W m call f. map-refused W m call (not_done (call_answer W m call) f);
  starts_again = λ W m calls s. starts W _ (calls_closable W m calls (closable W m s));
  apart = λ W m calls s. (calls_closable W m calls (closable W m s)).apart;
  closed_stands = λ W m calls k s h e. closed_stands (frame W) (closed_in m) calls k h (ap (λ closed. closed k) (sym (calls_closed W m calls (closable W m s))) ∙ e);
  stands_closed = λ W m calls k s h x. ap (λ closed. closed k) (calls_closed W m calls (closable W m s)) ∙ stands_closed (frame W) (closed_in m) calls k h x;
  lowest = named_lowest;
  add_own = λ W m c k s e. add_own W m (closable W m s) c k e;
  add_opens_none = λ W m c j s e. add_opens_none W m (closable W m s) c j e;
  type_refused = λ W m c s h. add_no_type W m (closable W m s) c h;
  none_free = λ W m c s a b t. taken_nineteen W m (closable W m s) c a b t;
  free_none = λ W m c s e. nineteen_taken W m (closable W m s) c e;
  some_free = λ W m c s a b f. not_taken_done W m (closable W m s) c a b f;
  drop_own = λ W m k s e. dropped_own W m (closable W m s) k e;
  drop_done = λ W m k s h e. drop-granted W m s.1 k h e;
  drop_refused = λ W m k s h. drop_not_there W m s.1 k h;
  freed = λ W m k s e. dropped_free W m (closable W m s) k e;
  freed_serves = λ W m k s e. dropped_serves W m (closable W m s) k e;
  add_carries = λ W m n c k s l y e. added_carries W m (closable W m s) n c k l y e;
  drop_carries = λ W m n k s l y e. dropped_carries W m (closable W m s) k e n l y;
}
