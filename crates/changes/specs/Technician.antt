-- What a technician's calls give on a lent map (requests, item 4): what one answers, the map after it, and the map after a sequence of
-- them. Assumes nothing.
use Rattle.std.specs.Prelude.{ℕ, ◌&&◌, cond, List, [], ◌∷◌, ltb, Result, Ok, Err}
use Rattle.counting.specs.Lists.{between}
use Rattle.answers.specs.declared.Refusal.{Refusal}
use Rattle.answers.specs.declared.Refusal.TheVariants.{Kind, NoneFree, NotClosed}
use Rattle.answers.specs.Answer.{Answer, Done}
use Rattle.answers.specs.Lent.{is_done, and_then}
use Rattle.wiring.specs.Frame.{frame}
use Rattle.wiring.specs.Map.{closed_in, with_closed, with_open}
use Rattle.wiring.specs.Change.{lowest_free}
use Rattle.wiring.specs.Calls.{Call, adding, dropping}
use Rattle.changes.specs.Start.{start_test}

-- code 18: types are 1 to 6
unfoldable pub type_test : ℕ → Answer
type_test c = cond (between 1 6 c) Done (Err (Kind c))

-- the relay that a net of type c closes; 6 W, the number of relays, if the type has no free relay
abbrev pub relay_for : ℕ → List ℕ → ℕ → ℕ
relay_for W m c = lowest_free (frame W) (closed_in m) c

-- code 19: the type has no free relay
unfoldable pub free_test : ℕ → List ℕ → ℕ → Answer
free_test W m c = cond (ltb (relay_for W m c) (frame W).relays) Done (Err (NoneFree c))

-- code 20: the relay to drop is not there or not closed
unfoldable pub drop_test : ℕ → List ℕ → ℕ → Answer
drop_test W m k = cond (ltb k (frame W).relays && closed_in m k) Done (Err (NotClosed k))

-- what a call answers: the start's tests come first
unfoldable pub call_answer : ℕ → List ℕ → Call → Answer
call_answer W m (adding c) = and_then (start_test W m) (and_then (type_test c) (free_test W m c))
call_answer W m (dropping k) = and_then (start_test W m) (drop_test W m k)

-- the map with the call carried out
abbrev pub carried_out : ℕ → List ℕ → Call → List ℕ
carried_out W m (adding c) = with_closed m (relay_for W m c)
carried_out W m (dropping k) = with_open m k

-- the map after a call: a refused call changes nothing
unfoldable pub call_map : ℕ → List ℕ → Call → List ℕ
call_map W m call = cond (is_done (call_answer W m call)) (carried_out W m call) m

-- the map after a sequence of calls
unfoldable pub calls_map : ℕ → List ℕ → List Call → List ℕ
calls_map W m [] = m
calls_map W m (call ∷ calls) = calls_map W (call_map W m call) calls

-- what adding gives: the relay that it closed, or its refusal
unfoldable pub add_net : ℕ → List ℕ → ℕ → Result ℕ Refusal
add_net W m c = and_then (call_answer W m (adding c)) (Ok (relay_for W m c))
