-- What the calls keep, on maps: on a map that may be closed they do what the calls over relays do, and leave one that may be closed.
-- Assumes nothing.
use Prim.Native.Nat.{ℕ}
use mathlib.Core.Path.{◌≡◌, refl, ap, ◌∙◌, fun_ext}
use mathlib.Core.Bool.{Bool, true, false, ◌&&◌, cond}
use mathlib.Core.List.{List, [], ◌∷◌}
use native.Mathlib.Omega.{arith}
use lib.Dec.{ltb}
use borrow.Author.Tests.{ltb-true, le-ltb}
use Rattle.std.specs.Prelude.{Ok, Err}
use Rattle.answers.specs.declared.Refusal.{Refusal}
use Rattle.answers.specs.declared.Refusal.TheVariants.{NoneFree, NotClosed}
use Rattle.answers.specs.Answer.{Answer, Done}
use Rattle.answers.specs.Lent.{is_done, and_then}
use Rattle.wiring.specs.Frame.{frame}
use Rattle.wiring.specs.Map.{closed_in, IsMap}
use Rattle.wiring.specs.Calls.{Call, adding, dropping, granted, changed, after, after_all}
use Rattle.wiring.proofs.Frame.{frame_proper}
use Rattle.wiring.proofs.Map.{closed_closed, closed_opened, byte_of, closed_map, opened_map}
use Rattle.wiring.proofs.Free.{no_type}
use Rattle.wiring.proofs.Calls.{after-granted, after-refused, after-apart}
use Rattle.map_check.proofs.Meaning.{Closable, is_closed_map}
use Rattle.changes.specs.Start.{start_test}
use Rattle.changes.specs.Technician.{type_test, relay_for, free_test, drop_test, call_answer, carried_out, call_map, calls_map}
use Rattle.changes.proofs.Answers.{type_there}
use Rattle.changes.proofs.Ways.{map-refused, map-done}

-- a test that answers done exactly if it passes
cond-done : (b : Bool) (r : Refusal) → is_done (cond b Done (Err r)) ≡ b
cond-done true r = refl
cond-done false r = refl

free_test_lem : (W : ℕ) (m : List ℕ) (c : ℕ) → is_done (free_test W m c) ≡ ltb (relay_for W m c) (frame W).relays
unfolding free_test
free_test_lem W m c = cond-done (ltb (relay_for W m c) (frame W).relays) (NoneFree c)

drop_test_lem : (W : ℕ) (m : List ℕ) (k : ℕ) → is_done (drop_test W m k) ≡ (ltb k (frame W).relays && closed_in m k)
unfolding drop_test
drop_test_lem W m k = cond-done (ltb k (frame W).relays && closed_in m k) (NotClosed k)

-- a type that is not there has no relay, so no free one
type_and_free : (W : ℕ) (m : List ℕ) (c : ℕ) → is_done (and_then (type_test c) (free_test W m c)) ≡ ltb (relay_for W m c) (frame W).relays
type_and_free W m c = go (type_test c) refl
  where
    go : (a : Answer) → type_test c ≡ a → is_done (and_then a (free_test W m c)) ≡ ltb (relay_for W m c) (frame W).relays
    go (Ok x) e = free_test_lem W m c
    go (Err r) e = rw (no_type (frame W) (closed_in m) c (frame_proper W) (λ a b. cc (type_there c a b)), le-ltb (frame W).relays (frame W).relays (omega arith))

-- past the start's tests a call is done exactly if it is granted
pub done-granted : (W : ℕ) (m : List ℕ) (call : Call) → start_test W m ≡ Done → is_done (call_answer W m call) ≡ granted (frame W) (closed_in m) call
unfolding call_answer
done-granted W m (adding c) s = rw s (type_and_free W m c)
done-granted W m (dropping k) s = rw s (drop_test_lem W m k)

module _ (W : ℕ) (m : List ℕ) (x : Closable W m) where
  start : start_test W m ≡ Done
  start = is_closed_map W m x

  -- carried out, the relays and the map change alike
  carried_closed : (call : Call) → granted (frame W) (closed_in m) call ≡ true → closed_in (carried_out W m call) ≡ changed (frame W) (closed_in m) call
  carried_closed (adding c) e = fun_ext (λ j. closed_closed m (relay_for W m c) j (byte_of (frame W).relays m x.map (relay_for W m c) (ltb-true _ _ e)))
  carried_closed (dropping k) e = fun_ext (λ j. closed_opened m k j)

  carried_map : (call : Call) → granted (frame W) (closed_in m) call ≡ true → IsMap (frame W).relays (carried_out W m call)
  carried_map (adding c) e = closed_map (frame W).relays m (relay_for W m c) x.map (ltb-true _ _ e)
  carried_map (dropping k) e = opened_map (frame W).relays m k x.map

  -- what is closed after a call
  pub call_closed : (call : Call) → closed_in (call_map W m call) ≡ after (frame W) (closed_in m) call
  call_closed call = go (granted (frame W) (closed_in m) call) refl
    where
      go : (b : Bool) → granted (frame W) (closed_in m) call ≡ b → closed_in (call_map W m call) ≡ after (frame W) (closed_in m) call
      go true e = rw (map-done W m call (done-granted W m call start ∙ e), after-granted (frame W) (closed_in m) call e) (carried_closed call e)
      go false e = rw (map-refused W m call (done-granted W m call start ∙ e), after-refused (frame W) (closed_in m) call e)

  call_map_lem : (call : Call) → IsMap (frame W).relays (call_map W m call)
  call_map_lem call = go (granted (frame W) (closed_in m) call) refl
    where
      go : (b : Bool) → granted (frame W) (closed_in m) call ≡ b → IsMap (frame W).relays (call_map W m call)
      go true e = rw (map-done W m call (done-granted W m call start ∙ e)) (carried_map call e)
      go false e = rw (map-refused W m call (done-granted W m call start ∙ e)) x.map

  -- the map after a call may be closed
  pub call_closable : (call : Call) → Closable W (call_map W m call)
  call_closable call = record {
    served = x.served;
    map = call_map_lem call;
    apart = rw (call_closed call) (after-apart (frame W) (closed_in m) call x.apart);
  }

-- and after a sequence of calls
pub calls_closable : (W : ℕ) (m : List ℕ) (calls : List Call) → Closable W m → Closable W (calls_map W m calls)
unfolding calls_map
calls_closable W m [] x = x
calls_closable W m (call ∷ calls) x = calls_closable W (call_map W m call) calls (call_closable W m x call)

pub calls_closed : (W : ℕ) (m : List ℕ) (calls : List Call) → Closable W m → closed_in (calls_map W m calls) ≡ after_all (frame W) (closed_in m) calls
unfolding calls_map after_all
calls_closed W m [] x = refl
calls_closed W m (call ∷ calls) x = calls_closed W (call_map W m call) calls (call_closable W m x call) ∙ ap (λ closed. after_all (frame W) closed calls) (call_closed W m x call)
