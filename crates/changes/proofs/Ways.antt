-- Each way out of the code is an outcome of the definitions. Assumes nothing.
use Prim.Native.Nat.{ℕ}
use mathlib.Core.Path.{◌≡◌, refl}
use mathlib.Core.Bool.{true, false}
use mathlib.Core.List.{List}
use native.Mathlib.Omega.{arith}
use Rattle.std.specs.Prelude.{Ok, Err}
use Rattle.answers.specs.declared.Refusal.TheVariants.{NoneFree}
use Rattle.answers.specs.Answer.{Answer, Done, answer_of}
use Rattle.answers.specs.Lent.{is_done, and_then}
use Rattle.wiring.specs.Frame.{frame}
use Rattle.wiring.specs.Map.{closed_in, with_closed}
use Rattle.wiring.specs.Change.{AllTaken, LowestFree}
use Rattle.wiring.proofs.Free.{is_lowest, all_taken}
use Rattle.wiring.specs.Calls.{Call, adding}
use Rattle.changes.specs.Start.{start_test}
use Rattle.changes.specs.Technician.{type_test, relay_for, call_answer, carried_out, call_map, add_net}
use Rattle.changes.proofs.Answers.{add_full, add_granted}

-- the map after a call, by its answer
pub map-refused : (W : ℕ) (m : List ℕ) (call : Call) → is_done (call_answer W m call) ≡ false → call_map W m call ≡ m
unfolding call_map
map-refused W m call e = rw e

pub map-done : (W : ℕ) (m : List ℕ) (call : Call) → is_done (call_answer W m call) ≡ true → call_map W m call ≡ carried_out W m call
unfolding call_map
map-done W m call e = rw e

-- what adding gives has the call's answer
pub added_answer_lem : (W : ℕ) (m : List ℕ) (c : ℕ) → answer_of (add_net W m c) ≡ call_answer W m (adding c)
unfolding add_net
added_answer_lem W m c = go (call_answer W m (adding c))
  where
    go : (a : Answer) → answer_of (and_then a (Ok (relay_for W m c))) ≡ a
    go (Ok x) = refl
    go (Err r) = refl

-- past the tests of the start and of the type it is the relay that decides
module _ (W : ℕ) (m : List ℕ) (c : ℕ) (s : start_test W m ≡ Done) (t : type_test c ≡ Done) where
  pub add_none : AllTaken (frame W) (closed_in m) c → (Err (NoneFree c) ≡ add_net W m c) × (m ≡ call_map W m (adding c))
  unfolding add_net call_map
  add_none a = let f = add_full W m s c t (omega (arith, all_taken (frame W) (closed_in m) c a)) in (rw f, rw f)

  pub add_done : (k : ℕ) → LowestFree (frame W) (closed_in m) c k → {after : List ℕ} → after ≡ with_closed m k → (Ok k ≡ add_net W m c) × (after ≡ call_map W m (adding c))
  unfolding add_net call_map
  add_done k l f =
      let e = is_lowest (frame W) (closed_in m) c k l in
      let g = add_granted W m s c t (rw e l.there) in
      (rw (g, e), rw (g, e) f)
