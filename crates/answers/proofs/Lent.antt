-- Lent room: long enough or not, and what a call that tests, asks for room and then writes leaves in it. Assumes nothing.
use Prim.Native.Nat.{ℕ, ◌+◌, ◌≤◌, ◌<◌}
use mathlib.Core.Path.{◌≡◌, sym, ap, ◌∙◌}
use mathlib.Core.Bool.{true}
use mathlib.Core.List.{List, ◌++◌}
use native.Mathlib.Nat.{zero-add}
use native.Mathlib.Omega.{arith}
use lib.ListN.{length, drop}
use lib.Seq.{sets, sets-eq}
use lib.Dec.{ltb}
use borrow.Author.Tests.{ltb-false, lt-ltb, le-ltb}
use Rattle.std.specs.Prelude.{Err}
use Rattle.answers.specs.declared.Refusal.{Refusal}
use Rattle.answers.specs.declared.Refusal.TheVariants.{Room}
use Rattle.answers.specs.Answer.{Answer, Done}
use Rattle.answers.specs.Lent.{is_done, and_then, room_for, over, lent_after}
use Rattle.answers.proofs.Done.{done_is, is_done_lem, not_done, both_done, if_refuses}

-- room that is long enough
pub room_is : (needed : ℕ) (room : List ℕ) → is_done (room_for needed room) ≡ true → needed ≤ length room
room_is needed room e = ltb-false (length room) needed (if_refuses (ltb (length room) needed) (Room needed) e)

pub room_short : (needed : ℕ) (room : List ℕ) → length room < needed → room_for needed room ≡ Err (Room needed)
room_short needed room h = rw (lt-ltb (length room) needed h)

pub room-long : (needed : ℕ) (room : List ℕ) → needed ≤ length room → room_for needed room ≡ Done
room-long needed room h = rw (le-ltb (length room) needed h)

-- bytes that fit, put at the start, and past them the room as it was
pub put_over : (room bytes : List ℕ) → length bytes ≤ length room → sets room 0 bytes ≡ over bytes room
put_over room bytes h =
    let fits : 0 + length bytes ≤ length room = omega arith in
    sets-eq bytes room 0 fits ∙ ap (λ (k : ℕ). bytes ++ drop k room) (zero-add (length bytes))

pub room_stays : (a : Answer) (bytes room : List ℕ) → (a ≡ Done → ⊥) → lent_after a bytes room ≡ room
room_stays a bytes room f = rw (not_done a f)

-- a call's answer and the room as it leaves it, where `meant` is what it is to answer and the bytes what it is to write
abbrev pub Outcome : Answer → List ℕ → List ℕ → Answer → List ℕ → Type 0
Outcome meant bytes room answer after = (answer ≡ meant) × (after ≡ lent_after meant bytes room)

module _ (meant : Answer) (bytes room : List ℕ) where
  pub out_refused : (r : Refusal) → meant ≡ Err r → Outcome meant bytes room (Err r) room
  out_refused r e = (sym e, rw e)

  pub out_done : {after : List ℕ} → meant ≡ Done → after ≡ over bytes room → Outcome meant bytes room Done after
  out_done e f = (sym e, f ∙ rw e)

-- a test, and then room for the bytes
module _ (test : Answer) (needed : ℕ) (bytes room : List ℕ) where
  abbrev pub asked : Answer
  asked = and_then test (room_for needed room)

  pub test_refuses : (r : Refusal) → test ≡ Err r → Outcome asked bytes room (Err r) room
  test_refuses r e = out_refused asked bytes room r (rw e)

  pub room_refuses : {n : ℕ} → test ≡ Done → n ≡ needed → length room < n → Outcome asked bytes room (Err (Room n)) room
  room_refuses {n} d e h = out_refused asked bytes room (Room n) (rw (d, ← e) (room_short n room h))

  pub asked_done : test ≡ Done → needed ≤ length room → asked ≡ Done
  asked_done d h = rw (d, room-long needed room h)

  pub written : {after : List ℕ} → test ≡ Done → needed ≤ length room → after ≡ over bytes room → Outcome asked bytes room Done after
  written d h e = out_done asked bytes room (asked_done d h) e

  pub done-fits : asked ≡ Done → (test ≡ Done) × (needed ≤ length room)
  done-fits e = let d = both_done test (room_for needed room) (is_done_lem _ e) in (done_is test d.0, room_is needed room d.1)

-- bytes put at the start of the room, as the writers put them
pub all_put : (test : Answer) (bytes room : List ℕ) {after : List ℕ} → test ≡ Done → length bytes ≤ length room → after ≡ sets room 0 bytes
    → Outcome (and_then test (room_for (length bytes) room)) bytes room Done after
all_put test bytes room d h e = written test (length bytes) bytes room d h (e ∙ put_over room bytes h)

-- a test, then room, then the tests of the job: what a router answers, whatever its frame and its rule
module _ (test : Answer) (needed : ℕ) (job : Answer) (bytes room : List ℕ) where
  abbrev pub routed : Answer
  routed = and_then test (and_then (room_for needed room) job)

  pub out_test : (r : Refusal) → test ≡ Err r → Outcome routed bytes room (Err r) room
  out_test r e = out_refused routed bytes room r (rw e)

  pub out_room : {n : ℕ} → test ≡ Done → n ≡ needed → length room < n → Outcome routed bytes room (Err (Room n)) room
  out_room {n} d e h = out_refused routed bytes room (Room n) (rw (d, ← e) (rw (room_short n room h)))

  pub out_job : (r : Refusal) → test ≡ Done → needed ≤ length room → job ≡ Err r → Outcome routed bytes room (Err r) room
  out_job r d h e = out_refused routed bytes room r (rw (d, room-long needed room h) e)

  pub all_done : test ≡ Done → needed ≤ length room → job ≡ Done → routed ≡ Done
  all_done d h e = rw (d, room-long needed room h) e

  pub done_all : routed ≡ Done → (test ≡ Done) × (needed ≤ length room) × (job ≡ Done)
  done_all e =
      let a = both_done test (and_then (room_for needed room) job) (is_done_lem _ e) in
      let b = both_done (room_for needed room) job a.1 in
      (done_is test a.0, room_is needed room b.0, done_is job b.1)
