-- A size's test and a lent room's, case by case: what holds of done, and of each refusal on its ground, holds of the answer. Assumes nothing.
use Prim.Native.Nat.{ℕ, ◌≤◌, ◌<◌}
use mathlib.Core.Path.{refl}
use mathlib.Core.Logic.{⊎_elim}
use mathlib.Core.List.{List, [], ◌∷◌}
use native.Mathlib.Omega.{arith}
use lib.Dec.{ltb}
use lib.ListN.{length}
use borrow.Author.Tests.{ltb-true}
use Rattle.counting.specs.Lists.{among}
use Rattle.std.specs.Prelude.{Err}
use Rattle.answers.specs.declared.Refusal.TheVariants.{Size, Room}
use Rattle.answers.specs.Answer.{Answer, Done}
use Rattle.answers.specs.Table.{CodeIn}
use Rattle.answers.specs.Lent.{and_then, room_for}
use Rattle.answers.proofs.Done.{is_done_lem, and_then_lem, if_holds}
use Rattle.answers.proofs.Lent.{room_is}
use Rattle.frame.specs.Tests.{Served, size_test}
use Rattle.frame.specs.Told.{RoomTold}
use Rattle.frame.proofs.Tests.{size_served, size_is, size_tested}

module _ (P : Answer → Type 0) (done : P Done) (W : ℕ) (size : (Served W → ⊥) → P (Err (Size W))) where
  pub size_holds : P (size_test W)
  size_holds = ⊎_elim (λ e. rw e done) (λ e. rw e (size (λ s. cc (size_served W s.0 s.1, e)))) (size_tested W)

  module _ (needed : ℕ) (room : List ℕ) (short : length room < needed → P (Err (Room needed))) where
    room_holds : P (room_for needed room)
    room_holds = if_holds (ltb (length room) needed) (Room needed) P (λ e. short (ltb-true _ _ e)) done

    pub asked_holds : P (and_then (size_test W) (room_for needed room))
    asked_holds = and_then_lem P _ _ size_holds (λ s. room_holds)

    -- a job's tests come last: the size is served then, and the room long enough
    pub routed_holds : (job : Answer) → (Served W → needed ≤ length room → P job) → P (and_then (size_test W) (and_then (room_for needed room) job))
    routed_holds job p = and_then_lem P _ _ size_holds (λ s. and_then_lem P _ _ room_holds (λ r. p (size_is W (is_done_lem _ s)) (room_is needed room (is_done_lem _ r))))

-- so of a size and a room: the codes, and what their numbers tell
module _ (W needed : ℕ) (room : List ℕ) where
  pub asked_codes : CodeIn (0 ∷ 1 ∷ 2 ∷ []) (and_then (size_test W) (room_for needed room))
  unfolding among
  asked_codes = asked_holds (CodeIn (0 ∷ 1 ∷ 2 ∷ [])) refl W (λ s. refl) needed room (λ e. refl)

  pub routed-told : (job : Answer) → RoomTold W needed room job → RoomTold W needed room (and_then (size_test W) (and_then (room_for needed room) job))
  routed-told job p =
      routed_holds (RoomTold W needed room) (record { code1 = λ x. absurd (omega arith); code2 = λ x. absurd (omega arith) }) W
      (λ s. record { code1 = λ x. (refl, s); code2 = λ x. absurd (omega arith) }) needed room
      (λ e. record { code1 = λ x. absurd (omega arith); code2 = λ x. (refl, e) }) job (λ s r. p)

  pub asked_told : RoomTold W needed room (and_then (size_test W) (room_for needed room))
  asked_told =
      asked_holds (RoomTold W needed room) (record { code1 = λ x. absurd (omega arith); code2 = λ x. absurd (omega arith) }) W
      (λ s. record { code1 = λ x. (refl, s); code2 = λ x. absurd (omega arith) }) needed room
      (λ e. record { code1 = λ x. absurd (omega arith); code2 = λ x. (refl, e) })
