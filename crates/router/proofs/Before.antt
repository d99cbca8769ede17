-- The router's answer as it was before all overfull sides were told at once (requests, item 3), kept as history; and that it can be read off
-- what is told today, for every size, counts and room. So nothing that was told is lost, and the codes 0, 1 and 2 are as they were.
-- Assumes nothing.
use Prim.Native.Nat.{ℕ}
use mathlib.Core.Path.{◌≡◌, refl}
use mathlib.Core.Logic.{◌⊎◌, inl, inr, ⊎_elim}
use mathlib.Core.Bool.{Bool, true, false, cond}
use mathlib.Core.List.{List}
use lib.Dec.{eqb, leb, ltb}
use lib.ListN.{length}
use borrow.Author.Tests.{eqb-true, eqb-false, le-leb}
use Rattle.counting.specs.Count.{first_from}
use Rattle.std.specs.Prelude.{Ok, Err}
use Rattle.answers.specs.declared.Refusal.TheVariants.{Room, Overfull}
use Rattle.answers.specs.Answer.{Answer, Done}
use Rattle.answers.specs.Table.{code_of, number_of}
use Rattle.answers.specs.Lent.{and_then, room_for}
use Rattle.wiring.specs.Wiring.{side_sum}
use Rattle.wiring.specs.Frame.{four}
use Rattle.wiring.specs.Check.{overfull_sides, has_side}
use Rattle.wiring.proofs.Frame.{four_rows}
use Rattle.wiring.proofs.Overfull.{none_within, first_over, first-there, none_over, first_bit}
use Rattle.frame.specs.declared.Counts.{Counts}
use Rattle.frame.specs.Leaves.{count_list, map_bytes}
use Rattle.frame.specs.Tests.{size_test}
use Rattle.frame.proofs.Tests.{size_tested}
use Rattle.overfull.specs.Overfull.{overfull_test, sum_at, sums_beside}
use Rattle.overfull.proofs.Told.{sum_at_lem}
use Rattle.router.specs.declared.Routed.{Routed}
use Rattle.router.specs.Router.{route_answer, routed}

-- one of today's answers, or one of the codes 3 to 6: an overfull side, 1 to 4 for L, T, R, B, with its sum
abbrev pub AnswerBefore : Type 0
AnswerBefore = Answer ⊎ (ℕ × ℕ)

-- the first overfull side in the order L, T, R, B
unfoldable pub overfull_before : ℕ → List ℕ → AnswerBefore
overfull_before W n = let s : ℕ = first_over four 4 W n in cond (leb s 4) (inr (s, side_sum four n s)) (inl Done)

-- a test's refusal, or what comes after it
abbrev pub unless_refused : Answer → AnswerBefore → AnswerBefore
unless_refused (Ok x) more = more
unless_refused (Err r) more = inl (Err r)

-- the order 1, 2, 3 to 6
unfoldable pub route_before : ℕ → Counts → List ℕ → AnswerBefore
route_before W n room = unless_refused (size_test W) (unless_refused (room_for (map_bytes W) room) (overfull_before W (count_list n)))

-- with code 3 the side of the lowest bit, and its sum
abbrev pub read_off : Routed → AnswerBefore
read_off told =
    let s : ℕ = first_from 1 4 (has_side (number_of told.answer)) in
    cond (eqb (code_of told.answer) 3) (inr (s, sum_at told.sums s)) (inl told.answer)

module _ (W : ℕ) (n : Counts) where
  abbrev job : List ℕ
  job = count_list n

  abbrev sides : ℕ
  sides = overfull_sides four 4 W job

  abbrev beside : Answer → Routed
  beside a = record { answer = a; sums = sums_beside a job }

  over-told : overfull_before W job ≡ read_off (beside (overfull_test W job))
  unfolding overfull_before overfull_test sums_beside
  over-told = go (eqb sides 0) refl
    where
      go : (b : Bool) → eqb sides 0 ≡ b → overfull_before W job ≡ read_off (beside (cond b Done (Err (Overfull sides))))
      go true e = rw (none_over four 4 W job (none_within four 4 W job four_rows (eqb-true _ _ e)))
      go false e =
          let f = first-there four 4 W job four_rows (eqb-false _ _ e) in
          rw (le-leb _ 4 f.1, first_bit four 4 W job, sum_at_lem job (first_over four 4 W job) f.0 f.1)

  pub same-told : (room : List ℕ) → route_before W n room ≡ read_off (routed W n room)
  unfolding route_before routed route_answer sums_beside
  same-told room = ⊎_elim (λ e. rw e (fits (ltb (length room) (map_bytes W)))) (λ e. rw e) (size_tested W)
    where
      fits : (b : Bool) → let r = cond b (Err (Room (map_bytes W))) Done in unless_refused r (overfull_before W job) ≡ read_off (beside (and_then r (overfull_test W job)))
      fits true = refl
      fits false = over-told
