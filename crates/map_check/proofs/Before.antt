-- The map check as it was before row 14 was retired (requests, item 7), kept as history; and that it gave today's answer for every size,
-- counts and map. Assumes nothing.
use Prim.Native.Nat.{ℕ}
use mathlib.Core.Path.{◌≡◌, refl, ap}
use mathlib.Core.Logic.{inl, inr}
use mathlib.Core.Bool.{true, cond}
use mathlib.Core.List.{List}
use lib.Dec.{leb}
use Rattle.std.specs.Prelude.{Ok, Err}
use Rattle.answers.specs.Answer.{Answer, Done}
use Rattle.answers.specs.Table.{code_of, number_of}
use Rattle.answers.specs.Lent.{is_done, and_then}
use Rattle.answers.proofs.Done.{both_done}
use Rattle.answers.proofs.Before.{AnswerBefore, code_before, number_before}
use Rattle.wiring.specs.Frame.{four}
use Rattle.wiring.proofs.Overfull.{first_over, none_over}
use Rattle.frame.specs.Tests.{size_test}
use Rattle.map_check.specs.Check.{form_test, shared_test, map_test, counts_test, closed_test, check_map}
use Rattle.map_check.proofs.Meaning.{passed_within}

-- code 14: the first side, in the order L, T, R, B, that is asked for more than W nets
unfoldable pub sums_test_before : ℕ → List ℕ → AnswerBefore
sums_test_before W n = cond (leb (first_over four 4 W n) 4) (inr (first_over four 4 W n)) (inl Done)

-- the later tests' answer where the first says done; else the first one's
abbrev pub and_then_before : Answer → AnswerBefore → AnswerBefore
and_then_before (Ok x) more = more
and_then_before (Err r) more = inl (Err r)

-- the order 1, 2, 11, 12, 13, 14
unfoldable pub check_map_before : ℕ → List ℕ → List ℕ → AnswerBefore
check_map_before W n m = and_then_before (closed_test W m) (and_then_before (counts_test W n m) (sums_test_before W n))

module _ (W : ℕ) (n m : List ℕ) where
  sums_passed : is_done (closed_test W m) ≡ true → is_done (counts_test W n m) ≡ true → sums_test_before W n ≡ inl Done
  unfolding sums_test_before closed_test map_test
  sums_passed e f =
      let shared = (both_done (form_test W m) (shared_test W m) (both_done (size_test W) (map_test W m) e).1).1 in
      rw (none_over four 4 W n (passed_within W n m shared f))

  pub same_check : check_map_before W n m ≡ inl (check_map W n m)
  unfolding check_map_before check_map
  same_check = go (closed_test W m) (counts_test W n m) sums_passed
    where
      go : (a b : Answer) → (is_done a ≡ true → is_done b ≡ true → sums_test_before W n ≡ inl Done) → and_then_before a (and_then_before b (sums_test_before W n)) ≡ inl (and_then a b)
      go (Err r) b s = refl
      go (Ok x) (Err r) s = refl
      go (Ok x) (Ok y) s = s refl refl

  -- so that a caller was told the same code and number
  pub same-told : (code_before (check_map_before W n m) ≡ code_of (check_map W n m)) × (number_before (check_map_before W n m) ≡ number_of (check_map W n m))
  same-told = (ap code_before same_check, ap number_before same_check)
