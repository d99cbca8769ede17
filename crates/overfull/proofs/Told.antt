-- What code 3 tells is true of the counts, and beside any other code there is no sum. Assumes nothing.
use Prim.Native.Nat.{ℕ, zero, suc, ◌≤◌}
use mathlib.Core.Path.{◌≡◌, refl, sym, ◌∙◌}
use mathlib.Core.Bool.{Bool, true, false, cond}
use mathlib.Core.List.{List}
use native.Mathlib.Omega.{arith}
use lib.Dec.{eqb}
use borrow.Author.Tests.{ltb-true, lt-ltb, eqb-false, ne_eqb}
use Rattle.std.specs.Prelude.{Err}
use Rattle.answers.specs.declared.Refusal.TheVariants.{Overfull}
use Rattle.answers.specs.Answer.{Answer, Done}
use Rattle.answers.specs.Table.{code_of, number_of}
use Rattle.wiring.specs.Wiring.{side_sum}
use Rattle.wiring.specs.Frame.{four}
use Rattle.wiring.specs.Check.{overfull_sides}
use Rattle.wiring.proofs.Frame.{four_rows, four-sums}
use Rattle.wiring.proofs.Overfull.{sides_below, sides_has, first_over, first-there}
use Rattle.frame.specs.declared.Counts.{Counts}
use Rattle.frame.specs.Leaves.{count_list}
use Rattle.overfull.specs.Overfull.{overfull_test, sums_of, no_sums, sum_at, sums_beside}
use Rattle.overfull.specs.Told.{SomeSide, SidesTold}

pub sum_at_lem : (n : List ℕ) (s : ℕ) → 1 ≤ s → s ≤ 4 → sum_at (sums_of n) s ≡ side_sum four n s
sum_at_lem n zero a b = absurd (omega arith)
sum_at_lem n (suc zero) a b = refl
sum_at_lem n (suc (suc zero)) a b = refl
sum_at_lem n (suc (suc (suc zero))) a b = refl
sum_at_lem n (suc (suc (suc (suc zero)))) a b = refl
sum_at_lem n (suc (suc (suc (suc (suc s))))) a b = absurd (omega arith)

module _ (W : ℕ) (n : Counts) where
  abbrev job : List ℕ
  job = count_list n

  abbrev sides : ℕ
  sides = overfull_sides four 4 W job

  -- where some side is overfull, the number has its bit
  some-side : (sides ≡ 0 → ⊥) → SomeSide sides
  some-side h =
      let f = first-there four 4 W job four_rows h in
      record { side = first_over four 4 W job; from = f.0; upto = f.1; has = sides_has four 4 W job _ f.0 f.1 ∙ f.2 }

  sides_told : (sides ≡ 0 → ⊥) → SidesTold W n sides (sums_of job)
  sides_told h = record {
    on_l = (four-sums job).0;
    on_t = (four-sums job).1;
    on_r = (four-sums job).2;
    on_b = (four-sums job).3;
    has_above = λ s a b e. rw (sum_at_lem job s a b) (ltb-true _ _ (sym (sides_has four 4 W job s a b) ∙ e));
    above_has = λ s a b l. sides_has four 4 W job s a b ∙ lt-ltb _ _ (rw (sum_at_lem job s a b) at l);
    some = some-side h;
    four = sides_below four 4 W job;
  }

  -- the test's answer tells that
  pub overfull_told : code_of (overfull_test W job) ≡ 3 → SidesTold W n (number_of (overfull_test W job)) (sums_beside (overfull_test W job) job)
  unfolding overfull_test sums_beside
  overfull_told = go (eqb sides 0) refl
    where
      go : (b : Bool) → eqb sides 0 ≡ b → let a = cond b Done (Err (Overfull sides)) in code_of a ≡ 3 → SidesTold W n (number_of a) (sums_beside a job)
      go true e x = absurd (omega arith)
      go false e x = sides_told (eqb-false sides 0 e)

-- no sum is left over
pub none_beside : (a : Answer) (n : List ℕ) → (code_of a ≡ 3 → ⊥) → sums_beside a n ≡ no_sums
unfolding sums_beside
none_beside a n h = rw (ne_eqb (code_of a) 3 h)
