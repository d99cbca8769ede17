-- A number tested for its range: done where it is inside, else the refusal. Assumes nothing.
use Prim.Native.Nat.{ℕ, ◌≤◌}
use mathlib.Core.Path.{◌≡◌, refl}
use mathlib.Core.Bool.{Bool, true, false, cond}
use mathlib.Core.Logic.{◌⊎◌, inl, inr}
use Rattle.std.specs.Prelude.{Err}
use Rattle.counting.specs.Lists.{between}
use Rattle.counting.proofs.Lists.{between_is, is_between, not-between}
use Rattle.answers.specs.declared.Refusal.{Refusal}
use Rattle.answers.specs.Answer.{Answer, Done}
use Rattle.answers.specs.Lent.{is_done}
use Rattle.answers.proofs.Done.{if_passes}

abbrev pub range_test : ℕ → ℕ → ℕ → Refusal → Answer
range_test low high k refusal = cond (between low high k) Done (Err refusal)

module _ (low high k : ℕ) (refusal : Refusal) where
  pub in_range : low ≤ k → k ≤ high → Done ≡ range_test low high k refusal
  in_range a b = rw (is_between low high k a b)

  pub out_of_range : (low ≤ k → k ≤ high → ⊥) → Err refusal ≡ range_test low high k refusal
  out_of_range h = rw (not-between low high k h)

  pub range_is : is_done (range_test low high k refusal) ≡ true → (low ≤ k) × (k ≤ high)
  range_is e = between_is low high k (if_passes (between low high k) refusal e)

  pub range_tested : (range_test low high k refusal ≡ Done) ⊎ (range_test low high k refusal ≡ Err refusal)
  range_tested = go (between low high k)
    where
      go : (b : Bool) → (cond b Done (Err refusal) ≡ Done) ⊎ (cond b Done (Err refusal) ≡ Err refusal)
      go true = inl refl
      go false = inr refl
