-- Done is the one answer of code 0; and tests one after the other. Assumes nothing.
use Prim.Native.Nat.{◌≤◌}
use mathlib.Core.Path.{◌≡◌, refl, sym, ◌∙◌}
use mathlib.Core.Bool.{Bool, true, false, cond}
use native.Mathlib.Omega.{arith}
use lib.Dec.{ltb}
use denote.Enum.Declared.{Choice}
use borrow.Author.Tests.{ltb-true}
use Rattle.std.specs.Prelude.{Result, Ok, Err, is_err}
use Rattle.answers.specs.contracts.Refusal.{the_parts as parts, as_values, the_make as make, the_eta as eta}
use Rattle.answers.proofs.Rows.{tests, passes, each_row}
use Rattle.answers.specs.declared.Refusal.{Refusal}
use Rattle.answers.specs.Answer.{Answer, Done, answer_of}
use Rattle.answers.specs.Table.{refusal_code, code_of, number_of}
use Rattle.answers.specs.Lent.{is_done, and_then}

-- a refusal's code is not 0
abbrev told : Choice parts → Bool
told row = ltb 0 (refusal_code (make row))

rows_told : tests parts told ≡ passes parts
rows_told = refl

pub refusal_coded : (r : Refusal) → 1 ≤ refusal_code r
refusal_coded r = rw (← eta r) (ltb-true 0 _ (each_row parts told rows_told (as_values r)))

pub code-done : (a : Answer) → code_of a ≡ 0 → a ≡ Done
code-done (Ok x) h = refl
code-done (Err r) h = absurd (omega (arith, h, refusal_coded r))

pub done_is : (a : Answer) → is_done a ≡ true → a ≡ Done
done_is (Ok x) h = refl
done_is (Err r) h = cc

pub is_done_lem : (a : Answer) → a ≡ Done → is_done a ≡ true
is_done_lem a h = rw h

pub refused : (a : Answer) → 1 ≤ code_of a → is_done a ≡ false
refused (Ok x) h = absurd (omega (arith, h))
refused (Err r) h = refl

pub not_done : (a : Answer) → (a ≡ Done → ⊥) → is_done a ≡ false
not_done (Ok x) f = absurd (f refl)
not_done (Err r) f = refl

pub both_done : (a b : Answer) → is_done (and_then a b) ≡ true → (is_done a ≡ true) × (is_done b ≡ true)
both_done (Ok x) b e = (refl, e)
both_done (Err r) b e = cc

-- a refusal of the first test is the answer
pub first-refused : (a b : Answer) → is_done a ≡ false → and_then a b ≡ a
first-refused (Ok x) b e = cc
first-refused (Err r) b e = refl

-- what `let Ok(x) = a else` tells its else
pub else_refused : (a : Answer) → is_err a ≡ true → is_done a ≡ false
else_refused (Ok x) h = cc
else_refused (Err r) h = refl

-- the same as code has it: the first test's answer x refuses, or it is done and the second's is the answer
pub by_first : (x a b : Answer) → x ≡ a → is_done x ≡ false → x ≡ and_then a b
by_first x a b e d = e ∙ sym (first-refused a b (rw e at d))

pub by_second : (x a b r : Answer) → x ≡ a → x ≡ Done → r ≡ b → r ≡ and_then a b
by_second x a b r e d f = rw (← e, d) f

-- what holds of the first test's answer, and of the second's where the first says done
pub and_then_lem : (P : Answer → Type 0) (a b : Answer) → P a → (a ≡ Done → P b) → P (and_then a b)
and_then_lem P (Ok x) b p q = q refl
and_then_lem P (Err r) b p q = p

-- what a call gives beside being done tells nothing of its own: code and number are those of its answer, and with code 0 that is done
pub same_told : {A : Type 0} (a : Result A Refusal) → (code_of a ≡ code_of (answer_of a)) × (number_of a ≡ number_of (answer_of a))
same_told (Ok x) = (refl, refl)
same_told (Err r) = (refl, refl)

pub given_done : {A : Type 0} (a : Result A Refusal) → code_of a ≡ 0 → answer_of a ≡ Done
given_done a e = code-done (answer_of a) (sym (same_told a).0 ∙ e)

-- a test that refuses where b passes, and one that refuses where it fails
module _ (b : Bool) (r : Refusal) where
  pub if_refuses : is_done (cond b (Err r) Done) ≡ true → b ≡ false
  if_refuses e = go b e
    where
      go : (t : Bool) → is_done (cond t (Err r) Done) ≡ true → t ≡ false
      go true e = cc
      go false e = refl

  pub if_passes : is_done (cond b Done (Err r)) ≡ true → b ≡ true
  if_passes e = go b e
    where
      go : (t : Bool) → is_done (cond t Done (Err r)) ≡ true → t ≡ true
      go true e = refl
      go false e = cc

  pub if_told : {x : Refusal} → cond b (Err r) Done ≡ Err x → (b ≡ true) × (r ≡ x)
  if_told {x} e = go b e
    where
      go : (t : Bool) → cond t (Err r) Done ≡ Err x → (t ≡ true) × (r ≡ x)
      go true e = (refl, cc)
      go false e = cc

  -- what holds of the refusal, where it is made, and of done
  pub if_holds : (P : Answer → Type 0) → (b ≡ true → P (Err r)) → P Done → P (cond b (Err r) Done)
  if_holds P p q = go b refl
    where
      go : (t : Bool) → b ≡ t → P (cond t (Err r) Done)
      go true e = p e
      go false e = q

  pub unless_holds : (P : Answer → Type 0) → P (Err r) → P Done → P (cond b Done (Err r))
  unless_holds P p q = go b
    where
      go : (t : Bool) → P (cond t Done (Err r))
      go true = q
      go false = p
