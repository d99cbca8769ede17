-- The readers' refusals case by case: what holds of each on its ground; and so their codes, and what their numbers tell. Assumes nothing.
use Prim.Native.Nat.{ℕ, ◌+◌, ◌≤◌, ◌<◌}
use mathlib.Core.Path.{◌≡◌, refl, ◌∙◌}
use mathlib.Core.Bool.{true}
use mathlib.Core.List.{List, [], ◌∷◌}
use native.Mathlib.Omega.{arith}
use lib.ListN.{length, get_or, take}
use lib.Seq.{drop-cons}
use Rattle.std.specs.Prelude.{Result, Err}
use Rattle.counting.specs.Lists.{among, Bytes}
use Rattle.counting.proofs.Bools.{or_left}
use Rattle.counting.proofs.Lists.{among-append, member_there}
use Rattle.answers.specs.declared.Refusal.{Refusal}
use Rattle.answers.specs.declared.Refusal.TheVariants.{Size, After}
use Rattle.answers.specs.Table.{refusal_code, refusal_number, code_of}
use Rattle.frame.specs.Tests.{Served}
use Rattle.fields.proofs.Fields.{FieldFound, Fault, fault_range, field_taken}
use Rattle.jobs.specs.Format.{size_field, HeadFields}
use Rattle.jobs.specs.Told.{ReadTold}

-- a size that is not served, a field, and bytes after a whole record
pub record ReadRefusals (P : Refusal → Type 0) (s : List ℕ) (Whole : List ℕ → Type 0) : Type 0 where
  pub size : (v : ℕ) → FieldFound s 0 1 1 v → (Served (get_or s v 0) → ⊥) → P (Size (get_or s v 0))
  pub fault : (at : ℕ) (r : Refusal) → Fault at r → at ≤ length s → at < 65536 → (Bytes s → HeadFields s at) → P r
  pub after : (at : ℕ) → at < length s → at < 65536 → (Bytes s → Whole (take at s)) → P (After at)

pub size_taken : (s : List ℕ) → Bytes s → {v : ℕ} → FieldFound s 0 1 1 v → take (v + 1) s ≡ size_field (get_or s v 0)
size_taken s bytes {v} f = rw (drop-cons s v 0 (omega (arith, f))) at (field_taken s bytes f)

fault_codes : (last : List ℕ) (n : ℕ) → among n (7 ∷ 8 ∷ 9 ∷ []) ≡ true → among n (0 ∷ 1 ∷ 7 ∷ 8 ∷ 9 ∷ 10 ∷ last) ≡ true
fault_codes last n e =
    member_there n 0 _
    (member_there n 1 _ (among-append n (7 ∷ 8 ∷ 9 ∷ []) (10 ∷ last) ∙ or_left (among n (7 ∷ 8 ∷ 9 ∷ [])) (among n (10 ∷ last)) e))

module _ (s : List ℕ) (Whole : List ℕ → Type 0) where
  pub in_codes : (last : List ℕ) → ReadRefusals (λ r. among (refusal_code r) (0 ∷ 1 ∷ 7 ∷ 8 ∷ 9 ∷ 10 ∷ last) ≡ true) s Whole
  unfolding among
  in_codes last = record { size = λ v f n. refl; fault = λ at r f h l b. fault_codes last (refusal_code r) f.coded; after = λ at h l b. refl }

  -- of the other codes nothing is told
  pub other-code : {A : Type 0} (a : Result A Refusal) → (code_of a ≡ 1 → ⊥) → (7 ≤ code_of a → code_of a ≤ 10 → ⊥) → ReadTold s Whole a
  other-code a p q = record { code1 = λ x. absurd (p x); code7to9 = λ l m. absurd (q l (omega arith)); code10 = λ x. absurd (q (omega arith) (omega arith)) }

  module _ (bytes : Bytes s) where
    pub numbers_small : ReadRefusals (λ r. refusal_number r < 65536) s Whole
    numbers_small = record { size = λ v f n. omega (arith, bytes v); fault = λ at r f h l b. omega (arith, f.offset); after = λ at h l b. l }

    pub numbers_told : {A : Type 0} → ReadRefusals (λ r. ReadTold {A = A} s Whole (Err r)) s Whole
    numbers_told = record {
      size = λ v f n. record { code1 = λ x. (rw (four v f) at (size_taken s bytes f), n); code7to9 = λ p q. absurd (omega arith); code10 = λ x. absurd (omega arith) };
      fault = λ at r f h l b. let range = fault_range f in
          record { code1 = λ x. absurd (omega arith); code7to9 = λ p q. rw f.offset (b bytes, h); code10 = λ x. absurd (omega arith) };
      after = λ at h l b. record { code1 = λ x. absurd (omega arith); code7to9 = λ p q. absurd (omega arith); code10 = λ x. (b bytes, h) };
    }
      where
        four : (v : ℕ) → FieldFound s 0 1 1 v → v + 1 ≡ 4
        four v f = omega (arith, f)
