-- Laws of the head, with which both records begin: that it reads back, and what a head that was read or refused tells. Assumes nothing.
use Prim.Native.Nat.{ℕ, ◌+◌, ◌≤◌}
use mathlib.Core.Path.{◌≡◌, refl}
use mathlib.Core.Logic.{inl, inr}
use mathlib.Core.Bool.{true}
use mathlib.Core.List.{List, ◌++◌}
use native.Mathlib.Nat.{add-zero, add_assoc}
use native.Mathlib.Omega.{arith}
use lib.ListN.{length, get_or, take, drop}
use Rattle.std.specs.Prelude.{Result, Ok, Err}
use Rattle.std.specs.Result.{MatchResult}
use Rattle.counting.specs.Lists.{Bytes}
use Rattle.answers.specs.declared.Refusal.{Refusal}
use Rattle.answers.specs.declared.Refusal.TheVariants.{Size}
use Rattle.answers.specs.Lent.{is_done, and_then}
use Rattle.frame.specs.Leaves.{count_list}
use Rattle.frame.specs.Tests.{Served, size_test}
use Rattle.frame.proofs.Tests.{size_served, size_is}
use Rattle.frame.proofs.Grounds.{size_holds}
use Rattle.fields.specs.Format.{words_of}
use Rattle.fields.specs.Read.{field_at}
use Rattle.fields.proofs.Fields.{FieldFound, found, faulty, there, if_goes_on, peel, word_back, word_bytes_lem, field_taken}
use Rattle.frame.specs.declared.Job.{Job}
use Rattle.jobs.specs.Format.{head_bytes}
use Rattle.jobs.specs.Read.{counts_at, read_head}
use Rattle.jobs.proofs.Grounds.{ReadRefusals, size_taken}

-- a head reads back, whatever stands after it
pub head_back : (j : Job) (rest : List ℕ) → Served j.size → read_head (head_bytes j ++ rest) ≡ Ok (j, length (head_bytes j))
unfolding read_head
head_back j rest served =
    let size : field_at (head_bytes j ++ rest) 0 1 1 ≡ Ok 3 = there _ 0 1 1 (record { place = refl; fits = omega arith; tagged = refl; sized = refl }) in
    let counts : field_at (head_bytes j ++ rest) 4 2 12 ≡ Ok 7 = there _ 4 2 12 (record { place = refl; fits = omega arith; tagged = refl; sized = refl }) in
    rw (size, ← size_served j.size served.0 served.1, counts) (simp word_back)

-- what a head that was read tells
pub record HeadFound (s : List ℕ) (j : Job) (next : ℕ) : Type 0 where
  pub served : Served j.size
  pub end : next ≡ length (head_bytes j)
  pub inside : next ≤ length s
  pub whole : Bytes s → take next s ≡ head_bytes j

module _ (s : List ℕ) (bytes : Bytes s) where
  counts_value : (v : ℕ) → v + 12 ≤ length s → take 12 (drop v s) ≡ words_of (count_list (counts_at s v))
  counts_value v h = rw (simp add-zero at (peel s v 12 h)) (simp (word_bytes_lem s bytes) (simp add_assoc))

  head_taken : {v w : ℕ} → FieldFound s 0 1 1 v → FieldFound s (v + 1) 2 12 w → take (w + 12) s ≡ head_bytes (record { size = get_or s v 0; counts = counts_at s w })
  head_taken {v} {w} f g = rw (size_taken s bytes f, counts_value w g.fits) at (field_taken s bytes g)

-- what holds both ways of the size's test holds of what follows
if_served : {A : Type 0} (P : Result A Refusal → Type 0) {more : Result A Refusal} (W : ℕ) → (Served W → P more) → ((Served W → ⊥) → P (Err (Size W)))
    → P (and_then (size_test W) more)
if_served P {more} W p q = size_holds (λ t. (is_done t ≡ true → Served W) → P (and_then t more)) (λ f. p (f refl)) W (λ n f. q n) (size_is W)

module _ (s : List ℕ) (P : Refusal → Type 0) (Whole : List ℕ → Type 0) (r : ReadRefusals P s Whole) where
  -- either way the reader has gone
  abbrev pub HeadWay : Result (Job × ℕ) Refusal → Type 0
  HeadWay x = MatchResult x (λ begun. HeadFound s begun.0 begun.1) P

  pub head_way : HeadWay (read_head s)
  unfolding read_head
  head_way =
      if_goes_on HeadWay (field_at s 0 1 1) (λ v e.
      let f = found s 0 1 1 e in
      if_served HeadWay (get_or s v 0) (λ served.
      if_goes_on HeadWay (field_at s (v + 1) 2 12) (λ w d.
      let g = found s (v + 1) 2 12 d in
      record { served = served; end = omega (arith, f, g); inside = g.fits; whole = λ b. head_taken s b f g })
      (λ a d. r.fault (v + 1) a (faulty s (v + 1) 2 12 d) f.fits (omega (arith, f)) (λ b. inr (inl (get_or s v 0, size_taken s b f)))))
      (λ n. r.size v f n))
      (λ a e. r.fault 0 a (faulty s 0 1 1 e) (omega arith) (omega arith) (λ b. inl refl))
