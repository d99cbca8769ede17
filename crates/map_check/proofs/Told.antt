-- The codes that the map check and the start's tests can give, and that their numbers are the table's. Assumes nothing.
use Prim.Native.Nat.{ℕ}
use mathlib.Core.Path.{refl}
use mathlib.Core.List.{List, [], ◌∷◌}
use native.Mathlib.Omega.{arith}
use Rattle.counting.specs.Lists.{among}
use Rattle.answers.specs.Table.{CodeIn}
use Rattle.map_check.specs.Check.{closed_test, check_map}
use Rattle.map_check.specs.Told.{MapTold}
use Rattle.map_check.proofs.Grounds.{Refusals, closed_holds, check_holds}

pub closed_codes : (W : ℕ) (m : List ℕ) → CodeIn (0 ∷ 1 ∷ 2 ∷ 11 ∷ 12 ∷ []) (closed_test W m)
unfolding among
closed_codes W m = closed_holds (CodeIn (0 ∷ 1 ∷ 2 ∷ 11 ∷ 12 ∷ [])) W m (record { done = refl; size = λ s. refl; room = λ s e. refl; spare = λ e. refl; shared = λ s k e. refl })

pub check_codes : (W : ℕ) (n m : List ℕ) → CodeIn (0 ∷ 1 ∷ 2 ∷ 11 ∷ 12 ∷ 13 ∷ []) (check_map W n m)
unfolding among
check_codes W n m =
    check_holds (CodeIn (0 ∷ 1 ∷ 2 ∷ 11 ∷ 12 ∷ 13 ∷ [])) W m (record { done = refl; size = λ s. refl; room = λ s e. refl; spare = λ e. refl; shared = λ s k e. refl }) n (λ c e. refl)

-- each number on its ground; the other codes are other numbers
module _ (W : ℕ) (n m : List ℕ) where
  told : Refusals (MapTold W n m) W m
  told = record {
    done = record { code1 = λ x. absurd (omega arith); code2 = λ x. absurd (omega arith); code11 = λ x. absurd (omega arith); code12 = λ x. absurd (omega arith); code13 = λ x. absurd (omega arith) };
    size = λ e. record { code1 = λ x. (refl, e); code2 = λ x. absurd (omega arith); code11 = λ x. absurd (omega arith); code12 = λ x. absurd (omega arith); code13 = λ x. absurd (omega arith) };
    room = λ s e. record { code1 = λ x. absurd (omega arith); code2 = λ x. (refl, e); code11 = λ x. absurd (omega arith); code12 = λ x. absurd (omega arith); code13 = λ x. absurd (omega arith) };
    spare = λ e. record { code1 = λ x. absurd (omega arith); code2 = λ x. absurd (omega arith); code11 = λ x. (refl, e); code12 = λ x. absurd (omega arith); code13 = λ x. absurd (omega arith) };
    shared = λ s k e. record { code1 = λ x. absurd (omega arith); code2 = λ x. absurd (omega arith); code11 = λ x. absurd (omega arith); code12 = λ x. e; code13 = λ x. absurd (omega arith) };
  }

  pub closed_told : MapTold W n m (closed_test W m)
  closed_told = closed_holds (MapTold W n m) W m told

  pub check_told : MapTold W n m (check_map W n m)
  check_told = check_holds (MapTold W n m) W m told n (λ c e.
      record { code1 = λ x. absurd (omega arith); code2 = λ x. absurd (omega arith); code11 = λ x. absurd (omega arith); code12 = λ x. absurd (omega arith); code13 = λ x. e })
