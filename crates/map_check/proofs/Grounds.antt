-- The map check case by case: what holds of done, and of each refusal on its ground, holds of its answer. Assumes nothing.
use Prim.Native.Nat.{ℕ}
use mathlib.Core.Path.{◌≡◌, refl}
use mathlib.Core.Logic.{◌≢◌}
use mathlib.Core.Bool.{Bool, true, false, cond}
use mathlib.Core.List.{List}
use lib.Dec.{eqb, ltb, leb}
use lib.ListN.{length}
use borrow.Author.Tests.{eqb-false}
use Rattle.std.specs.Prelude.{Err}
use Rattle.answers.specs.declared.Refusal.TheVariants.{Size, Room, Spare, Shared, Count}
use Rattle.answers.specs.Answer.{Answer, Done}
use Rattle.answers.proofs.Done.{is_done_lem, and_then_lem, if_holds}
use Rattle.wiring.specs.Frame.{frame}
use Rattle.wiring.specs.Map.{closed_in}
use Rattle.wiring.specs.Check.{spare_set, clash_at, LowestSharing, wrong_type, WrongFirst}
use Rattle.frame.specs.Leaves.{map_bytes}
use Rattle.frame.specs.Tests.{Served}
use Rattle.frame.proofs.Tests.{size_is}
use Rattle.frame.proofs.Grounds.{size_holds}
use Rattle.map_check.specs.Check.{form_test, shared_test, map_test, counts_test, closed_test, check_map}
use Rattle.map_check.proofs.Meaning.{shared_is, count_is}

-- the refusals of a map that is to be closed
pub record Refusals (P : Answer → Type 0) (W : ℕ) (m : List ℕ) : Type 0 where
  pub done : P Done
  pub size : (Served W → ⊥) → P (Err (Size W))
  pub room : Served W → length m ≢ map_bytes W → P (Err (Room (map_bytes W)))
  pub spare : spare_set (frame W).relays m ≡ true → P (Err Spare)
  pub shared : Served W → (k : ℕ) → LowestSharing (frame W) (closed_in m) k → P (Err (Shared k))

module _ (P : Answer → Type 0) (W : ℕ) (m : List ℕ) (r : Refusals P W m) where
  form_holds : Served W → P (form_test W m)
  unfolding form_test
  form_holds s = go (eqb (length m) (map_bytes W)) refl
    where
      go : (b : Bool) → eqb (length m) (map_bytes W) ≡ b → P (cond b (cond (spare_set (frame W).relays m) (Err Spare) Done) (Err (Room (map_bytes W))))
      go true e = if_holds (spare_set (frame W).relays m) Spare P r.spare r.done
      go false e = r.room s (eqb-false _ _ e)

  shared_holds : Served W → P (shared_test W m)
  unfolding shared_test
  shared_holds s =
      if_holds (ltb (clash_at (frame W) (closed_in m)) (frame W).relays) (Shared (clash_at (frame W) (closed_in m))) P (λ e. r.shared s _ (shared_is W m _ (rw e))) r.done

  pub closed_holds : P (closed_test W m)
  unfolding closed_test map_test
  closed_holds = and_then_lem P _ _ (size_holds P r.done W r.size) (λ d. let s = size_is W (is_done_lem _ d) in and_then_lem P _ _ (form_holds s) (λ f. shared_holds s))

  counts_hold : (n : List ℕ) → ((c : ℕ) → WrongFirst (frame W) n (closed_in m) c → P (Err (Count c))) → P (counts_test W n m)
  unfolding counts_test
  counts_hold n count = if_holds (leb (wrong_type (frame W) n (closed_in m)) 6) (Count (wrong_type (frame W) n (closed_in m))) P (λ e. count _ (count_is W n m _ (rw e))) r.done

  -- and of one that is held to a job
  pub check_holds : (n : List ℕ) → ((c : ℕ) → WrongFirst (frame W) n (closed_in m) c → P (Err (Count c))) → P (check_map W n m)
  unfolding check_map
  check_holds n count = and_then_lem P _ _ closed_holds (λ s. counts_hold n count)
