-- What the map check means: it is done exactly for the maps that carry the job; past 12 and 13 no side sum is above the size; and what
-- the codes 12 and 13 name. Assumes nothing.
use Prim.Native.Nat.{ℕ, ◌≤◌}
use mathlib.Core.Path.{◌≡◌, refl}
use mathlib.Core.Bool.{Bool, true, false, cond}
use mathlib.Core.List.{List}
use native.Mathlib.Omega.{arith}
use lib.Dec.{eqb, ltb, leb}
use lib.ListN.{length}
use borrow.Author.Tests.{eqb-true, eq-eqb, ltb-true, ltb-false, leb-true, leb-false}
use Rattle.counting.specs.Lists.{Bytes}
use Rattle.std.specs.Prelude.{Err}
use Rattle.answers.specs.declared.Refusal.TheVariants.{Room, Spare, Shared, Count}
use Rattle.answers.specs.Answer.{Done}
use Rattle.answers.specs.Lent.{is_done}
use Rattle.answers.proofs.Done.{not_done, both_done, if_refuses, if_told, first-refused}
use Rattle.wiring.specs.Wiring.{nets, Within, Apart, closed_of}
use Rattle.wiring.specs.Frame.{four, frame}
use Rattle.wiring.specs.Map.{closed_in, IsMap, MapCarries}
use Rattle.wiring.specs.Check.{spare_set, clash_at, LowestSharing, wrong_type, WrongFirst}
use Rattle.wiring.proofs.Pigeon.{carried_within}
use Rattle.wiring.proofs.Frame.{frame_proper}
use Rattle.wiring.proofs.Check.{spare_none, clash_lowest, clash_none, wrong_first, wrong_none}
use Rattle.frame.specs.Leaves.{map_bytes}
use Rattle.frame.specs.Tests.{Served, size_test}
use Rattle.frame.proofs.Tests.{size_is, size_served}
use Rattle.map_check.specs.Check.{form_test, shared_test, map_test, counts_test, closed_test, check_map}
use Rattle.map_check.proofs.Ways.{form_done, shared_nowhere, count_nowhere}

module _ (W : ℕ) (m : List ℕ) where
  -- codes 2 and 11: the length, and with it the bytes are a map
  pub form_long : is_done (form_test W m) ≡ true → length m ≡ map_bytes W
  unfolding form_test
  form_long e = eqb-true _ _ (long (eqb (length m) (map_bytes W)) (spare_set (frame W).relays m) e)
    where
      long : (t u : Bool) → is_done (cond t (cond u (Err Spare) Done) (Err (Room (map_bytes W)))) ≡ true → t ≡ true
      long true u e = refl
      long false u e = cc

  form_map : Bytes m → is_done (form_test W m) ≡ true → IsMap (frame W).relays m
  unfolding form_test
  form_map b e = record { long = form_long e; bytes = b; spare = spare_none _ m (if_refuses _ Spare (rw (eq-eqb _ _ (form_long e)) at e)) }

  map_form : IsMap (frame W).relays m → Done ≡ form_test W m
  map_form a = form_done W m (map_bytes W) refl a.long (λ k p q. a.spare k p (omega (arith, a.long)))

  -- code 12
  shared_apart : is_done (shared_test W m) ≡ true → Apart (frame W) (closed_in m)
  unfolding shared_test
  shared_apart e = clash_none (frame W) (closed_in m) (ltb-false _ _ (if_refuses _ (Shared (clash_at (frame W) (closed_in m))) e))

  pub shared_is : (k : ℕ) → shared_test W m ≡ Err (Shared k) → LowestSharing (frame W) (closed_in m) k
  unfolding shared_test
  shared_is k e =
      let t = if_told (ltb (clash_at (frame W) (closed_in m)) (frame W).relays) _ e in
      let z : clash_at (frame W) (closed_in m) ≡ k = cc t.1 in
      rw (← z) (clash_lowest (frame W) (closed_in m) (ltb-true _ _ t.0))

  -- codes 1, 2, 11 and 12: the map may be closed
  pub record Closable : Type 0 where
    pub served : Served W
    pub map : IsMap (frame W).relays m
    pub apart : Apart (frame W) (closed_in m)

  pub closed_is : Bytes m → is_done (closed_test W m) ≡ true → Closable
  unfolding closed_test map_test
  closed_is b e =
      let x = both_done (size_test W) (map_test W m) e in
      let y = both_done (form_test W m) (shared_test W m) x.1 in
      record { served = size_is W x.0; map = form_map b y.0; apart = shared_apart y.1 }

  pub is_closed_map : Closable → closed_test W m ≡ Done
  unfolding closed_test map_test
  is_closed_map c = rw (← size_served W c.served.0 c.served.1, ← map_form c.map, ← shared_nowhere W m c.apart)

-- code 13
module _ (W : ℕ) (n m : List ℕ) where
  counts_right : is_done (counts_test W n m) ≡ true → (c : ℕ) → 1 ≤ c → c ≤ 6 → closed_of (frame W) (closed_in m) c ≡ nets n c
  unfolding counts_test
  counts_right e = wrong_none (frame W) n (closed_in m) (leb-false _ _ (if_refuses _ (Count (wrong_type (frame W) n (closed_in m))) e))

  pub count_is : (c : ℕ) → counts_test W n m ≡ Err (Count c) → WrongFirst (frame W) n (closed_in m) c
  unfolding counts_test
  count_is c e =
      let t = if_told (leb (wrong_type (frame W) n (closed_in m)) 6) _ e in
      let z : wrong_type (frame W) n (closed_in m) ≡ c = cc t.1 in
      rw (← z) (wrong_first (frame W) n (closed_in m) (leb-true _ _ t.0))

  -- past 12 and 13 the closed relays carry the job, and what is carried has no side sum above the size
  pub passed_within : is_done (shared_test W m) ≡ true → is_done (counts_test W n m) ≡ true → Within four W n
  passed_within e f = carried_within (frame W) (frame_proper W) n (closed_in m) (record { counts = counts_right f; apart = shared_apart W m e })

  -- a map that may not be closed is refused for that, whatever its job
  pub check_first : (closed_test W m ≡ Done → ⊥) → check_map W n m ≡ closed_test W m
  unfolding check_map
  check_first f = first-refused (closed_test W m) _ (not_done _ f)

  -- the map carries the job
  pub record Carried : Type 0 where
    pub served : Served W
    pub map : IsMap (frame W).relays m
    pub carries : MapCarries (frame W) n m

  pub check_is : Bytes m → is_done (check_map W n m) ≡ true → Carried
  unfolding check_map
  check_is b e =
      let x = both_done (closed_test W m) (counts_test W n m) e in
      let c = closed_is W m b x.0 in
      record { served = c.served; map = c.map; carries = record { counts = counts_right x.1; apart = c.apart } }

  pub is_check : Served W → IsMap (frame W).relays m → MapCarries (frame W) n m → check_map W n m ≡ Done
  unfolding check_map
  is_check s a d = rw (is_closed_map W m (record { served = s; map = a; apart = d.apart }), ← count_nowhere W n m d.counts)
