-- Laws of the map check's tests: what each way out of the code makes of the answer. Assumes nothing.
use Prim.Native.Nat.{ℕ, ◌+◌, ◌*◌, ◌-◌, ◌≤◌, ◌<◌}
use mathlib.Core.Path.{◌≡◌, sym}
use mathlib.Core.Bool.{true, false}
use mathlib.Core.List.{List}
use native.Mathlib.Omega.{arith}
use lib.ListN.{length}
use borrow.Author.Tests.{eq-eqb, ne_eqb, le-leb, lt-ltb, le-ltb}
use Rattle.std.specs.Prelude.{Err}
use Rattle.answers.specs.declared.Refusal.TheVariants.{Room, Spare, Shared, Count}
use Rattle.answers.specs.Answer.{Done}
use Rattle.counting.specs.Count.{count}
use Rattle.wiring.specs.Wiring.{nets, Apart, closed_of}
use Rattle.wiring.specs.Frame.{four, frame}
use Rattle.wiring.specs.Map.{closed_in}
use Rattle.wiring.specs.Check.{LowestSharing, WrongFirst}
use Rattle.wiring.proofs.Frame.{symmetric-counts}
use Rattle.wiring.proofs.Relays.{type_block}
use Rattle.wiring.proofs.Check.{spare-some, none_spare, none_clash, first_wrong, none_wrong}
use Rattle.frame.specs.Leaves.{map_bytes}
use Rattle.map_check.proofs.Clash.{lowest_clash}
use Rattle.map_check.specs.Check.{form_test, shared_test, counts_test}

-- codes 2 and 11, by the length needed as the code has it
module _ (W : ℕ) (m : List ℕ) (needed : ℕ) (e : needed ≡ map_bytes W) where
  pub form_room : (length m ≡ needed → ⊥) → Err (Room needed) ≡ form_test W m
  unfolding form_test
  form_room h = simp (← e, ne_eqb (length m) needed h)

  pub form_spare : (k : ℕ) → length m ≡ needed → 6 * W ≤ k → k < 8 * needed → closed_in m k ≡ true → Err Spare ≡ form_test W m
  unfolding form_test
  form_spare k h a b c = simp (← e, eq-eqb (length m) needed h, spare-some (6 * W) m k a (omega arith) c)

  pub form_done : length m ≡ needed → ((k : ℕ) → 6 * W ≤ k → k < 8 * needed → closed_in m k ≡ false) → Done ≡ form_test W m
  unfolding form_test
  form_done h f = simp (← e, eq-eqb (length m) needed h, none_spare (6 * W) m (λ k a b. f k a (omega arith)))

-- code 12
pub shared_here : (W : ℕ) (m : List ℕ) (k : ℕ) → LowestSharing (frame W) (closed_in m) k → Err (Shared k) ≡ shared_test W m
unfolding shared_test
shared_here W m k x = rw (lowest_clash (frame W) (closed_in m) k x, lt-ltb k (6 * W) x.relay)

pub shared_nowhere : (W : ℕ) (m : List ℕ) → Apart (frame W) (closed_in m) → Done ≡ shared_test W m
unfolding shared_test
shared_nowhere W m a = rw (none_clash (frame W) (closed_in m) a, le-ltb (6 * W) (6 * W) (omega arith))

-- code 13
pub count-here : (W : ℕ) (n m : List ℕ) (c : ℕ) → WrongFirst (frame W) n (closed_in m) c → Err (Count c) ≡ counts_test W n m
unfolding counts_test
count-here W n m c x = rw (first_wrong (frame W) n (closed_in m) c x, le-leb c 6 x.upto)

pub count_nowhere : (W : ℕ) (n m : List ℕ) → ((c : ℕ) → 1 ≤ c → c ≤ 6 → closed_of (frame W) (closed_in m) c ≡ nets n c) → Done ≡ counts_test W n m
unfolding counts_test
count_nowhere W n m h = rw (none_wrong (frame W) n (closed_in m) h)

-- the closed relays of type c are counted over its numbers, from (c - 1) * W to below c * W
pub type_counted : (W : ℕ) (m : List ℕ) (c : ℕ) → 1 ≤ c → c ≤ 6 → count (c * W - (c - 1) * W) (λ j. closed_in m ((c - 1) * W + j)) ≡ closed_of (frame W) (closed_in m) c
type_counted W m c a b =
    let e : c * W - (c - 1) * W ≡ W = omega (arith, type_block W 6 c a b) in
    rw e (sym (symmetric-counts four W (closed_in m) c a b))
