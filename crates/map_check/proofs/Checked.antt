-- What callers of the map check ask of it: a map that passes has a size that is served and its length, a map of that length is not
-- refused for it, and the check's numbers are small. Assumes nothing.
use Prim.Native.Nat.{ℕ, ◌<◌}
use mathlib.Core.Path.{◌≡◌}
use mathlib.Core.List.{List}
use native.Mathlib.Omega.{arith}
use lib.ListN.{length}
use Rattle.answers.specs.Answer.{Answer, Done}
use Rattle.answers.specs.Table.{code_of, number_of}
use Rattle.answers.proofs.Done.{is_done_lem, both_done}
use Rattle.frame.specs.Leaves.{map_bytes}
use Rattle.frame.specs.Tests.{Served, size_test}
use Rattle.frame.proofs.Tests.{size_is}
use Rattle.map_check.specs.Check.{form_test, shared_test, map_test, closed_test, check_map}
use Rattle.map_check.proofs.Meaning.{form_long}
use Rattle.map_check.proofs.Grounds.{Refusals, closed_holds, check_holds}

pub record Checked (W : ℕ) (m : List ℕ) : Type 0 where
  pub served : Served W
  pub long : length m ≡ map_bytes W

pub checked : (W : ℕ) (n m : List ℕ) → check_map W n m ≡ Done → Checked W m
unfolding check_map closed_test map_test
checked W n m e =
    let c = both_done (closed_test W m) _ (is_done_lem _ e) in
    let d = both_done (size_test W) (map_test W m) c.0 in
    record { served = size_is W d.0; long = form_long W m (both_done (form_test W m) (shared_test W m) d.1).0 }

-- an answer with a small number, and code 2 only for a map of another length
pub record Mild (W : ℕ) (m : List ℕ) (a : Answer) : Type 0 where
  pub small : number_of a < 65536
  pub room : length m ≡ map_bytes W → code_of a ≡ 2 → ⊥

module _ (W : ℕ) (m : List ℕ) (h : W < 65536) where
  mild : Refusals (Mild W m) W m
  mild = record {
    done = record { small = omega arith; room = λ l z. omega arith };
    size = λ s. record { small = h; room = λ l z. omega arith };
    room = λ s e. record { small = omega (arith, s); room = λ l z. e l };
    spare = λ e. record { small = omega arith; room = λ l z. omega arith };
    shared = λ s k e. record { small = omega (arith, s, e.relay); room = λ l z. omega arith };
  }

  pub closed_mild : Mild W m (closed_test W m)
  closed_mild = closed_holds (Mild W m) W m mild

  pub check_mild : (n : List ℕ) → Mild W m (check_map W n m)
  check_mild n = check_holds (Mild W m) W m mild n (λ c e. record { small = omega (arith, e.upto); room = λ l z. omega arith })
