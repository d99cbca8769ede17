-- Every number that comes back fits 32 bits, whatever is handed in. Assumes nothing.
use Prim.Native.Nat.{ℕ, ◌<◌}
use mathlib.Core.Path.{◌≡◌}
use mathlib.Core.List.{List}
use native.Mathlib.Omega.{arith}
use lib.Dec.{eqb}
use Rattle.std.specs.Prelude.{Result, Ok, Err}
use Rattle.answers.specs.declared.Refusal.{Refusal}
use Rattle.answers.specs.declared.Refusal.TheVariants.{Overfull}
use Rattle.answers.specs.Answer.{answer_of}
use Rattle.answers.specs.Table.{number_of}
use Rattle.answers.proofs.Done.{unless_holds}
use Rattle.wiring.specs.Frame.{four}
use Rattle.wiring.specs.Check.{overfull_sides}
use Rattle.wiring.specs.Calls.{adding, dropping}
use Rattle.wiring.proofs.Overfull.{sides_below}
use Rattle.frame.specs.declared.Counts.{Counts}
use Rattle.frame.specs.Leaves.{count_list, map_bytes}
use Rattle.frame.proofs.Grounds.{asked_holds, routed_holds}
use Rattle.overfull.specs.Overfull.{overfull_test}
use Rattle.router.specs.Router.{route_answer, routed}
use Rattle.map_check.proofs.Grounds.{Refusals}
use Rattle.map_check.proofs.Checked.{closed_mild}
use Rattle.changes.specs.Start.{open_answer, start_test}
use Rattle.changes.specs.Technician.{call_answer}
use Rattle.changes.proofs.Answers.{add_holds, drop_holds}

-- the answer's number fits
abbrev pub Fits32 : {A : Type 0} → Result A Refusal → Type 0
Fits32 a = number_of a < 4294967296

-- the sum of 1, 2, 4, 8 is at most 15
over-fits : (W : ℕ) (n : List ℕ) → Fits32 (overfull_test W n)
unfolding overfull_test
over-fits W n =
    unless_holds (eqb (overfull_sides four 4 W n) 0) (Overfull (overfull_sides four 4 W n)) Fits32 (omega (arith, sides_below four 4 W n)) (omega arith)

pub route_fits : (W : ℕ) (n : Counts) (room : List ℕ) → W < 65536 → Fits32 (routed W n room).answer
unfolding routed route_answer
route_fits W n room h = routed_holds Fits32 (omega arith) W (λ e. omega arith) (map_bytes W) room (λ e. omega arith) _ (λ s r. over-fits W (count_list n))

-- nets one by one
pub open_fits : (W : ℕ) (room : List ℕ) → W < 65536 → Fits32 (open_answer W room)
unfolding open_answer
open_fits W room h = asked_holds Fits32 (omega arith) W (λ e. omega arith) (map_bytes W) room (λ e. omega arith)

pub start_fits : (W : ℕ) (m : List ℕ) → W < 65536 → Fits32 (start_test W m)
start_fits W m h = omega (arith, (closed_mild W m h).small)

small : (W : ℕ) (m : List ℕ) → W < 65536 → Refusals Fits32 W m
small W m h = record { done = omega arith; size = λ s. omega arith; room = λ s e. omega (arith, s); spare = λ e. omega arith; shared = λ s k e. omega (arith, s, e.relay) }

pub add_fits : (W : ℕ) (m : List ℕ) (c : ℕ) → W < 65536 → c < 65536 → Fits32 (call_answer W m (adding c))
add_fits W m c h k = add_holds Fits32 W m (small W m h) c (omega arith) (omega arith)

pub drop-fits : (W : ℕ) (m : List ℕ) (k : ℕ) → W < 65536 → k < 65536 → Fits32 (call_answer W m (dropping k))
drop-fits W m k h l = drop_holds Fits32 W m (small W m h) k (omega arith)

-- the number of an answer with what it gave is that without
pub answer_fits : {A : Type 0} (a : Result A Refusal) → Fits32 (answer_of a) → Fits32 a
answer_fits (Ok x) h = h
answer_fits (Err r) h = h

-- the other calls' numbers fit 16 bits
pub word_fits : {A : Type 0} (a b : Result A Refusal) → a ≡ b → number_of b < 65536 → Fits32 a
word_fits a b e h = rw e (omega arith)
