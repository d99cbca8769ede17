-- The number beside a refused add names no relay: to drop it is refused at every start, so that a net is never opened by mistake for one
-- that was not added. Assumes nothing.
use Prim.Native.Nat.{ℕ}
use mathlib.Core.Path.{◌≡◌}
use mathlib.Core.List.{List}
use native.Mathlib.Omega.{arith}
use Rattle.std.specs.Prelude.{Err}
use Rattle.answers.specs.declared.Refusal.{Refusal}
use Rattle.answers.specs.declared.Refusal.TheVariants.{NotClosed}
use Rattle.answers.specs.Answer.{Done}
use Rattle.wiring.specs.Calls.{dropping}
use Rattle.changes.specs.Start.{start_test}
use Rattle.changes.specs.Technician.{call_answer}
use Rattle.changes.proofs.Answers.{start_served, drop_not_there}
use Rattle.frame_c.specs.Relay.{relay_told}

pub never_dropped : (W : ℕ) (m : List ℕ) (r : Refusal) → start_test W m ≡ Done → call_answer W m (dropping (relay_told (Err r))) ≡ Err (NotClosed (relay_told (Err r)))
never_dropped W m r s = drop_not_there W m s 65535 (λ h c. omega (arith, (start_served W m s).1))
