use native.Mathlib.Omega.{arith}
use Rattle.frame.proofs.Tests.{size_served, size-refused}
use Rattle.frame.proofs.test_size.Goals as goal
use Rattle.frame.proofs.test_size.Goals.{then-size-eq0-via-then-size-eq0, then-size-eq0-via-else-size-eq0+then-size-gt64}

pub returns-then-size-eq0 : goal.returns-then-size-eq0
returns-then-size-eq0 c = elim c.then-size-eq0.branch [
  | then-size-eq0-via-then-size-eq0 w ↦ size-refused _ (λ a b. omega (arith, w.if-size-eq0.true))
  | then-size-eq0-via-else-size-eq0+then-size-gt64 w ↦ size-refused _ (λ a b. omega (arith, w.if-size-gt64.true))
]

pub returns : goal.returns
returns c = size_served _ (omega arith) (omega arith)
