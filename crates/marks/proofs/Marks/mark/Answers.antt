use Prim.Native.Nat.{◌-◌}
use native.Mathlib.Omega.{arith}
use native.Mathlib.Nat.{one-mul}
use lib.Pow.{shl_exact}
use Rattle.marks.specs.Marks.{with_mark}
use Rattle.marks.proofs.Marks.mark.Goals as goal

pub returns : goal.returns
unfolding with_mark
returns c = rw (← c.self.view_is, shl_exact {a = 1} 1 (c.args.at.position - 1) 64 (omega arith) (omega arith), one-mul)
