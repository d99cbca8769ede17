use Rattle.std.proofs.Common.{arith}
use Rattle.loads.proofs.Counts.{leaves_test}
use Rattle.loads.proofs.leaves.Goals as goal

pub returns-then-leaves_on-3 : goal.returns-then-leaves_on-3
returns-then-leaves_on-3 c = let e = leaves_test c.args.k c.args.n c.args.l c.requires in grind arith

pub returns-else-leaves_on-3 : goal.returns-else-leaves_on-3
returns-else-leaves_on-3 c = let e = leaves_test c.args.k c.args.n c.args.l c.requires in grind arith
