-- The nets laid down and those still to do are the nets of the row, and behind them the array is as it began.
use Prim.Native.Nat.{◌-◌}
use Rattle.loads.specs.Table.{row}
use Rattle.loads.proofs.NetList.{nets_from, Laid}
use Rattle.loads.proofs.rows.LoadTable.nets_of.Given as goal

abbrev pub invariant-loop-kind : goal.invariant-loop-kind
invariant-loop-kind l = Laid (row l.q) l.types l.m (nets_from (row l.q) (7 - l.kind) l.kind)
