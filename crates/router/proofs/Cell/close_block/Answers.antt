use Rattle.std.proofs.Common.{◌≤◌, get_or, arith}
use Rattle.counting.proofs.Lists.{between_at}
use Rattle.loads.specs.Seated.{net_types}
use Rattle.router.proofs.Blocks.{left_next, left_none}
use Rattle.router.proofs.Cell.close_block.Goals as goal
use Rattle.router.proofs.Cell.close_block.Goals.{In-loop-j}

kind_at : (c : In-loop-j) → let kind = get_or (net_types c.args.seated.now) c.loop-j.j 0 in (1 ≤ kind) × (kind ≤ 6)
kind_at c =
    let seated = c.args.seated.now in
    between_at 1 6 _ _ seated.typed c.loop-j-test.true

pub close_net-requires : goal.close_net-requires
close_net-requires c = let k = kind_at (goal.at.close_net-requires c).In-loop-j in (k.0, k.1, omega arith)

pub loop-j-preserved : goal.loop-j-preserved
loop-j-preserved c = left_next _ _ _ _ _ _ _ _ c.loop-j-test.true (kind_at (goal.at.loop-j-preserved c).In-loop-j).0 c.close_net.ensures c.loop-j.invariant

pub returns : goal.returns
returns c = left_none _ _ _ _ _ _ _ (omega arith) c.loop-j.invariant
