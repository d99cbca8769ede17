use Rattle.std.proofs.Common.{◌+◌, ◌-◌, arith}
use Rattle.loads.specs.Table.{row}
use Rattle.loads.proofs.Table.{row_two}
use Rattle.loads.proofs.Seats.{row_known}
use Rattle.loads.proofs.NetList.{todo, Laid, filled_none, filled_type, filled_pass, filled_next, filled_all, front_none, laid_net}
use Rattle.loads.proofs.rows.LoadTable.nets_of.Goals as goal
use Rattle.loads.proofs.rows.LoadTable.nets_of.Goals.{After-nets_at-nets, Joined-nets-ge1, then-nets-ge1, else-nets-ge1, then-nets-ge2, else-nets-ge2}

-- what is to do when the type's nets are known, and when the first of them is laid down, if there is one
known : (c : After-nets_at-nets) → Laid (row c.args.q) c.loop-kind.types c.loop-kind.m (todo (row c.args.q) c.loop-kind.kind (c.nets_at-nets.result - 0))
known c = (c.loop-kind.invariant.0, filled_type (row c.args.q) _ c.loop-kind.kind _ c.loop-kind-test.true c.nets_at-nets.ensures c.loop-kind.invariant.1)

once : (c : Joined-nets-ge1) → Laid (row c.args.q) c.if-nets-ge1.types c.if-nets-ge1.m (todo (row c.args.q) c.loop-kind.kind (c.nets_at-nets.result - (0 + 1)))
once c =
    let first : Laid (row c.args.q) c.loop-kind.types c.loop-kind.m (todo (row c.args.q) c.loop-kind.kind (c.nets_at-nets.result - 0)) =
    (c.loop-kind.invariant.0, filled_type (row c.args.q) _ c.loop-kind.kind _ c.loop-kind-test.true c.nets_at-nets.ensures c.loop-kind.invariant.1) in
    elim c.if-nets-ge1.branch [
      | then-nets-ge1 w ↦ rw (w.types-is, w.m-is) (laid_net _ _ _ _ _ 0 first w.if-nets-ge1.true).1
      | else-nets-ge1 w ↦ rw (w.types-is, w.m-is) (first.0, filled_pass _ _ _ _ 0 first.1 (omega (arith, w.if-nets-ge1.false)))
    ]

pub loop-kind-init : goal.loop-kind-init
loop-kind-init c = (front_none, filled_none _ (row_known _ c.requires).four)

pub bounds-types-m : goal.bounds-types-m
bounds-types-m c = (laid_net _ _ _ _ _ 0 (known (goal.at.bounds-types-m c).After-nets_at-nets) c.if-nets-ge1.true).0

pub bounds-types-m-then-nets-ge2 : goal.bounds-types-m-then-nets-ge2
bounds-types-m-then-nets-ge2 c = (laid_net _ _ _ _ _ (0 + 1) (once (goal.at.bounds-types-m-then-nets-ge2 c).Joined-nets-ge1) (omega arith)).0

pub loop-kind-preserved : goal.loop-kind-preserved
loop-kind-preserved c =
    let first = once (goal.at.loop-kind-preserved c).Joined-nets-ge1 in
    let twice : Laid (row c.args.q) c.if-nets-ge2.types c.if-nets-ge2.m (todo (row c.args.q) c.loop-kind.kind (c.nets_at-nets.result - (0 + 1 + 1))) =
    elim c.if-nets-ge2.branch [
      | then-nets-ge2 w ↦ rw (w.types-is, w.m-is) (laid_net _ _ _ _ _ (0 + 1) first (omega arith)).1
      | else-nets-ge2 w ↦ rw (w.types-is, w.m-is) (first.0, filled_pass _ _ _ _ (0 + 1) first.1 (omega arith))
    ] in
    (twice.0, filled_next _ _ _ _ twice.1 (omega (arith, c.nets_at-nets.ensures, row_two c.args.q c.loop-kind.kind (omega arith) (omega arith) (omega arith))))

pub returns : goal.returns
returns c = record { are = (c.loop-kind.invariant.0.upto, filled_all _ _ _ (omega arith) c.loop-kind.invariant.1); behind = c.loop-kind.invariant.0.behind }
