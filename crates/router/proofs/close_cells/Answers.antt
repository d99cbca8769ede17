use mathlib.Core.Path.{sym}
use native.Mathlib.Omega.{arith}
use Rattle.loads.proofs.Counts.{within_of, within_test}
use Rattle.router.proofs.Serving.{turn_start, two_left, one_at_most, turn_skip, turn_below, turn_most, turn_next, one_left, end_centre, end_none}
use Rattle.router.proofs.close_cells.Goals as goal

pub loop-p-init : goal.loop-p-init
loop-p-init c = (turn_start _ _ _ _ _ _ c.requires.0 (within_of _ _ c.requires.1) c.seat_row-seated.ensures, sym c.seat_row-seated.ensures)

pub loop-p-preserved-then-p-skip : goal.loop-p-preserved-then-p-skip
loop-p-preserved-then-p-skip c = (turn_skip c.loop-p.invariant.0 (omega arith) c.if-p-skip.true, c.loop-p.invariant.1)

pub seat_next-requires : goal.seat_next-requires
seat_next-requires c = turn_below c.loop-p.invariant.0 (omega arith) c.if-p-skip.false c.next_row-q.ensures

pub row_at-requires : goal.row_at-requires
row_at-requires c = turn_below c.loop-p.invariant.0 (omega arith) c.if-p-skip.false c.next_row-q.ensures

pub less-n-requires : goal.less-n-requires
less-n-requires c = turn_most c.loop-p.invariant.0 (omega arith) c.if-p-skip.false c.next_row-q.ensures c.row_at.ensures

pub loop-p-preserved : goal.loop-p-preserved
loop-p-preserved c = (
  turn_next c.loop-p.invariant.0 (omega arith) c.if-p-skip.false c.next_row-q.ensures c.seat_next.ensures c.row_at.ensures c.less-n.ensures c.close_block.ensures,
  sym c.seat_next.ensures,
)

pub close_centre-requires : goal.close_centre-requires
close_centre-requires c = within_test 1 _ (one_left c.loop-p.invariant.0 c.if-r-eq1.true).0

pub returns-then-r-eq1 : goal.returns-then-r-eq1
returns-then-r-eq1 c = end_centre c.loop-p.invariant.0 c.if-r-eq1.true c.close_centre.ensures

pub returns-else-r-eq1 : goal.returns-else-r-eq1
returns-else-r-eq1 c = end_none c.loop-p.invariant.0 (omega (arith, one_at_most c.loop-p.invariant.0 (omega arith), c.if-r-eq1.false))

pub overflow_sub-r : goal.overflow_sub-r
overflow_sub-r c = two_left c.loop-p.invariant.0 (omega arith) c.if-p-skip.false

pub next_row-q-requires : goal.next_row-q-requires
next_row-q-requires c =
    let t = c.loop-p.invariant.0 in
    rw c.loop-p.invariant.1 (omega (arith, t.row), t.none (two_left t (omega arith) c.if-p-skip.false))
