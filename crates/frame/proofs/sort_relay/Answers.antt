-- Each arm is a range of numbers.
use native.Mathlib.Omega.{arith}
use native.Mathlib.Nat.{mod-lt}
use Rattle.frame.proofs.Leaves.{sorted_at, sorted_past, past_six}
use Rattle.frame.proofs.sort_relay.Goals as goal

pub returns-then-size-eq0 : goal.returns-then-size-eq0
returns-then-size-eq0 c = sorted_past c.args.size c.args.relay (omega arith)

pub overflow_add-position : goal.overflow_add-position
overflow_add-position c = omega (arith, mod-lt c.args.relay {m = c.args.size} (omega arith))

pub returns-in-0 : goal.returns-in-0
returns-in-0 c = sorted_at _ _ 0 c.if-size-eq0.false c.in-0.is (omega arith)

pub returns-in-1 : goal.returns-in-1
returns-in-1 c = sorted_at _ _ 1 c.if-size-eq0.false c.in-1.is (omega arith)

pub returns-in-2 : goal.returns-in-2
returns-in-2 c = sorted_at _ _ 2 c.if-size-eq0.false c.in-2.is (omega arith)

pub returns-in-3 : goal.returns-in-3
returns-in-3 c = sorted_at _ _ 3 c.if-size-eq0.false c.in-3.is (omega arith)

pub returns-in-4 : goal.returns-in-4
returns-in-4 c = sorted_at _ _ 4 c.if-size-eq0.false c.in-4.is (omega arith)

pub returns-in-5 : goal.returns-in-5
returns-in-5 c = sorted_at _ _ 5 c.if-size-eq0.false c.in-5.is (omega arith)

pub returns-in-6-to-max : goal.returns-in-6-to-max
returns-in-6-to-max c = sorted_past _ _ (past_six _ _ c.if-size-eq0.false (omega (arith, c.in-6-to-max)))
