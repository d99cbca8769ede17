use mathlib.Core.Path.{sym, ◌∙◌}
use native.Mathlib.Omega.{arith}
use Rattle.marks.specs.Marks.{marks_of}
use Rattle.marks.proofs.Words.{frame_worded, marks_same, marks_more}
use Rattle.map_check.proofs.Clash.{clash_here, clash_nowhere, none_open, none_unmarked}
use Rattle.map_check.proofs.first_clash.Goals as goal
use Rattle.map_check.proofs.first_clash.Goals.{then-is_closed+else-relay_marked, else-is_closed}

pub loop-k-init : goal.loop-k-init
unfolding marks_of
loop-k-init c = (c.new-touched.ensures, λ j h. absurd (omega arith))

pub returns-then-relay_marked : goal.returns-then-relay_marked
returns-then-relay_marked c =
    let inv = c.loop-k.invariant in
    let closed = sym c.is_closed.ensures ∙ c.if-is_closed.true in
    clash_here _ (frame_worded _ c.args.size.in_a_word) _ _ _ inv.0 inv.1 c.loop-k-test.true closed
    (sym c.relay_marked.ensures ∙ c.if-relay_marked.true)

pub loop-k-preserved : goal.loop-k-preserved
loop-k-preserved c =
    let inv = c.loop-k.invariant in
    let worded = frame_worded _ c.args.size.in_a_word in
    let closed = sym c.is_closed.ensures in
    elim c.if-is_closed.branch [
      | then-is_closed+else-relay_marked w ↦ (
        rw w.touched-is (marks_more _ _ _ _ inv.0 (closed ∙ w.if-is_closed.true) w.mark_relay.ensures),
        none_unmarked _ worded _ _ _ inv.0 inv.1 c.loop-k-test.true (closed ∙ w.if-is_closed.true) (sym w.relay_marked.ensures ∙ w.if-relay_marked.false),
      )
      | else-is_closed w ↦ (
        rw w.touched-is (marks_same _ _ _ _ inv.0 (closed ∙ w.if-is_closed.false)),
        none_open _ worded _ _ _ inv.0 inv.1 (closed ∙ w.if-is_closed.false),
      )
    ]

pub returns : goal.returns
returns c = clash_nowhere _ (frame_worded _ c.args.size.in_a_word) _ _ _ c.loop-k.invariant.0 c.loop-k.invariant.1 c.loop-k-test.false
