use mathlib.Core.Path.{sym, ◌∙◌}
use Rattle.marks.specs.Marks.{marks_of}
use Rattle.marks.proofs.Words.{marks_same, marks_more}
use Rattle.marks.proofs.Marks.of.Goals as goal
use Rattle.marks.proofs.Marks.of.Goals.{then-is_closed, else-is_closed}

pub loop-k-init : goal.loop-k-init
unfolding marks_of
loop-k-init c = c.new-marks.ensures

pub loop-k-preserved : goal.loop-k-preserved
loop-k-preserved c =
    elim c.if-is_closed.branch [
      | then-is_closed w ↦ rw w.marks-is (marks_more _ _ _ _ c.loop-k.invariant (sym c.is_closed.ensures ∙ w.if-is_closed.true) w.mark_relay.ensures)
      | else-is_closed w ↦ rw w.marks-is (marks_same _ _ _ _ c.loop-k.invariant (sym c.is_closed.ensures ∙ w.if-is_closed.false))
    ]
