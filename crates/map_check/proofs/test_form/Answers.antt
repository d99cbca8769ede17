use mathlib.Core.Path.{sym, ◌∙◌}
use native.Mathlib.Omega.{arith}
use Rattle.map_check.proofs.Ways.{form_room, form_spare, form_done}
use Rattle.map_check.proofs.test_form.Goals as goal

pub returns-then-map-needed : goal.returns-then-map-needed
returns-then-map-needed c = form_room _ _ _ c.map_length-needed.ensures c.if-map-needed.true

pub returns-then-is_closed : goal.returns-then-is_closed
returns-then-is_closed c =
    form_spare _ _ _ c.map_length-needed.ensures _ c.if-map-needed.false
    c.loop-k.auto.k c.loop-k-test.true (sym c.is_closed.ensures ∙ c.if-is_closed.true)

pub returns : goal.returns
returns c =
    form_done _ _ _ c.map_length-needed.ensures c.if-map-needed.false
    (λ j a b. c.loop-k.invariant j (omega arith) a)
