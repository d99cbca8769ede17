-- The bit of a closed relay is taken off.
use mathlib.Core.Path.{sym, ◌∙◌}
use Rattle.wiring.proofs.Map.{closed_there, closed_byte, open_closed, open_open}
use Rattle.maps.proofs.Shifted.{shifted}
use Rattle.maps.proofs.open_relay.Goals as goal

pub bounds-map-i : goal.bounds-map-i
bounds-map-i c = closed_there _ _ (sym c.is_closed.ensures ∙ c.if-is_closed.true)

pub overflow_sub-map : goal.overflow_sub-map
overflow_sub-map c = rw (shifted c.args.relay) (closed_byte _ _ (sym c.is_closed.ensures ∙ c.if-is_closed.true))

pub bounds-map-i-then-is_closed : goal.bounds-map-i-then-is_closed
bounds-map-i-then-is_closed c = closed_there _ _ (sym c.is_closed.ensures ∙ c.if-is_closed.true)

pub returns-then-is_closed : goal.returns-then-is_closed
returns-then-is_closed c = rw (shifted c.args.relay) (sym (open_closed _ _ (sym c.is_closed.ensures ∙ c.if-is_closed.true)))

pub returns-else-is_closed : goal.returns-else-is_closed
returns-else-is_closed c = sym (open_open _ _ (sym c.is_closed.ensures ∙ c.if-is_closed.false))
