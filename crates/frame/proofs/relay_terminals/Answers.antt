use mathlib.Core.Path.{sym, ◌∙◌}
use native.Mathlib.Omega.{arith}
use Rattle.frame.proofs.Leaves.{position_in, sorted_none, joined_at, joined_always}
use Rattle.frame.proofs.relay_terminals.Goals as goal

pub returns-in_err-kind : goal.returns-in_err-kind
returns-in_err-kind c = rw c.from_residual.ensures (sorted_none _ _ (sym c.sort_relay.ensures ∙ c.in_err-kind.was))

pub returns-in_err-earlier : goal.returns-in_err-earlier
returns-in_err-earlier c = absurd (joined_always _ _ _ _ (sym c.sort_relay.ensures ∙ c.in_ok-kind.was) (sym c.type_sides.ensures ∙ c.in_err-earlier.was))

pub overflow_sub-result : goal.overflow_sub-result
overflow_sub-result c = (position_in _ _ _ _ (sym c.sort_relay.ensures ∙ c.in_ok-kind.was)).1

pub overflow_add-result : goal.overflow_add-result
overflow_add-result c = omega (arith, position_in _ _ _ _ (sym c.sort_relay.ensures ∙ c.in_ok-kind.was))

pub returns : goal.returns
returns c = joined_at _ _ _ _ _ _ (sym c.sort_relay.ensures ∙ c.in_ok-kind.was) (sym c.type_sides.ensures ∙ c.in_ok-earlier.was)
