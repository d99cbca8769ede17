use Prim.Native.Nat.{◌*◌}
use mathlib.Core.Path.{sym, ◌∙◌}
use native.Mathlib.Omega.{arith}
use Rattle.text.proofs.Stores.{wrote_none}
use Rattle.listing.specs.Lines.{net_lines}
use Rattle.listing.proofs.Lines.{nets_closed, nets_open, nets-room}
use Rattle.listing.proofs.put_nets.Goals as goal
use Rattle.listing.proofs.put_nets.Goals.{then-is_closed, else-is_closed}

pub loop-relay-init : goal.loop-relay-init
unfolding net_lines
loop-relay-init c = wrote_none

pub put_net-requires-clause-line_fits : goal.put_net-requires-clause-line_fits
put_net-requires-clause-line_fits c =
    let start = c.args in
    let closed = sym c.is_closed.ensures ∙ c.if-is_closed.true in
    omega (arith, nets-room start.size c.loop-relay.relay (6 * start.size) start.map.now (omega arith) closed)

pub loop-relay-preserved : goal.loop-relay-preserved
loop-relay-preserved c =
    elim c.if-is_closed.branch [
      | then-is_closed w ↦ rw w.text-is (nets_closed _ _ _ (sym c.is_closed.ensures ∙ w.if-is_closed.true) c.loop-relay.invariant w.put_net.ensures)
      | else-is_closed w ↦ rw w.text-is (nets_open _ _ _ (sym c.is_closed.ensures ∙ w.if-is_closed.false) c.loop-relay.invariant)
    ]
