-- The loop's invariant: the lines of the closed relays passed are written.
use Rattle.text.specs.Wrote.{Wrote}
use Rattle.listing.specs.Lines.{net_lines}
use Rattle.listing.proofs.put_nets.Given as goal

abbrev pub invariant-loop-relay : goal.invariant-loop-relay
invariant-loop-relay l = Wrote l.initial.text (net_lines l.size l.map l.relay) l.text
