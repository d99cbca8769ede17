-- What `wiring_of` ensures, told in C's way.
use native.Mathlib.Omega.{arith}
use Rattle.wires.proofs.HowWired.{SmallWired, wired_small, number_small}
use Rattle.frame_c.proofs.NumbersFit.{word_fits}
use Rattle.frame_c.proofs.about.frame_relay_terminals.Goals as goal
use Rattle.frame_c.proofs.about.frame_relay_terminals.Goals.{After-wired_told-wired}

-- what is told fits its places
small : (c : After-wired_told-wired) → SmallWired c.wired_told-wired.result
small c = rw (c.wired_told-wired.ensures, c.wiring_of-read.ensures) (wired_small _ _)

pub overflow_cast-kind : goal.overflow_cast-kind
overflow_cast-kind c = record { fits = omega (arith, (small (goal.at.overflow_cast-kind c).After-wired_told-wired).kind) }

pub end_told-requires : goal.end_told-requires
end_told-requires c =
    let x = (small (goal.at.end_told-requires c).After-wired_told-wired).earlier in
    record { side_bound = omega (arith, x.side); position_bound = omega (arith, x.position) }

pub end_told-requires-2 : goal.end_told-requires-2
end_told-requires-2 c =
    let x = (small (goal.at.end_told-requires-2 c).After-wired_told-wired).later in
    record { side_bound = omega (arith, x.side); position_bound = omega (arith, x.position) }

pub tell-requires : goal.tell-requires
tell-requires c = word_fits _ _ c.wiring_of-read.ensures (number_small _ _ c.ranges.size.fits c.ranges.relay.fits)
