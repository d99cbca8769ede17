use Rattle.std.proofs.Common.{refl}
use Rattle.run_examples.proofs.Compare.{turn_same, turn_other, too_long, all_same}
use Rattle.run_examples.proofs.stands_in.Goals as goal

pub returns-then-room-map : goal.returns-then-room-map
returns-then-room-map c = too_long _ _ c.if-room-map.true

pub returns-then-byte-should_be : goal.returns-then-byte-should_be
returns-then-byte-should_be c = turn_other _ _ _ _ _ c.loop-i-test.true refl c.should_be.ensures c.if-byte-should_be.true c.loop-i.invariant

pub loop-i-preserved : goal.loop-i-preserved
loop-i-preserved c = turn_same _ _ _ _ _ c.loop-i-test.true refl c.should_be.ensures c.if-byte-should_be.false c.loop-i.invariant

pub returns : goal.returns
returns c = all_same _ _ _ c.loop-i-test.false c.if-room-map.false c.loop-i.invariant
