use Rattle.patterns.proofs.RoundTrip.{bytes_after}
use Rattle.patterns.proofs.map_at.Goals as goal

pub returns-then-end-s : goal.returns-then-end-s
returns-then-end-s c = bytes_after _ _ _ c.map_length-len.ensures c.if-end-s.true
