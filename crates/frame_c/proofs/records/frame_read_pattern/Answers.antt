-- What `read_pattern` ensures, told in C's way.
use Rattle.patterns.proofs.RoundTrip.{pattern_number}
use Rattle.frame_c.proofs.NumbersFit.{word_fits}
use Rattle.frame_c.proofs.records.frame_read_pattern.Goals as goal

pub tell-requires : goal.tell-requires
tell-requires c = word_fits _ _ c.read_pattern-read.ensures (pattern_number c.args.bytes.now (λ i. (c.type_inv.bytes i).fits))
