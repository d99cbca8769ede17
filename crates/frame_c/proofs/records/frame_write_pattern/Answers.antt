-- What `write_pattern` ensures, told in C's way.
use Rattle.patterns.proofs.RoundTrip.{written_pattern_number}
use Rattle.frame_c.proofs.NumbersFit.{word_fits}
use Rattle.frame_c.proofs.records.frame_write_pattern.Goals as goal

pub tell-requires : goal.tell-requires
tell-requires c = word_fits _ _ c.write_pattern.ensures.value (written_pattern_number _ _ _ c.ranges.size.fits)
