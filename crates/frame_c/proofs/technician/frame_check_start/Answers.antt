-- What `test_start` ensures, told in C's way.
use Rattle.frame_c.proofs.NumbersFit.{start_fits}
use Rattle.frame_c.proofs.technician.frame_check_start.Goals as goal

pub tell-requires : goal.tell-requires
tell-requires c = rw c.test_start.ensures (start_fits _ _ c.ranges.size.fits)
