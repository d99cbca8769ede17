-- What `open_frame` ensures, told in C's way.
use Rattle.frame_c.proofs.NumbersFit.{open_fits}
use Rattle.frame_c.proofs.technician.frame_open_all.Goals as goal

pub tell-requires : goal.tell-requires
tell-requires c = rw c.open_frame.ensures.value (open_fits _ _ c.ranges.size.fits)
