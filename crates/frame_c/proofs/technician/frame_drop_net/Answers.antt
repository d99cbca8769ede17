-- What `drop_net` ensures, told in C's way.
use Rattle.frame_c.proofs.NumbersFit.{drop-fits}
use Rattle.frame_c.proofs.technician.frame_drop_net.Goals as goal

pub tell-requires : goal.tell-requires
tell-requires c = rw c.drop_net.ensures.value (drop-fits _ _ _ c.ranges.size.fits c.ranges.relay.fits)
