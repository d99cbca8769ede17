-- What `route` ensures of the six counts, told in C's way.
use Rattle.frame_c.proofs.NumbersFit.{route_fits}
use Rattle.frame_c.proofs.routing.frame_route.Goals as goal

pub tell-requires : goal.tell-requires
tell-requires c = rw c.route-told.ensures.value (route_fits _ _ _ c.ranges.size.fits)
