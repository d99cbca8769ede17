-- What `check_map` ensures, told in C's way.
use Rattle.map_check.proofs.Checked.{check_mild}
use Rattle.frame_c.proofs.NumbersFit.{word_fits}
use Rattle.frame_c.proofs.routing.frame_check_map.Goals as goal

pub tell-requires : goal.tell-requires
tell-requires c = word_fits _ _ c.check_map.ensures (check_mild _ _ c.ranges.size.fits _).small
