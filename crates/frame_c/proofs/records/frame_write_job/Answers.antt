-- What `write_job` ensures, told in C's way.
use Rattle.jobs.proofs.RoundTrip.{written_job_number}
use Rattle.frame_c.proofs.NumbersFit.{word_fits}
use Rattle.frame_c.proofs.records.frame_write_job.Goals as goal

pub tell-requires : goal.tell-requires
tell-requires c = word_fits _ _ c.write_job.ensures.value (written_job_number _ _ c.ranges.size.fits)
