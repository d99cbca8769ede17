-- What `read_job` ensures, told in C's way.
use Rattle.jobs.proofs.RoundTrip.{job-number}
use Rattle.frame_c.proofs.NumbersFit.{word_fits}
use Rattle.frame_c.proofs.records.frame_read_job.Goals as goal

pub tell-requires : goal.tell-requires
tell-requires c = word_fits _ _ c.read_job-read.ensures (job-number c.args.bytes.now (λ i. (c.type_inv.bytes i).fits))
