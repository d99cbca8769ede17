-- The test and the room refuse, or the head is put at the start.
use mathlib.Core.Path.{sym}
use native.Mathlib.Omega.{arith}
use Rattle.answers.proofs.Done.{is_done_lem}
use Rattle.answers.proofs.Lent.{all_put}
use Rattle.frame.proofs.Tests.{size_is}
use Rattle.jobs.specs.Format.{job_record}
use Rattle.jobs.specs.Write.{job_answer, job_room}
use Rattle.jobs.proofs.write_job.Goals as goal

pub put_head-requires : goal.put_head-requires
put_head-requires c = omega (arith, size_is _ (is_done_lem _ (sym c.in_ok-test_size.ensures)))

pub returns-clause-room_after : goal.returns-clause-room_after
unfolding job_answer job_room
returns-clause-room_after c = (all_put _ (job_record c.args.job) c.args.room.now (sym c.in_ok-test_size.ensures) (omega arith) c.put_head.ensures).1
