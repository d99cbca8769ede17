-- What writing a job record answers, and what the room holds afterwards. Assumes nothing.
use Rattle.std.specs.Prelude.{List, ℕ, length}
use Rattle.answers.specs.Answer.{Answer}
use Rattle.answers.specs.Lent.{and_then, room_for, lent_after}
use Rattle.frame.specs.Tests.{size_test}
use Rattle.frame.specs.declared.Job.{Job}
use Rattle.jobs.specs.Format.{job_record}

-- the size, then the room; nothing else is refused
unfoldable pub job_answer : Job → List ℕ → Answer
job_answer j room = and_then (size_test j.size) (room_for (length (job_record j)) room)

unfoldable pub job_room : Job → List ℕ → List ℕ
job_room j room = lent_after (job_answer j room) (job_record j) room
