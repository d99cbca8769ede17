-- What writing a pattern record answers, and what the room holds afterwards. Assumes nothing.
use Rattle.std.specs.Prelude.{ℕ, List, length}
use Rattle.answers.specs.Answer.{Answer}
use Rattle.answers.specs.Lent.{and_then, room_for, lent_after}
use Rattle.frame.specs.declared.Job.{Job}
use Rattle.patterns.specs.Format.{pattern_record}
use Rattle.patterns.specs.Read.{check_job}

-- the map check, then the room; nothing else is refused
unfoldable pub pattern_answer : Job → List ℕ → List ℕ → Answer
pattern_answer j map room = and_then (check_job j map) (room_for (length (pattern_record j map)) room)

unfoldable pub pattern_room : Job → List ℕ → List ℕ → List ℕ
pattern_room j map room = lent_after (pattern_answer j map room) (pattern_record j map) room
