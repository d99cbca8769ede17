-- What the router gives for any size, counts and room: its answer, the four sums beside it, and every byte of the room afterwards. Assumes
-- nothing.
use Rattle.std.specs.Prelude.{ℕ, List}
use Rattle.answers.specs.Answer.{Answer}
use Rattle.answers.specs.Lent.{and_then, room_for, lent_after}
use Rattle.frame.specs.declared.Counts.{Counts}
use Rattle.frame.specs.Leaves.{count_list, map_bytes}
use Rattle.frame.specs.Tests.{size_test}
use Rattle.overfull.specs.Overfull.{overfull_test, sums_beside}
use Rattle.router.specs.declared.Routed.{Routed}
use Rattle.router.specs.Route.{map_for}

-- the order of the tests: 1, 2, 3
unfoldable pub route_answer : ℕ → Counts → List ℕ → Answer
route_answer W n room = and_then (size_test W) (and_then (room_for (map_bytes W) room) (overfull_test W (count_list n)))

-- on done the map and past it the room as it was; on a refusal the room as it was
unfoldable pub route_room : ℕ → Counts → List ℕ → List ℕ
route_room W n room = lent_after (route_answer W n room) (map_for W n) room

-- the answer, and with code 3 the four side sums beside it
unfoldable pub routed : ℕ → Counts → List ℕ → Routed
routed W n room = record { answer = route_answer W n room; sums = sums_beside (route_answer W n room) (count_list n) }
