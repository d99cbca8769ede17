-- Past the tests the size is served and no side is overfull; so the map is the one that the definitions have.
use mathlib.Core.Path.{◌≡◌, sym, ◌∙◌}
use native.Mathlib.Omega.{arith}
use Rattle.answers.specs.Answer.{Done}
use Rattle.answers.proofs.Done.{is_done_lem}
use Rattle.wiring.specs.Wiring.{Within}
use Rattle.wiring.specs.Frame.{four, frame}
use Rattle.wiring.proofs.Frame.{four-within}
use Rattle.frame.specs.Leaves.{count_list}
use Rattle.frame.specs.Tests.{size_test}
use Rattle.frame.proofs.Tests.{size_is}
use Rattle.overfull.specs.Overfull.{overfull_test}
use Rattle.overfull.proofs.Overfull.{overfull-within}
use Rattle.loads.proofs.Counts.{within_test}
use Rattle.router.specs.Route.{map_for}
use Rattle.router.specs.Router.{route_answer, route_room}
use Rattle.router.proofs.AnyRule.{rule_out}
use Rattle.router.proofs.Maps.{relays-below}
use Rattle.router.proofs.write_map.Goals as goal
use Rattle.router.proofs.write_map.Goals.{After-clear}

served : (c : After-clear) → size_test c.args.job.size ≡ Done
served c = sym c.test_size.ensures ∙ c.in_ok-test_size.was

none_over : (c : After-clear) → overfull_test c.args.job.size (count_list c.args.job.counts) ≡ Done
none_over c = sym c.test_overfull.ensures ∙ c.in_ok-test_overfull.was

within : (c : After-clear) → Within four c.args.job.size (count_list c.args.job.counts)
within c = overfull-within _ _ (is_done_lem _ (none_over c))

pub invariant_of-size : goal.invariant_of-size
invariant_of-size c = record { in_a_word = (size_is c.args.job.size (is_done_lem _ (served (goal.at.invariant_of-size c).After-clear))).1 }

pub close_all-requires : goal.close_all-requires
close_all-requires c = within_test _ _ (four-within _ _ (within (goal.at.close_all-requires c).After-clear))

pub returns-clause-room_after : goal.returns-clause-room_after
unfolding route_answer route_room map_for
returns-clause-room_after c =
    let past = (goal.at.returns-clause-room_after c).After-clear in
    (rule_out (frame c.args.job.size) _ _ _ _ (relays-below _ _ (within past)) (served past) c.map_length-bytes.ensures (omega arith) (none_over past) c.clear.ensures c.close_all.ensures).1
