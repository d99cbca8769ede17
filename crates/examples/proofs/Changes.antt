-- A technician's calls give what they must: computed. Assumes nothing.
use mathlib.Core.Path.{◌≡◌, refl}
use mathlib.Core.List.{[], ◌∷◌}
use Rattle.answers.specs.Answer.{Done}
use Rattle.counting.specs.Count.{first_from, any_below, count, sum_to}
use Rattle.counting.specs.Lists.{among, distinct}
use Rattle.wiring.specs.Frame.{type_in, place_in}
use Rattle.wiring.specs.Terminals.{touched}
use Rattle.wiring.specs.Map.{closed_in, with_closed, with_open, close_all, map_of}
use Rattle.wiring.specs.Check.{overfull_sides, spare_set, shares, clashes, clash_at}
use Rattle.wiring.specs.Change.{is_free, lowest_free}
use Rattle.frame.specs.Leaves.{counts}
use Rattle.frame.specs.Tests.{size_test}
use Rattle.overfull.specs.Overfull.{overfull_test}
use Rattle.map_check.specs.Check.{form_test, shared_test, map_test, closed_test}
use Rattle.loads.specs.Table.{table, row}
use Rattle.loads.specs.Load.{within, at_most, fits, pick, load}
use Rattle.loads.specs.Seat.{net_list, seats, seat_fits, seat_of, seating}
use Rattle.cells.specs.Cells.{size, capacity, run, cells}
use Rattle.cells.specs.Serve.{spread, centre, takes, seated_in, serve}
use Rattle.router.specs.Route.{relays_for, map_for}
use Rattle.router.specs.Router.{route_answer}
use Rattle.changes.specs.Start.{open_map}
use Rattle.changes.specs.Technician.{type_test, free_test, drop_test, call_answer, call_map, add_net}
use Rattle.examples.specs.Starred.{room}
use Rattle.examples.specs.Changes.{Follow, both_closed, hour}

-- every call and every map of the hour
pub hour_follows : Follow 2 (open_map 2) hour
unfolding Follow hour add_net call_map call_answer type_test free_test drop_test closed_test map_test shared_test form_test size_test lowest_free is_free clash_at clashes shares spare_set with_open with_closed closed_in place_in type_in any_below first_from
hour_follows = (refl, refl, (refl, refl, (refl, refl, (refl, refl, (refl, refl, (refl, refl, (refl, refl, (refl, refl, (refl, refl, (refl, refl, (refl, refl, (refl, refl, tt))))))))))))

-- item 4's own example
pub none_for_type_three : Follow 2 (0x05 ∷ 0x00 ∷ []) both_closed
unfolding Follow both_closed add_net call_map call_answer type_test free_test drop_test closed_test map_test shared_test form_test size_test lowest_free is_free clash_at clashes shares spare_set with_open with_closed closed_in place_in type_in any_below first_from
none_for_type_three = (refl, refl, tt)

-- and the job with that net more is one that the router carries, by other relays
pub carried_otherwise : (route_answer 2 (counts 1 1 1 0 0 0) room ≡ Done) × (map_for 2 (counts 1 1 1 0 0 0) ≡ 0x29 ∷ 0x00 ∷ [])
unfolding route_answer map_for map_of relays_for serve seated_in takes cells run capacity size centre spread seating seat_of seat_fits touched seats net_list load pick fits at_most within row table overfull_test overfull_sides size_test close_all with_closed closed_in place_in type_in distinct among any_below first_from sum_to count
carried_otherwise = (refl, refl)
