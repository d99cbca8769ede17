-- The scope's two listings, of the worked job record and of no input, and that of the requests' item 3, byte for byte. Assumes nothing.
use mathlib.Core.Path.{◌≡◌, refl}
use mathlib.Core.List.{[], ◌∷◌}
use Rattle.counting.specs.Count.{count, sum_to, first_from}
use Rattle.counting.specs.Lists.{among, distinct}
use Rattle.wiring.specs.Frame.{type_in, place_in}
use Rattle.wiring.specs.Map.{closed_in, with_closed, close_all, map_of}
use Rattle.wiring.specs.Terminals.{touched}
use Rattle.wiring.specs.Check.{overfull_sides}
use Rattle.frame.specs.Tests.{size_test}
use Rattle.overfull.specs.Overfull.{overfull_test, sums_beside}
use Rattle.fields.specs.Read.{field_at}
use Rattle.jobs.specs.Read.{read_head, read_job}
use Rattle.loads.specs.Table.{table, row}
use Rattle.loads.specs.Load.{within, at_most, fits, pick, load}
use Rattle.loads.specs.Seat.{net_list, seats, seat_fits, seat_of, seating}
use Rattle.cells.specs.Cells.{size, capacity, run, cells}
use Rattle.cells.specs.Serve.{spread, centre, takes, seated_in, serve}
use Rattle.router.specs.Route.{relays_for, map_for}
use Rattle.router.specs.Router.{route_answer, routed}
use Rattle.std.specs.Fmt.{digits}
use Rattle.listing.specs.Lines.{terminal_text, net_line, net_lines, size_line, map_text, spaced, refused_text}
use Rattle.listing.specs.Listing.{job_text, text_of}

-- SIZE 2 NETS 3, 1 L1 R2, 3 L2 T1, 4 T2 R1
pub worked_example : text_of (0x01 ∷ 0x00 ∷ 0x01 ∷ 0x02 ∷ 0x02 ∷ 0x00 ∷ 0x0C ∷ 0x00 ∷ 0x01 ∷ 0x00 ∷ 0x00 ∷ 0x00 ∷ 0x01 ∷ 0x00 ∷ 0x01 ∷ 0x00 ∷ 0x00 ∷ 0x00 ∷ 0x00 ∷ [])
    ≡ 83 ∷ 73 ∷ 90 ∷ 69 ∷ 32 ∷ 50 ∷ 32 ∷ 78 ∷ 69 ∷ 84 ∷ 83 ∷ 32 ∷ 51 ∷ 10
    ∷ 49 ∷ 32 ∷ 76 ∷ 49 ∷ 32 ∷ 82 ∷ 50 ∷ 10
    ∷ 51 ∷ 32 ∷ 76 ∷ 50 ∷ 32 ∷ 84 ∷ 49 ∷ 10
    ∷ 52 ∷ 32 ∷ 84 ∷ 50 ∷ 32 ∷ 82 ∷ 49 ∷ 10 ∷ []
unfolding text_of job_text map_text size_line net_lines net_line terminal_text refused_text spaced digits read_job read_head field_at size_test overfull_test overfull_sides sums_beside routed route_answer map_for map_of relays_for serve seated_in takes cells run capacity size centre spread seating seat_of seat_fits touched seats net_list load pick fits at_most within row table closed_in with_closed close_all type_in place_in among distinct count sum_to first_from
worked_example = refl

-- REFUSED 7 0
pub no_input : text_of [] ≡ 82 ∷ 69 ∷ 70 ∷ 85 ∷ 83 ∷ 69 ∷ 68 ∷ 32 ∷ 55 ∷ 32 ∷ 48 ∷ 10 ∷ []
unfolding text_of refused_text spaced digits read_job read_head field_at
no_input = refl

-- REFUSED 3 2 0 3 1 2: size 2, counts 0, 2, 0, 1, 0, 0
pub overfull_top : text_of (0x01 ∷ 0x00 ∷ 0x01 ∷ 0x02 ∷ 0x02 ∷ 0x00 ∷ 0x0C ∷ 0x00 ∷ 0x00 ∷ 0x00 ∷ 0x02 ∷ 0x00 ∷ 0x00 ∷ 0x00 ∷ 0x01 ∷ 0x00 ∷ 0x00 ∷ 0x00 ∷ 0x00 ∷ [])
    ≡ 82 ∷ 69 ∷ 70 ∷ 85 ∷ 83 ∷ 69 ∷ 68 ∷ 32 ∷ 51 ∷ 32 ∷ 50 ∷ 32 ∷ 48 ∷ 32 ∷ 51 ∷ 32 ∷ 49 ∷ 32 ∷ 50 ∷ 10 ∷ []
unfolding text_of job_text refused_text spaced digits read_job read_head field_at size_test overfull_test overfull_sides sums_beside routed route_answer sum_to
overfull_top = refl
