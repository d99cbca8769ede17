use Rattle.loads.proofs.Seats.{row_known}
use Rattle.loads.proofs.rows.LoadTable.seat_row.Goals as goal

pub seat-seating-requires : goal.seat-seating-requires
seat-seating-requires c = let r = row_known _ c.requires in rw (c.nets_of-nets.ensures.are.1) (r.four, r.types)

pub invariant_of-result-clause-typed : goal.invariant_of-result-clause-typed
invariant_of-result-clause-typed c = rw c.nets_of-nets.ensures.are.1 (row_known _ c.requires).types
