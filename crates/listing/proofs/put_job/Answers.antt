-- Where the router is done, the first bytes of the room that it was lent are the map.
use Rattle.text.proofs.Stores.{wrote_as}
use Rattle.listing.proofs.Texts.{Mapped, job_mapped}
use Rattle.listing.proofs.put_job.Goals as goal
use Rattle.listing.proofs.put_job.Goals.{After-map_length}

mapped : (c : After-map_length) → Mapped c.args.job c.map_length.result c.route-routed.new.room
mapped c = job_mapped _ _ _ _ c.route-routed.ensures.value c.in-Ok.is c.map_length.ensures c.route-routed.ensures.room_after

pub slice_bounds-map-end : goal.slice_bounds-map-end
slice_bounds-map-end c = (mapped (goal.at.slice_bounds-map-end c).After-map_length).within

pub slice_bounds-put_map-end : goal.slice_bounds-put_map-end
slice_bounds-put_map-end c = (mapped (goal.at.slice_bounds-put_map-end c).After-map_length).long

pub put_map-requires : goal.put_map-requires
put_map-requires c = rw (← (mapped (goal.at.put_map-requires c).After-map_length).text) c.requires

pub returns-in-Ok : goal.returns-in-Ok
returns-in-Ok c = wrote_as (mapped (goal.at.returns-in-Ok c).After-map_length).text c.put_map.ensures
