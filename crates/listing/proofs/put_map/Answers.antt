use native.Mathlib.Omega.{arith}
use mathlib.Core.Path.{ap}
use lib.ListN.{length, length-append}
use Rattle.text.proofs.Stores.{wrote_as, wrote_append}
use Rattle.listing.proofs.Lines.{map_counted}
use Rattle.listing.proofs.put_map.Goals as goal

pub put_nets-requires : goal.put_nets-requires
put_nets-requires c = let e = ap length (map_counted _ _ _ c.count_closed.ensures) in omega (arith, simp length-append at e)

pub returns : goal.returns
returns c = wrote_as (map_counted _ _ _ c.count_closed.ensures) (wrote_append c.put_size_line.ensures c.put_nets.ensures)
