-- No cell is left out.
use mathlib.Core.Path.{ap, ◌∙◌}
use Rattle.wiring.specs.Map.{close_all}
use Rattle.router.proofs.Serving.{all_hold, all_relays}
use Rattle.router.proofs.close_all.Goals as goal

pub close_cells-requires : goal.close_cells-requires
close_cells-requires c = (all_hold _, c.requires)

pub returns : goal.returns
returns c = c.close_cells.ensures ∙ ap (close_all _) (all_relays _ _)
