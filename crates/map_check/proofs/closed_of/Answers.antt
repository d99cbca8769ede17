use mathlib.Core.Path.{◌∙◌}
use native.Mathlib.Omega.{arith}
use Rattle.map_check.proofs.Ways.{type_counted}
use Rattle.map_check.proofs.closed_of.Goals as goal

pub returns : goal.returns
returns c = c.count_closed.ensures ∙ type_counted _ _ _ (omega arith) (omega arith)
