-- The constant is the specification's table.
use mathlib.Core.Path.{refl}
use Rattle.loads.specs.Table.{table}
use Rattle.loads.proofs.rows.LoadTable.new.Goals as goal

pub invariant_of-result : goal.invariant_of-result
unfolding table
invariant_of-result c = record { is_the_table = refl }
