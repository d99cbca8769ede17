use mathlib.Core.Path.{◌∙◌}
use Rattle.loads.proofs.Counts.{within_of, nets_most}
use Rattle.router.proofs.Blocks.{closed_none}
use Rattle.router.proofs.Cell.close_one.Goals as goal

pub returns-else-count_at-eq1 : goal.returns-else-count_at-eq1
returns-else-count_at-eq1 c =
    let most = nets_most 1 c.args.n c.args.kind (within_of 1 c.args.n c.requires.0) c.requires.1 c.requires.2 in
    closed_none _ _ _ most (λ e. c.if-count_at-eq1.false (c.count_at.ensures ∙ e))
