use Rattle.loads.proofs.Table.{row-nets}
use Rattle.loads.proofs.rows.LoadTable.nets_at.Goals as goal

pub returns : goal.returns
returns c = rw c.args.self.now.is_the_table (row-nets c.args.q c.args.kind c.requires.1 c.requires.2)
