use lib.Bits.{and_mask}
use Rattle.marks.specs.Marks.{is_marked}
use Rattle.marks.proofs.Marks.is_marked.Goals as goal

pub returns : goal.returns
unfolding is_marked
returns c = rw (← c.self.view_is, and_mask _ 1)
