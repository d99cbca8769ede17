-- The check finds this alone; said here, an edit of a sum is refused at the sum.
use Rattle.loads.proofs.leaves_on.Goals as goal

pub returns : goal.returns
returns c = rw (c.side_sum.ensures, c.side_sum-2.ensures)
