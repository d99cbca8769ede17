use Rattle.text.proofs.Stores.{wrote_none, wrote_append}
use Rattle.listing.specs.Lines.{spaced}
use Rattle.listing.proofs.put_sums.Goals as goal

pub returns-in-Overfull : goal.returns-in-Overfull
unfolding spaced
returns-in-Overfull c =
    rw c.in-Overfull.is
    (wrote_append c.put_number.ensures (wrote_append c.put_number-in-Overfull.ensures
    (wrote_append c.put_number-in-Overfull-2.ensures (wrote_append c.put_number-in-Overfull-3.ensures wrote_none))))
