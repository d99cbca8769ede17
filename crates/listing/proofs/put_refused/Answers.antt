use Rattle.text.proofs.Stores.{wrote_append}
use Rattle.listing.specs.Lines.{spaced, refused_text}
use Rattle.listing.proofs.put_refused.Goals as goal

pub returns : goal.returns
unfolding spaced refused_text
returns c =
    let code = rw c.code.ensures at c.put_number.ensures in
    let number = rw c.number.ensures at c.put_number-2.ensures in
    wrote_append c.put_bytes.ensures (wrote_append (wrote_append code (wrote_append number c.put_sums.ensures)) c.put_byte.ensures)
