use Rattle.text.proofs.Stores.{wrote_append}
use Rattle.listing.specs.Lines.{size_line}
use Rattle.listing.proofs.put_size_line.Goals as goal

pub returns : goal.returns
unfolding size_line
returns c =
    wrote_append c.put_bytes.ensures (wrote_append c.put_decimal.ensures
    (wrote_append c.put_bytes-2.ensures (wrote_append c.put_decimal-2.ensures c.put_byte.ensures)))
