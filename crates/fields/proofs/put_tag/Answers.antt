-- A store, and then a word at the next place.
use native.Mathlib.Numerals.{add-one}
use native.Mathlib.Omega.{arith}
use lib.ListN.{length-set}
use Rattle.fields.proofs.put_tag.Goals as goal

pub put_word-requires : goal.put_word-requires
put_word-requires c = simp length-set (omega arith)

pub returns : goal.returns
returns c = rw add-one at c.put_word.ensures
