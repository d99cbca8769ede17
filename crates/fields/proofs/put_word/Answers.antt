-- Two stores.
use native.Mathlib.Numerals.{add-one}
use native.Mathlib.Omega.{arith}
use lib.ListN.{length-set}
use Rattle.fields.proofs.put_word.Goals as goal

pub bounds-room-at-2 : goal.bounds-room-at-2
bounds-room-at-2 c = simp length-set (omega arith)

pub returns : goal.returns
returns c = rw add-one
