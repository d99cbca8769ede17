use mathlib.Core.Path.{refl}
use Rattle.std.proofs.Common.{rules}
use Rattle.listing.proofs.Texts.{list_written}
use Rattle.listing.proofs.list.Goals as goal

pub returns-clause-room_after : goal.returns-clause-room_after
returns-clause-room_after c = search (rules, list_written _ _ c.put_text.ensures refl refl c.if-room-lt-MOST_TEXT.false)
