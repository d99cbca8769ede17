-- The terminals that are found are the relay's own.
use mathlib.Core.Path.{sym, ◌∙◌}
use borrow.Author.Rules.{rules}
use Rattle.marks.proofs.Words.{ends_there, ends_found, frame_worded, ends_markable, both_marked}
use Rattle.marks.proofs.Marks.mark_relay.Goals as goal

pub unwrap-requires : goal.unwrap-requires
unwrap-requires c = rw c.relay_terminals.ensures (ends_there _ _ c.requires)

pub mark-requires : goal.mark-requires
mark-requires c = let m = ends_markable _ _ _ _ (ends_found _ _ _ (sym c.relay_terminals.ensures ∙ c.unwrap.ensures)) (frame_worded _ c.args.size.in_a_word) c.requires in search rules

pub mark-requires-2 : goal.mark-requires-2
mark-requires-2 c = let m = ends_markable _ _ _ _ (ends_found _ _ _ (sym c.relay_terminals.ensures ∙ c.unwrap.ensures)) (frame_worded _ c.args.size.in_a_word) c.requires in search rules

pub returns : goal.returns
returns c = both_marked _ _ _ _ (ends_found _ _ _ (sym c.relay_terminals.ensures ∙ c.unwrap.ensures)) _ c.mark.ensures c.mark-2.ensures
