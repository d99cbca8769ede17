-- The terminals that are found are the relay's own.
use mathlib.Core.Path.{sym, ◌∙◌}
use borrow.Author.Rules.{rules}
use Rattle.marks.proofs.Words.{ends_there, ends_found, frame_worded, ends_markable, first_marked, second_marked}
use Rattle.marks.proofs.Marks.relay_marked.Goals as goal

pub unwrap-requires : goal.unwrap-requires
unwrap-requires c = rw c.relay_terminals.ensures (ends_there _ _ c.requires)

pub is_marked-requires : goal.is_marked-requires
is_marked-requires c = let m = ends_markable _ _ _ _ (ends_found _ _ _ (sym c.relay_terminals.ensures ∙ c.unwrap.ensures)) (frame_worded _ c.args.size.in_a_word) c.requires in search rules

pub is_marked-requires-else-is_marked : goal.is_marked-requires-else-is_marked
is_marked-requires-else-is_marked c = let m = ends_markable _ _ _ _ (ends_found _ _ _ (sym c.relay_terminals.ensures ∙ c.unwrap.ensures)) (frame_worded _ c.args.size.in_a_word) c.requires in search rules

pub returns-then-is_marked : goal.returns-then-is_marked
returns-then-is_marked c = first_marked _ _ _ _ (ends_found _ _ _ (sym c.relay_terminals.ensures ∙ c.unwrap.ensures)) _ c.is_marked.ensures c.if-is_marked.true

pub returns-else-is_marked : goal.returns-else-is_marked
returns-else-is_marked c = second_marked _ _ _ _ (ends_found _ _ _ (sym c.relay_terminals.ensures ∙ c.unwrap.ensures)) _ c.is_marked.ensures c.if-is_marked.false c.is_marked-else-is_marked.ensures
