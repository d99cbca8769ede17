use Rattle.fields.proofs.Fields.{word_past}
use Rattle.fields.proofs.word_at.Goals as goal

pub returns-then-s-at : goal.returns-then-s-at
returns-then-s-at c = word_past c.args.s.now _ c.if-s-at.true
