use Rattle.fields.proofs.Fields.{byte_past}
use Rattle.fields.proofs.byte_at.Goals as goal

pub returns-then-s-at : goal.returns-then-s-at
returns-then-s-at c = byte_past c.args.s.now _ c.if-s-at.true
