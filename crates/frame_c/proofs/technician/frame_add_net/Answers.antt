-- What `add_net` ensures, told in C's way.
use Rattle.changes.proofs.Ways.{added_answer_lem}
use Rattle.frame_c.proofs.NumbersFit.{add_fits, answer_fits}
use Rattle.frame_c.proofs.ToldAs.{told_answer}
use Rattle.frame_c.proofs.technician.frame_add_net.Goals as goal

pub tell-requires : goal.tell-requires
tell-requires c = answer_fits c.add_net-added.result (rw (c.add_net-added.ensures.value, added_answer_lem) (add_fits _ _ _ c.ranges.size.fits c.ranges.kind.fits))

pub returns-clause-told : goal.returns-clause-told
returns-clause-told c = rw (← added_answer_lem c.args.size c.args.map.now c.args.kind, ← c.add_net-added.ensures.value) (told_answer _ c.tell.ensures)
