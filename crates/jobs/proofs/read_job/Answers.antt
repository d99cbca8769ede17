use mathlib.Core.Path.{sym, ◌∙◌}
use Rattle.jobs.proofs.RoundTrip.{bytes_after}
use Rattle.jobs.proofs.read_job.Goals as goal

pub returns-then-next-s : goal.returns-then-next-s
returns-then-next-s c = bytes_after _ (sym c.read_head.ensures ∙ c.in_ok-job.was) c.if-next-s.true
