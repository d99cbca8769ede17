use mathlib.Core.Path.{sym, ap, ◌∙◌}
use Rattle.answers.specs.Lent.{is_done}
use Rattle.frame.proofs.Tests.{size_is}
use Rattle.map_check.proofs.test_closed.Goals as goal

pub invariant_of-test_map : goal.invariant_of-test_map
invariant_of-test_map c = record { in_a_word = (size_is _ (ap is_done (sym c.test_size.ensures ∙ c.in_ok-test_size.was))).1 }
