-- The form, then the search for a shared terminal.
use Rattle.map_check.specs.Check.{map_test}
use Rattle.map_check.proofs.Ways.{shared_here, shared_nowhere}
use Rattle.map_check.proofs.test_map.Goals as goal

pub returns-in-Some : goal.returns-in-Some
unfolding map_test
returns-in-Some c = rw (← c.test_form.ensures, c.in_ok-test_form.was) (shared_here _ _ _ c.in-Some.ensures)

pub returns-in-None : goal.returns-in-None
unfolding map_test
returns-in-None c = rw (← c.test_form.ensures, c.in_ok-test_form.was) (shared_nowhere _ _ c.in-None.ensures)
