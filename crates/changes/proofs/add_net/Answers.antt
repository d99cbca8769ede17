use mathlib.Core.Path.{◌≡◌, sym, ap, ◌∙◌}
use native.Mathlib.Omega.{arith}
use Rattle.std.specs.Prelude.{Some, None}
use Rattle.std.proofs.lemmas.Result.{err_from_is_err_and}
use Rattle.std.proofs.lemmas.Option.{MatchOption-at_some, MatchOption-at_none}
use Rattle.answers.specs.Lent.{is_done}
use Rattle.changes.proofs.Answers.{start_served, type_is}
use Rattle.changes.proofs.Ways.{add_none, add_done}
use Rattle.changes.proofs.add_net.Goals as goal

pub invariant_of-lowest_free : goal.invariant_of-lowest_free
invariant_of-lowest_free c = record { in_a_word = (start_served _ _ (sym c.test_start.ensures ∙ c.in_ok-test_start.was)).1 }

pub lowest_free-free-requires : goal.lowest_free-free-requires
lowest_free-free-requires c = type_is _ (ap is_done (sym c.test_type.ensures ∙ c.in_ok-test_type.was))

pub returns-in_err-k : goal.returns-in_err-k
returns-in_err-k c =
    let none : c.lowest_free-free.result ≡ None = grind arith in
    let out = add_none _ _ _ (sym c.test_start.ensures ∙ c.in_ok-test_start.was) (sym c.test_type.ensures ∙ c.in_ok-test_type.was) (MatchOption-at_none _ _ none c.lowest_free-free.ensures) in
    let p = err_from_is_err_and c.from_residual-in_err-k.result c.from_residual-in_err-k.ensures.1 in
    record { value = rw (p.1, p.2) (rw none at c.in_err-k.ensures.value ∙ out.0); map_after = out.1 }

pub returns : goal.returns
returns c =
    let some : c.lowest_free-free.result ≡ Some c.in_ok-k.k = grind arith in
    let out = add_done _ _ _ (sym c.test_start.ensures ∙ c.in_ok-test_start.was) (sym c.test_type.ensures ∙ c.in_ok-test_type.was) _ (MatchOption-at_some _ _ _ some c.lowest_free-free.ensures) c.close_relay.ensures in
    record { value = out.0; map_after = out.1 }
