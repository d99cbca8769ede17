use Rattle.std.proofs.Common.{ℕ, ◌≡◌, refl, ap, subst, ◌∙◌, ◌++◌, List, arith}
use lib.ListN.{set, drop, replicate, length-set}
use borrow.Author.Fill.{fill_more}
use Rattle.maps.proofs.clear.Goals as goal

pub loop-i-init : goal.loop-i-init
loop-i-init c = (refl, refl)

pub loop-i-preserved : goal.loop-i-preserved
loop-i-preserved c =
    let i = c.loop-i.i in (
      ap (λ (l : List ℕ). set l i 0) c.loop-i.invariant.0 ∙ fill_more i 0 c.args.room.now (omega arith),
      length-set c.loop-i.room i 0 ∙ c.loop-i.invariant.1,
    )

pub returns : goal.returns
returns c = subst (λ (n : ℕ). c.loop-i.room ≡ replicate n 0 ++ drop n c.args.room.now) (omega arith) c.loop-i.invariant.0
