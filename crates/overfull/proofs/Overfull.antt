-- The test of the side sums passes exactly where no side is asked for more nets than the size. Assumes nothing.
use Prim.Native.Nat.{ℕ}
use mathlib.Core.Path.{◌≡◌}
use mathlib.Core.Bool.{true}
use mathlib.Core.List.{List}
use lib.Dec.{eqb}
use borrow.Author.Tests.{eqb-true}
use Rattle.answers.specs.declared.Refusal.TheVariants.{Overfull}
use Rattle.answers.specs.Answer.{Done}
use Rattle.answers.specs.Lent.{is_done}
use Rattle.answers.proofs.Done.{if_passes}
use Rattle.wiring.specs.Wiring.{Within}
use Rattle.wiring.specs.Frame.{four}
use Rattle.wiring.specs.Check.{overfull_sides}
use Rattle.wiring.proofs.Frame.{four_rows}
use Rattle.wiring.proofs.Overfull.{within_none, none_within}
use Rattle.overfull.specs.Overfull.{overfull_test}

module _ (W : ℕ) (n : List ℕ) where
  pub within-overfull : Within four W n → Done ≡ overfull_test W n
  unfolding overfull_test
  within-overfull w = rw (within_none four 4 W n w)

  pub overfull-within : is_done (overfull_test W n) ≡ true → Within four W n
  unfolding overfull_test
  overfull-within e =
      none_within four 4 W n four_rows (eqb-true _ _ (if_passes (eqb (overfull_sides four 4 W n) 0) (Overfull (overfull_sides four 4 W n)) e))
