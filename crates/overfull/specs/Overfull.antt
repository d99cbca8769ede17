-- All the overfull sides at once (requests, item 3): code 3, and the four side sums beside it. Assumes nothing.
use Rattle.std.specs.Prelude.{ℕ, ◌-◌, cond, List, [], ◌∷◌, eqb, get_or, Err}
use Rattle.answers.specs.declared.Refusal.TheVariants.{Overfull}
use Rattle.answers.specs.Answer.{Answer, Done}
use Rattle.answers.specs.Table.{code_of}
use Rattle.wiring.specs.Wiring.{side_sum}
use Rattle.wiring.specs.Frame.{four}
use Rattle.wiring.specs.Check.{overfull_sides}
use Rattle.overfull.specs.declared.Sums.{Sums}

-- the router's code 3: the sum of 1, 2, 4, 8 for those of L, T, R, B that are asked for more than W nets
unfoldable pub overfull_test : ℕ → List ℕ → Answer
overfull_test W n = let sides : ℕ = overfull_sides four 4 W n in cond (eqb sides 0) Done (Err (Overfull sides))

-- the side sums of L, T, R, B
abbrev pub sums_of : List ℕ → Sums
sums_of n = record { left = side_sum four n 1; top = side_sum four n 2; right = side_sum four n 3; bottom = side_sum four n 4 }

abbrev pub no_sums : Sums
no_sums = record { left = 0; top = 0; right = 0; bottom = 0 }

-- in the order L, T, R, B, and the sum of side s, 1 to 4
abbrev pub sum_list : Sums → List ℕ
sum_list sums = sums.left ∷ sums.top ∷ sums.right ∷ sums.bottom ∷ []

abbrev pub sum_at : Sums → ℕ → ℕ
sum_at sums s = get_or (sum_list sums) (s - 1) 0

-- what stands beside an answer to the counts n: with code 3 the four side sums, with any other code, done too, no sums
unfoldable pub sums_beside : Answer → List ℕ → Sums
sums_beside a n = cond (eqb (code_of a) 3) (sums_of n) no_sums
