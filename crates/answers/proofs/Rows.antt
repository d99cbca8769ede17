-- An enum gone through case by case by the checker itself, so that a case more or less changes no proof. Assumes nothing.
use mathlib.Core.Path.{◌≡◌, ap}
use mathlib.Core.Logic.{inl, inr}
use mathlib.Core.Bool.{Bool, true}
use mathlib.Core.List.{List, [], ◌∷◌}
use denote.Struct.Field.{Field}
use denote.Struct.Values.{Values}
use denote.Enum.Declared.{Choice}

-- a test of each case, by what the case holds
abbrev pub Tests : List (List Field) → Type 0
Tests [] = Unit {0}
Tests (row ∷ rows) = (Values row → Bool) × Tests rows

abbrev pub tests : (rows : List (List Field)) → (Choice rows → Bool) → Tests rows
tests [] test = tt
tests (row ∷ rows) test = ((λ values. test (inl values)), tests rows (λ c. test (inr c)))

-- the tests that always pass
abbrev pub passes : (rows : List (List Field)) → Tests rows
passes [] = tt
passes (row ∷ rows) = ((λ values. true), passes rows)

pub each_row : (rows : List (List Field)) (test : Choice rows → Bool) → tests rows test ≡ passes rows → (c : Choice rows) → test c ≡ true
each_row [] test e c = absurd c
each_row (row ∷ rows) test e (inl values) = ap (λ (t : Tests (row ∷ rows)). t.0 values) e
each_row (row ∷ rows) test e (inr c) = each_row rows (λ d. test (inr d)) (ap (λ (t : Tests (row ∷ rows)). t.1) e) c
