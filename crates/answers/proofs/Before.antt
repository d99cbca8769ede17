-- The table as it was before row 14 was retired (requests, item 7), kept as history: no contract and no promise cites it. Assumes nothing.
use Prim.Native.Nat.{ℕ}
use mathlib.Core.Logic.{◌⊎◌, inl, inr}
use mathlib.Core.Bool.{cond}
use lib.Dec.{eqb}
use Rattle.answers.specs.Answer.{Answer}
use Rattle.answers.specs.Table.{code_of, number_of}

-- an answer of that table: one of today's, or row 14, a side sum above the size, with its side, 1 to 4 for L, T, R, B
abbrev pub AnswerBefore : Type 0
AnswerBefore = Answer ⊎ ℕ

abbrev pub code_before : AnswerBefore → ℕ
code_before (inl a) = code_of a
code_before (inr side) = 14

abbrev pub number_before : AnswerBefore → ℕ
number_before (inl a) = number_of a
number_before (inr side) = side

-- goes on only after done
abbrev pub when_done_before : {A : Type 0} → AnswerBefore → (AnswerBefore → A) → A → A
when_done_before a refuse more = cond (eqb (code_before a) 0) more (refuse a)
