-- At each refusal the tests that led there pick the case of `field_at`, and past them the field is there.
use mathlib.Core.Path.{sym, refl, ◌∙◌}
use native.Mathlib.Omega.{arith}
use borrow.Author.Tests.{le-leb, lt-leb, lt-ltb, eq-eqb, ne_eqb}
use Rattle.fields.specs.Read.{field_at}
use Rattle.fields.proofs.Fields.{by_length, there}
use Rattle.fields.proofs.field_at.Goals as goal

pub returns-then-s-at : goal.returns-then-s-at
unfolding field_at
returns-then-s-at c = simp (le-leb _ _ c.if-s-at.true)

pub returns-then-s-at-2 : goal.returns-then-s-at-2
unfolding field_at
returns-then-s-at-2 c = simp (lt-leb _ _ c.if-s-at.false, ne_eqb _ _ c.if-s-at-2.true)

pub returns-then-s-at-lt3 : goal.returns-then-s-at-lt3
unfolding field_at
returns-then-s-at-lt3 c = simp (lt-leb _ _ c.if-s-at.false, eq-eqb _ _ c.if-s-at-2.false, lt-ltb _ _ c.if-s-at-lt3.true)

pub returns-then-word_at-len : goal.returns-then-word_at-len
returns-then-word_at-len c = sym (by_length _ _ _ _ (omega arith) c.if-s-at-2.false ∙ simp (ne_eqb _ _ (λ e. c.if-word_at-len.true (c.word_at.ensures ∙ e))))

pub returns-then-s-value : goal.returns-then-s-value
returns-then-s-value c =
    let is = sym c.word_at.ensures ∙ c.if-word_at-len.false in
    sym (by_length _ _ _ _ (omega arith) c.if-s-at-2.false ∙ simp (eq-eqb _ _ is, lt-ltb _ _ c.if-s-value.true))

pub returns : goal.returns
returns c =
    sym (there _ _ _ _ (record { place = refl; fits = omega arith; tagged = c.if-s-at-2.false; sized = sym c.word_at.ensures ∙ c.if-word_at-len.false }))
