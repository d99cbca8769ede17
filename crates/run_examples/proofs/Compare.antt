-- Laws of a room that is compared byte by byte. Assumes nothing.
use Rattle.std.proofs.Common.{◌≡◌, ℕ, zero, suc, ◌+◌, ◌<◌, ◌≤◌, Bool, true, false, ◌&&◌, eqb, List, [], ◌∷◌, length, get_or, drop, sym, refl, ap, ◌∙◌, add-one, arith, drop_of_length-le, eq-eqb, ne_eqb}
use lib.Seq.{drop-nil}
use Rattle.run_examples.specs.Compare.{stands}

-- what is compared at place i, and what is still to compare
abbrev here : List ℕ → List ℕ → ℕ → Bool
here room map i = eqb (get_or room i 0) (get_or map i 0xA5)

abbrev from : List ℕ → List ℕ → ℕ → Bool
from room map i = stands (drop i room) (drop i map)

turn : (room map : List ℕ) (i : ℕ) → i < length room → from room map i ≡ (here room map i && from room map (suc i))
unfolding stands
turn [] map i h = absurd (omega arith)
turn (x ∷ room) [] zero h = refl
turn (x ∷ room) [] (suc i) h = rw drop-nil at (turn room [] i (omega arith))
turn (x ∷ room) (b ∷ map) zero h = refl
turn (x ∷ room) (b ∷ map) (suc i) h = turn room map i (omega arith)

pub turn_same : (room map : List ℕ) (i x b : ℕ) → i < length room → x ≡ get_or room i 0 → b ≡ get_or map i 0xA5 → x ≡ b → stands room map ≡ from room map i → stands room map ≡ from room map (i + 1)
turn_same room map i x b h p q e s =
    let same : here room map i ≡ true = eq-eqb _ _ (sym p ∙ e ∙ q) in
    s ∙ turn room map i h ∙ rw (same, add-one)

pub turn_other : (room map : List ℕ) (i x b : ℕ) → i < length room → x ≡ get_or room i 0 → b ≡ get_or map i 0xA5 → (x ≡ b → ⊥) → stands room map ≡ from room map i → false ≡ stands room map
turn_other room map i x b h p q n s =
    let other : here room map i ≡ false = ne_eqb _ _ (λ e. n (p ∙ e ∙ sym q)) in
    sym (s ∙ turn room map i h ∙ rw other)

and_false : (b : Bool) → false ≡ (b && false)
and_false true = refl
and_false false = refl

pub too_long : (room map : List ℕ) → length room < length map → false ≡ stands room map
unfolding stands
too_long [] [] h = absurd (omega arith)
too_long [] (b ∷ map) h = refl
too_long (x ∷ room) [] h = absurd (omega arith)
too_long (x ∷ room) (b ∷ map) h = and_false (eqb x b) ∙ ap (λ (t : Bool). eqb x b && t) (too_long room map (omega arith))

pub all_same : (room map : List ℕ) (i : ℕ) → length room ≤ i → length map ≤ length room → stands room map ≡ from room map i → true ≡ stands room map
unfolding stands
all_same room map i h l s = sym (s ∙ rw (drop_of_length-le room h, drop_of_length-le map {i = i} (omega arith)))
