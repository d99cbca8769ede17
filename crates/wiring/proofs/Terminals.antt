-- A list of relays that touches no terminal twice, over any wiring: no two of its relays share one. Assumes nothing.
use Prim.Native.Nat.{ℕ}
use mathlib.Core.Path.{◌≡◌}
use mathlib.Core.Logic.{inl, inr}
use mathlib.Core.Bool.{true, ◌&&◌, not}
use mathlib.Core.List.{List, [], ◌∷◌}
use borrow.Author.Tests.{not-true}
use Rattle.counting.specs.Lists.{among, distinct}
use Rattle.wiring.specs.Wiring.{Wiring, Touches, Apart, from_side, to_side}
use Rattle.wiring.specs.Terminals.{terminal, touched}
use Rattle.counting.proofs.Bools.{clear, and_parts}
use Rattle.counting.proofs.Lists.{member_cases, member_here, member_there, no_member}

-- the terminals of relay k, one after the other
abbrev from_terminal : Wiring → ℕ → ℕ
from_terminal w k = terminal w.size (from_side w k) (w.first k)

abbrev to_terminal : Wiring → ℕ → ℕ
to_terminal w k = terminal w.size (to_side w k) (w.second k)

touched_in : (w : Wiring) (k s p : ℕ) (ks : List ℕ) → among k ks ≡ true → Touches w k s p → among (terminal w.size s p) (touched w ks) ≡ true
unfolding touched
touched_in w k s p [] e t = absurd (no_member k e)
touched_in w k s p (j ∷ ks) e t = elim (member_cases k j ks e) [
  | inl z ↦ elim t [
    | inl q ↦ member_here _ (from_terminal w j) _ (cc)
    | inr q ↦ member_there _ (from_terminal w j) _ (member_here _ (to_terminal w j) _ (cc))
  ]
  | inr z ↦ member_there _ (from_terminal w j) _ (member_there _ (to_terminal w j) _ (touched_in w k s p ks z t))
]

pub distinct_apart : (w : Wiring) (ks : List ℕ) → distinct (touched w ks) ≡ true → Apart w (λ k. among k ks)
unfolding touched distinct
distinct_apart w [] d s p j k hj hk cj ck x y = absurd (no_member j cj)
distinct_apart w (i ∷ ks) d s p j k hj hk cj ck x y = elim (member_cases j i ks cj) [
  | inl a ↦ elim (member_cases k i ks ck) [ inl b ↦ cc | inr b ↦ absurd (alone k b y (rw a at x)) ]
  | inr a ↦ elim (member_cases k i ks ck) [ inl b ↦ absurd (alone j a x (rw b at y)) | inr b ↦ distinct_apart w ks rest.1 s p j k hj hk a b x y ]
]
  where
    first : (not (among (from_terminal w i) (to_terminal w i ∷ touched w ks)) ≡ true) × ((not (among (to_terminal w i) (touched w ks)) && distinct (touched w ks)) ≡ true)
    first = and_parts _ _ d

    rest : (not (among (to_terminal w i) (touched w ks)) ≡ true) × (distinct (touched w ks) ≡ true)
    rest = and_parts _ _ first.1

    -- a relay that touches what relay i touches is not among the others
    alone : (m : ℕ) → among m ks ≡ true → Touches w m s p → Touches w i s p → ⊥
    alone m a b (inl e) =
        clear (among (from_terminal w i) (to_terminal w i ∷ touched w ks)) (rw (e.0, e.1) (member_there _ _ _ (touched_in w m s p ks a b))) (not-true _ first.0)
    alone m a b (inr e) = clear (among (to_terminal w i) (touched w ks)) (rw (e.0, e.1) (touched_in w m s p ks a b)) (not-true _ rest.0)
