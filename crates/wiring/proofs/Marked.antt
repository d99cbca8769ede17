-- Marks over any wiring: a terminal is marked when a closed relay before k touches it, and a relay shares a terminal with one of those
-- exactly if one of its own two is marked. So a search that keeps marks is the search that compares relays. Assumes nothing.
use Prim.Native.Nat.{ℕ, suc}
use mathlib.Core.Path.{◌≡◌, refl, ap, ◌∙◌}
use mathlib.Core.Bool.{Bool, false, ◌&&◌, ◌||◌, and-or_distrib_left}
use Rattle.counting.specs.Count.{any_below}
use Rattle.wiring.specs.Wiring.{Wiring, from_side, to_side}
use Rattle.wiring.specs.Check.{shares}
use Rattle.counting.proofs.Search.{any_or, any_ext}
use Rattle.wiring.proofs.Check.{touches, shares_touches}

-- a closed relay below k touches position p of side s
unfoldable pub marked : Wiring → (ℕ → Bool) → ℕ → ℕ → ℕ → Bool
marked w closed k s p = any_below k (λ j. closed j && touches w j s p)

-- no terminal is marked at first; relay k, if closed, marks its two
pub marked_none : (w : Wiring) (closed : ℕ → Bool) (s p : ℕ) → marked w closed 0 s p ≡ false
unfolding marked any_below
marked_none w closed s p = refl

pub marked_next : (w : Wiring) (closed : ℕ → Bool) (k s p : ℕ) → marked w closed (suc k) s p ≡ (closed k && touches w k s p || marked w closed k s p)
unfolding marked any_below
marked_next w closed k s p = refl

-- the closed relays below m with which relay k shares a terminal
pub shared_marked : (w : Wiring) (closed : ℕ → Bool) (m k : ℕ) → any_below m (λ j. closed j && shares w j k) ≡ (marked w closed m (from_side w k) (w.first k) || marked w closed m (to_side w k) (w.second k))
unfolding marked
shared_marked w closed m k =
    any_ext m _ _ (λ j. ap (λ (t : Bool). closed j && t) (shares_touches w j k) ∙ and-or_distrib_left (closed j) _ _)
    ∙ any_or m (λ j. closed j && touches w j (from_side w k) (w.first k)) (λ j. closed j && touches w j (to_side w k) (w.second k))
