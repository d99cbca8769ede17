-- The search for a shared terminal by marks: where it stops, and where it runs to its end. Over any wiring whose terminals have their bits.
-- Assumes nothing.
use Prim.Native.Nat.{ℕ, ◌+◌, ◌≤◌, ◌<◌}
use mathlib.Core.Path.{◌≡◌, sym, ap, ◌∙◌}
use mathlib.Core.Bool.{Bool, true, false}
use mathlib.Core.List.{List}
use native.Mathlib.Omega.{arith}
use borrow.Author.Count.{below_more}
use Rattle.wiring.specs.Wiring.{Wiring, Apart}
use Rattle.wiring.specs.Check.{clashes, clash_at, LowestSharing}
use Rattle.counting.proofs.Bools.{clear, fails}
use Rattle.counting.proofs.Search.{first_is, none_first}
use Rattle.wiring.proofs.Check.{clashes_is, is_clashes, clash_none}
use Rattle.marks.specs.Marks.{relay_marked, marks_of}
use Rattle.marks.proofs.Words.{Worded, marks_clash}

-- the search for the lowest relay that clashes stops at it
pub lowest_clash : (w : Wiring) (closed : ℕ → Bool) (k : ℕ) → LowestSharing w closed k → clash_at w closed ≡ k
unfolding clash_at
lowest_clash w closed k x =
    let r = x.relay in
    first_is (clashes w closed) w.relays 0 k (omega arith) (omega arith) (is_clashes w closed k x.sharing) (λ j p q. fails _ (λ e. x.lowest j q (clashes_is w closed j e)))

module _ (w : Wiring) (x : Worded w) (closed : ℕ → Bool) (k : ℕ) (marks : List ℕ) (m : marks ≡ marks_of w closed k) (none : (j : ℕ) → j < k → clashes w closed j ≡ false) where
  -- relay k clashes if one of its terminals is marked
  told : k < w.relays → closed k ≡ true → clashes w closed k ≡ relay_marked w marks k
  told h e = marks_clash w x closed k h e ∙ ap (λ z. relay_marked w z k) (sym m)

  pub clash_here : k < w.relays → closed k ≡ true → relay_marked w marks k ≡ true → LowestSharing w closed k
  clash_here h e t = record { relay = h; sharing = clashes_is w closed k (told h e ∙ t); lowest = λ j l x. clear (clashes w closed j) (is_clashes w closed j x) (none j l) }

  pub clash_nowhere : w.relays ≤ k → Apart w closed
  unfolding clash_at
  clash_nowhere h = clash_none w closed (omega (arith, none_first (clashes w closed) w.relays 0 (λ j p q. none j (omega arith))))

  -- one relay more that does not clash
  pub none_open : closed k ≡ false → (j : ℕ) → j < k + 1 → clashes w closed j ≡ false
  unfolding clashes
  none_open e = below_more _ _ none (rw e)

  pub none_unmarked : k < w.relays → closed k ≡ true → relay_marked w marks k ≡ false → (j : ℕ) → j < k + 1 → clashes w closed j ≡ false
  none_unmarked h e t = below_more _ _ none (told h e ∙ t)
