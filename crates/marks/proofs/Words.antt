-- Laws of the marks as words, over any wiring with sides 1 to 4 and positions 1 to 64: the marks of the closed relays tell which terminals
-- are touched, so a marked terminal of a closed relay is a clash, and a relay with none marked is free. Assumes nothing.
use Prim.Native.Nat.{ℕ, zero, suc, ◌+◌, ◌*◌, ◌-◌, ◌^◌, ◌≤◌, ◌<◌}
use mathlib.Core.Path.{◌≡◌, refl, sym, ◌∙◌}
use mathlib.Core.Bool.{Bool, true, false, ◌&&◌, ◌||◌, not, cond, or_assoc}
use mathlib.Core.List.{List}
use native.Mathlib.Omega.{arith}
use native.Mathlib.Numerals.{add-one}
use native.Mathlib.Decide.{ℕ_discrete}
use lib.Dec.{eqb}
use lib.ListN.{length, get_or, replicate, length-set, length-replicate}
use lib.Bits.{bit_or}
use borrow.Author.Tests.{eq-eqb, ne_eqb, lt-ltb}
use Rattle.std.specs.Prelude.{Some, IsSome}
use Rattle.counting.specs.Count.{any_below}
use Rattle.wiring.specs.Wiring.{Wiring, from_side, to_side}
use Rattle.wiring.specs.Frame.{frame}
use Rattle.wiring.specs.Check.{same, shares, clashes}
use Rattle.wiring.specs.Change.{is_free}
use Rattle.counting.proofs.Bits.{bit, bit_zero, digit_in, digit_set}
use Rattle.counting.proofs.Lists.{get_or_alike}
use Rattle.wiring.proofs.Frame.{is_there}
use Rattle.wiring.proofs.Check.{touches}
use Rattle.wiring.proofs.Marked.{marked, marked_none, marked_next, shared_marked}
use Rattle.frame.specs.declared.Terminal.{Terminal}
use Rattle.frame.specs.Leaves.{terminals_of}
use Rattle.frame.proofs.Ends.{EndsOf, ends_are}
use Rattle.marks.specs.Marks.{Markable, is_marked, with_mark, relay_marked, with_relay, marks_of}

digit : (marks : List ℕ) (s p : ℕ) → is_marked marks s p ≡ digit_in marks (s - 1) (p - 1)
unfolding is_marked digit_in bit
digit marks s p = refl

-- two numbers from 1 on are one if they are one when counted from 0
counted : (a b : ℕ) → 1 ≤ a → 1 ≤ b → eqb (b - 1) (a - 1) ≡ eqb a b
counted a b x y = go (ℕ_discrete a b)
  where
    go : Dec (a ≡ b) → eqb (b - 1) (a - 1) ≡ eqb a b
    go (yes e) = eq-eqb (b - 1) (a - 1) (omega arith) ∙ sym (eq-eqb a b e)
    go (no n) = ne_eqb (b - 1) (a - 1) (λ e. n (omega arith)) ∙ sym (ne_eqb a b n)

-- one terminal more is marked
pub marked_with : (marks : List ℕ) (s p t q : ℕ) → 1 ≤ s → s ≤ length marks → 1 ≤ p → 1 ≤ t → 1 ≤ q → is_marked (with_mark marks s p) t q ≡ (same s p t q || is_marked marks t q)
unfolding with_mark
marked_with marks s p t q a b c d e =
    digit _ t q ∙ digit_set marks (s - 1) (p - 1) (t - 1) (q - 1) (omega arith) ∙ rw (counted s t a d, counted p q c e, digit marks t q)

long_with : (marks : List ℕ) (s p : ℕ) → length (with_mark marks s p) ≡ length marks
unfolding with_mark
long_with marks s p = length-set marks (s - 1) (bit_or (get_or marks (s - 1) 0) (2 ^ (p - 1)))

long_with_relay : (w : Wiring) (marks : List ℕ) (k : ℕ) → length (with_relay w marks k) ≡ length marks
unfolding with_relay
long_with_relay w marks k = long_with (with_mark marks (to_side w k) (w.second k)) (from_side w k) (w.first k) ∙ long_with marks (to_side w k) (w.second k)

-- every terminal of the wiring has its bit
pub record Worded (w : Wiring) : Type 0 where
  pub from : (k : ℕ) → k < w.relays → Markable (record { side = from_side w k; position = w.first k })
  pub to : (k : ℕ) → k < w.relays → Markable (record { side = to_side w k; position = w.second k })

pub frame_worded : (W : ℕ) → W ≤ 64 → Worded (frame W)
frame_worded W h = record {
  from = λ k r. let x = is_there W k r in record { side1 = x.sides.from1; side4 = x.sides.from2; position1 = x.first.0; position64 = omega arith };
  to = λ k r. let x = is_there W k r in record { side1 = x.sides.to1; side4 = x.sides.to2; position1 = x.second.0; position64 = omega arith };
}

-- a relay that is there has its terminals
pub ends_there : (W k : ℕ) → k < 6 * W → IsSome (terminals_of W k)
unfolding terminals_of
ends_there W k h = rw (lt-ltb k (6 * W) h)

pub ends_found : (W k : ℕ) (ends : Terminal × Terminal) → terminals_of W k ≡ Some ends → EndsOf (frame W) k ends.0 ends.1
ends_found W k ends found = ends_are W k ends.0 ends.1 found

-- and what the code makes of them, in the wiring's terms
module _ (w : Wiring) (k : ℕ) (a b : Terminal) (x : EndsOf w k a b) where
  pub ends_markable : Worded w → k < w.relays → Markable a × Markable b
  ends_markable y h = (rw x.from (y.from k h), rw x.to (y.to k h))

  module _ (marks : List ℕ) where
    either_marked : relay_marked w marks k ≡ (is_marked marks a.side a.position || is_marked marks b.side b.position)
    unfolding relay_marked
    either_marked = rw (x.from, x.to)

    pub first_marked : {r : Bool} → r ≡ is_marked marks a.side a.position → r ≡ true → r ≡ relay_marked w marks k
    first_marked e t = rw (either_marked, ← e, t)

    pub second_marked : {l r : Bool} → l ≡ is_marked marks a.side a.position → l ≡ false → r ≡ is_marked marks b.side b.position → r ≡ relay_marked w marks k
    second_marked e t f = rw (either_marked, ← e, t) f

    pub both_marked : {mid out : List ℕ} → mid ≡ with_mark marks b.side b.position → out ≡ with_mark mid a.side a.position → out ≡ with_relay w marks k
    unfolding with_relay
    both_marked e f = f ∙ rw (e, x.from, x.to)

-- one relay more, for a loop over them
module _ (w : Wiring) (closed : ℕ → Bool) (k : ℕ) (marks : List ℕ) (e : marks ≡ marks_of w closed k) where
  pub marks_same : closed k ≡ false → marks ≡ marks_of w closed (k + 1)
  unfolding marks_of
  marks_same f = rw (add-one k, f) e

  pub marks_more : {out : List ℕ} → closed k ≡ true → out ≡ with_relay w marks k → out ≡ marks_of w closed (k + 1)
  unfolding marks_of
  marks_more f g = rw (add-one k, f, ← e) g

module _ (w : Wiring) (x : Worded w) (closed : ℕ → Bool) where
  pub marks_long : (k : ℕ) → length (marks_of w closed k) ≡ 4
  unfolding marks_of
  marks_long zero = length-replicate {A = ℕ} 4 0
  marks_long (suc k) = go (closed k) (marks_long k)
    where
      go : (t : Bool) → length (marks_of w closed k) ≡ 4 → length (cond t (with_relay w (marks_of w closed k) k) (marks_of w closed k)) ≡ 4
      go true l = long_with_relay w (marks_of w closed k) k ∙ l
      go false l = l

  -- two terminals more are marked
  two_more : (marks : List ℕ) (k s p : ℕ) → length marks ≡ 4 → k < w.relays → 1 ≤ s → 1 ≤ p → is_marked (with_relay w marks k) s p ≡ (touches w k s p || is_marked marks s p)
  unfolding with_relay touches
  two_more marks k s p l h a b =
      let from = x.from k h in
      let to = x.to k h in
      let long = long_with marks (to_side w k) (w.second k) in
      marked_with (with_mark marks (to_side w k) (w.second k)) (from_side w k) (w.first k) s p from.side1 (omega arith) from.position1 a b
      ∙ rw (marked_with marks (to_side w k) (w.second k) s p to.side1 (omega arith) to.position1 a b) (sym (or_assoc (same (from_side w k) (w.first k) s p) (same (to_side w k) (w.second k) s p) (is_marked marks s p)))

  -- the marks tell which terminals the closed relays touch
  pub marks_tell : (k s p : ℕ) → k ≤ w.relays → 1 ≤ s → 1 ≤ p → is_marked (marks_of w closed k) s p ≡ marked w closed k s p
  unfolding marks_of
  marks_tell zero s p h a b = digit (replicate 4 0) s p ∙ unfold digit_in in rw (get_or_alike {A = ℕ} 4 (s - 1) 0, bit_zero (p - 1), marked_none w closed s p)
  marks_tell (suc k) s p h a b = go (closed k) refl (marks_tell k s p (omega arith) a b)
    where
      go : (t : Bool) → closed k ≡ t → is_marked (marks_of w closed k) s p ≡ marked w closed k s p → is_marked (cond t (with_relay w (marks_of w closed k) k) (marks_of w closed k)) s p ≡ marked w closed (suc k) s p
      go true e r = two_more (marks_of w closed k) k s p (marks_long k) (omega arith) a b ∙ rw (marked_next w closed k s p, e, r)
      go false e r = rw (marked_next w closed k s p, e, r)

  relay_tell : (m k : ℕ) → m ≤ w.relays → k < w.relays → relay_marked w (marks_of w closed m) k ≡ any_below m (λ j. closed j && shares w j k)
  unfolding relay_marked
  relay_tell m k a h =
      let from = x.from k h in
      let to = x.to k h in
      rw (marks_tell m (from_side w k) (w.first k) a from.side1 from.position1, marks_tell m (to_side w k) (w.second k) a to.side1 to.position1) (sym (shared_marked w closed m k))

  -- a closed relay clashes exactly if a terminal of it is marked by the lower ones
  pub marks_clash : (k : ℕ) → k < w.relays → closed k ≡ true → clashes w closed k ≡ relay_marked w (marks_of w closed k) k
  unfolding clashes
  marks_clash k h e = rw (e, relay_tell k k (omega arith) h)

  -- a relay is free exactly if none of its terminals is marked by any
  pub marks_free : (k : ℕ) → k < w.relays → is_free w closed k ≡ not (relay_marked w (marks_of w closed w.relays) k)
  unfolding is_free
  marks_free k h = rw (relay_tell w.relays k (omega arith) h)
