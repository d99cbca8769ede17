-- The search for a free relay by marks, among the relays of the type alone: where it stops, and where it runs to its end. Assumes nothing.
use Prim.Native.Nat.{ℕ, ◌*◌, ◌-◌, ◌≤◌, ◌<◌}
use mathlib.Core.Path.{◌≡◌, sym, ap, ◌∙◌}
use mathlib.Core.Bool.{Bool, true, false, not}
use mathlib.Core.List.{List}
use native.Mathlib.Omega.{arith}
use Rattle.wiring.specs.Frame.{frame}
use Rattle.wiring.specs.Change.{Taken, AllTaken, LowestFree, is_free}
use Rattle.wiring.proofs.Relays.{type_block, type_range, range_of}
use Rattle.wiring.proofs.Free.{free_is, taken_is}
use Rattle.marks.specs.Marks.{relay_marked, marks_of}
use Rattle.marks.proofs.Words.{frame_worded, marks_free}

-- the relays from `from` up to k have a marked terminal each
abbrev pub Marked : ℕ → List ℕ → ℕ → ℕ → Type 0
Marked W marks from k = (j : ℕ) → j < k → from ≤ j → relay_marked (frame W) marks j ≡ true

module _ (W c : ℕ) (closed : ℕ → Bool) (marks : List ℕ) (s : W ≤ 64) (a : 1 ≤ c) (b : c ≤ 6) (m : marks ≡ marks_of (frame W) closed (6 * W)) where
  -- a relay is free exactly if none of its terminals is marked
  told : (k : ℕ) → k < 6 * W → is_free (frame W) closed k ≡ not (relay_marked (frame W) marks k)
  told k h = marks_free (frame W) (frame_worded W s) closed k h ∙ ap (λ z. not (relay_marked (frame W) z k)) (sym m)

  taken : (k : ℕ) → k < 6 * W → relay_marked (frame W) marks k ≡ true → Taken (frame W) closed k
  taken k h e = taken_is (frame W) closed k (told k h ∙ rw e)

  inside : (k : ℕ) → k < c * W → k < 6 * W
  inside k h = omega (arith, type_block W 6 c a b)

  -- the first relay of the type with no marked terminal
  pub free-here : (k : ℕ) → (c - 1) * W ≤ k → k < c * W → Marked W marks ((c - 1) * W) k → relay_marked (frame W) marks k ≡ false → LowestFree (frame W) closed c k
  free-here k p q none e = record {
    there = inside k q;
    kind = type_range W c k a p q;
    free = free_is (frame W) closed k (told k (inside k q) ∙ rw e);
    lowest = λ j l t. let h : j < 6 * W = omega (arith, inside k q) in taken j h (none j l (range_of W 6 c j h t).0);
  }

  -- there is none
  pub free_nowhere : (k : ℕ) → c * W ≤ k → Marked W marks ((c - 1) * W) k → AllTaken (frame W) closed c
  free_nowhere k p none j h t = let r = range_of W 6 c j h t in taken j h (none j (omega arith) r.0)
