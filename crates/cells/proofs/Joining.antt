-- Relays that carry counts in some cells of the frame: one cell, and a cell joined with the others. Assumes nothing.
use Prim.Native.Nat.{ℕ, zero, suc, ◌+◌, ◌*◌, ◌-◌, ◌≤◌, ◌<◌}
use mathlib.Core.Path.{◌≡◌, refl, sym, ap, ◌∙◌, fun_ext}
use mathlib.Core.Logic.{◌⊎◌, inl, inr}
use mathlib.Core.Bool.{true, false, ◌||◌}
use mathlib.Core.List.{List, [], ◌∷◌, ◌++◌, map, map-map}
use native.Mathlib.Omega.{arith}
use Rattle.counting.specs.Count.{count}
use Rattle.counting.specs.Lists.{among}
use Rattle.wiring.specs.Wiring.{nets, Touches, Apart, from_side}
use Rattle.wiring.specs.Frame.{relay, type_in, place_in, frame}
use Rattle.counting.proofs.Bools.{clear, or_cases}
use Rattle.counting.proofs.Lists.{among-append, member_map, member_here, member_there, no_member, between_member, get_or_alike}
use Rattle.counting.proofs.Counting.{count_ext, count_none}
use Rattle.counting.proofs.Tally.{count_or}
use Rattle.wiring.proofs.Relays.{place_in_lem}
use Rattle.wiring.proofs.Terminals.{distinct_apart}
use Rattle.frame.specs.declared.Counts.{Counts}
use Rattle.frame.specs.Leaves.{counts, count_list}
use Rattle.loads.specs.Load.{less}
use Rattle.loads.specs.Seat.{net_list}
use Rattle.loads.proofs.Counts.{SumsWithin, Part, net_less, counts_eq}
use Rattle.loads.proofs.Seats.{Cell, centre_cell}
use Rattle.cells.specs.Serve.{low_high, centre}
use Rattle.cells.proofs.Laid.{Laid, lay, Of, lay_joins, lay_of, lay_apart, lay_count}
use Rattle.cells.specs.Cells.{cell_of, cell_at, size}
use Rattle.cells.proofs.Listed.{IsCell, which}

-- relays ks of the frame carry n, and stand at positions that are `There`
pub record Good (W : ℕ) (There : ℕ → Type 0) (n : Counts) (ks : List ℕ) : Type 0 where
  pub apart : Apart (frame W) (λ k. among k ks)
  pub inside : (k : ℕ) → among k ks ≡ true → (k < 6 * W) × There (place_in W k)
  pub counts : (c : ℕ) → 1 ≤ c → c ≤ 6 → count W (λ i. among ((c - 1) * W + i) ks) ≡ nets (count_list n) c

pub elsewhere : {W : ℕ} {There Here : ℕ → Type 0} {n : Counts} {ks : List ℕ} → ((q : ℕ) → There q → Here q) → Good W There n ks → Good W Here n ks
elsewhere {W} f g = record {
  apart = g.apart;
  inside = λ k e. let m = g.inside k e in (m.0, f (place_in W k) m.1);
  counts = g.counts;
}

-- a cell of size s, laid into the frame
pub good_cell : {s W : ℕ} {place : ℕ → ℕ} {n : Counts} {ks : List ℕ} → Laid s W place → 1 ≤ s → Cell s n ks → Good W (Of s place) n (map (lay s W place) ks)
good_cell {s} {W} {place} {n} {ks} laid some cell = record {
  apart = lay_apart s W place laid ks below (distinct_apart (frame s) ks cell.apart);
  inside = λ k e. let m = member_map (lay s W place) k ks e in let h = below m.0 m.1 in rw (← m.2) ((lay_joins s W place laid m.0 h).there, lay_of s W place laid m.0 h);
  counts = λ c x y. lay_count s W place laid ks below c x y ∙ cell.counts c x y;
}
  where
    below : (k : ℕ) → among k ks ≡ true → k < 6 * s
    below k e = omega (arith, between_member 0 (6 * s - 1) k ks cell.below e)

-- position q is in cell p, and in one of the cells ps
abbrev pub In : ℕ → ℕ → ℕ → Type 0
In W p q = cell_of W q ≡ p

abbrev pub Among : ℕ → List ℕ → ℕ → Type 0
Among W ps q = among (cell_of W q) ps ≡ true

-- the two positions of a cell
pub spot : (W p h : ℕ) → p + p ≤ W + 1 → 1 ≤ h → h ≤ 2 → ((h ≡ 1) × (low_high W p h ≡ p)) ⊎ ((h ≡ 2) × (low_high W p h + p ≡ W + 1))
spot W p zero low x y = absurd (omega arith)
spot W p (suc zero) low x y = inl (refl, refl)
spot W p (suc (suc zero)) low x y = inr (refl, omega arith)
spot W p (suc (suc (suc h))) low x y = absurd (omega arith)

laid_block : (W p : ℕ) → 1 ≤ p → p + p ≤ W → Laid 2 W (low_high W p)
laid_block W p one low = record {
  inside = λ h x y. elim (spot W p h (omega arith) x y) [ inl a ↦ omega arith | inr a ↦ omega arith ];
  once = λ g h x y u v e. elim (spot W p g (omega arith) x y) [
    | inl a ↦ elim (spot W p h (omega arith) u v) [ inl b ↦ omega arith | inr b ↦ omega arith ]
    | inr a ↦ elim (spot W p h (omega arith) u v) [ inl b ↦ omega arith | inr b ↦ omega arith ]
  ];
  mirror = λ h x y. elim (spot W p h (omega arith) x y) [ inl a ↦ rw a.0 | inr a ↦ rw a.0 (omega arith) ];
}

laid_centre : (W p : ℕ) → 1 ≤ p → p + p ≡ W + 1 → Laid 1 W (low_high W p)
laid_centre W p one odd = record {
  inside = λ h x y. elim (spot W p h (omega arith) x (omega arith)) [ inl a ↦ omega arith | inr a ↦ omega arith ];
  once = λ g h x y u v e. omega arith;
  mirror = λ h x y. elim (spot W p h (omega arith) x (omega arith)) [ inl a ↦ rw a.0 (omega arith) | inr a ↦ absurd (omega arith) ];
}

-- a cell is a small frame laid into the frame
pub laid_cell : (W p : ℕ) → IsCell W p → Laid (size W p) W (low_high W p)
laid_cell W p i = elim (which W p i) [ inl e ↦ rw e.1 (laid_centre W p i.low e.0) | inr e ↦ rw e.2 (laid_block W p i.low e.0) ]

pub size-some : (W p : ℕ) → IsCell W p → (1 ≤ size W p) × (size W p ≤ 2)
size-some W p i = elim (which W p i) [ inl e ↦ omega arith | inr e ↦ omega arith ]

of_cell : (W p s q : ℕ) → IsCell W p → s ≤ 2 → Of s (low_high W p) q → In W p q
of_cell W p s q i two (h, x, y, e) = elim (spot W p h i.half x (omega arith)) [ inl a ↦ omega arith | inr a ↦ omega arith ]

pub good_in : (W p : ℕ) (l : Counts) (ks : List ℕ) → IsCell W p → Cell (size W p) l ks → Good W (In W p) l (map (lay (size W p) W (low_high W p)) ks)
good_in W p l ks i c = elsewhere (λ q. of_cell W p (size W p) q i (size-some W p i).1) (good_cell (laid_cell W p i) (size-some W p i).0 c)

-- the centre's nets
pub centre_laid : (W p : ℕ) (n : Counts) → map (lay 1 W (low_high W p)) (centre_cell n) ≡ centre W p n
unfolding centre type_in place_in
centre_laid W p n =
    map-map (lay 1 W (low_high W p)) (λ c. relay 1 c 1) (net_list n)
    ∙ ap (λ (f : ℕ → ℕ). map f (net_list n)) (fun_ext (λ c.
    let z : type_in 1 (relay 1 c 1) - 1 ≡ c - 1 = omega arith in
    let y : place_in 1 (relay 1 c 1) ≡ 1 = omega arith in
    rw (z, y)))

-- no cells
pub good_none : (W : ℕ) (n : Counts) → SumsWithin 0 n → Good W (Among W []) n []
unfolding among
good_none W n w = record {
  apart = λ s x j k hj hk cj ck u v. absurd (no_member j cj);
  inside = λ k e. absurd (no_member k e);
  counts = λ c x y. count_none W (λ i. false) (λ i h. refl) ∙ rw empty (sym (get_or_alike {A = ℕ} 6 (c - 1) 0));
}
  where
    empty : n ≡ counts 0 0 0 0 0 0
    empty = counts_eq n (counts 0 0 0 0 0 0) (omega arith) (omega arith) (omega arith) (omega arith) (omega arith) (omega arith)

-- a relay touches terminals of its own cell
pub touch_cell : (W k s x : ℕ) → k < 6 * W → Touches (frame W) k s x → cell_of W x ≡ cell_at W k
touch_cell W k s x h (inl e) = ap (cell_of W) (sym e.1)
touch_cell W k s x h (inr e) = let p = place_in_lem W 6 k h in omega (arith, e.1)

-- a cell and the others
module _ (W p : ℕ) (ps : List ℕ) {n l : Counts} {js ks : List ℕ} (new : among p ps ≡ false) (part : Part l n) (b : Good W (In W p) l js) (g : Good W (Among W ps) (less n l) ks) where
  -- a terminal of the cell is none of the others
  differ : (s x j k : ℕ) → among j js ≡ true → among k ks ≡ true → Touches (frame W) j s x → Touches (frame W) k s x → ⊥
  differ s x j k cj ck u v =
      let m = b.inside j cj in
      let r = g.inside k ck in
      let same : cell_at W k ≡ p = sym (touch_cell W k s x r.0 v) ∙ touch_cell W j s x m.0 u ∙ m.1 in
      clear (among p ps) (rw same at r.1) new

  either : (k : ℕ) → among k (js ++ ks) ≡ true → (among k js ≡ true) ⊎ (among k ks ≡ true)
  either k e = or_cases (among k js) (among k ks) (rw (among-append k js ks) at e)

  join_apart : Apart (frame W) (λ k. among k (js ++ ks))
  join_apart s x j k hj hk cj ck u v = elim (either j cj) [
    | inl c ↦ elim (either k ck) [ inl d ↦ b.apart s x j k hj hk c d u v | inr d ↦ absurd (differ s x j k c d u v) ]
    | inr c ↦ elim (either k ck) [ inl d ↦ absurd (differ s x k j d c v u) | inr d ↦ g.apart s x j k hj hk c d u v ]
  ]

  join_inside : (k : ℕ) → (among k js ≡ true) ⊎ (among k ks ≡ true) → (k < 6 * W) × Among W (p ∷ ps) (place_in W k)
  join_inside k (inl c) = let m = b.inside k c in (m.0, member_here (cell_at W k) p ps m.1)
  join_inside k (inr d) = let m = g.inside k d in (m.0, member_there (cell_at W k) p ps m.1)

  join_counts : (c : ℕ) → 1 ≤ c → c ≤ 6 → count W (λ i. among ((c - 1) * W + i) (js ++ ks)) ≡ nets (count_list n) c
  join_counts c x y =
      let whole = count_ext W (λ i. among ((c - 1) * W + i) (js ++ ks)) (λ i. among ((c - 1) * W + i) js || among ((c - 1) * W + i) ks) (λ i h. among-append ((c - 1) * W + i) js ks) in
      let parts = count_or W (λ i. among ((c - 1) * W + i) js) (λ i. among ((c - 1) * W + i) ks) (λ i h u v.
      let k = (c - 1) * W + i in
      differ (from_side (frame W) k) (place_in W k) k k u v (inl (refl, refl)) (inl (refl, refl))) in
      omega (arith, b.counts c x y, g.counts c x y, net_less n l c part x y)

  pub join : Good W (Among W (p ∷ ps)) n (js ++ ks)
  join = record { apart = join_apart; inside = λ k e. join_inside k (either k e); counts = join_counts }
