-- The loop over the cells as laws over plain values; an equation says what is still to do. Assumes nothing.
use Prim.Native.Nat.{ℕ, zero, suc, ◌+◌, ◌-◌, ◌/◌, ◌≤◌, ◌<◌}
use mathlib.Core.Path.{◌≡◌, refl, sym, ap, ◌∙◌}
use mathlib.Core.Logic.{◌≢◌}
use mathlib.Core.Bool.{true, false}
use mathlib.Core.List.{List, [], ◌∷◌, ◌++◌, map, map-append}
use native.Mathlib.Omega.{arith}
use native.Mathlib.Numerals.{add-one}
use native.Mathlib.Decide.{ℕ_discrete, dec_le}
use lib.ListN.{replicate}
use Rattle.wiring.specs.Frame.{relay}
use Rattle.wiring.specs.Map.{close_all}
use Rattle.wiring.proofs.Closing.{close_all-append}
use Rattle.frame.specs.declared.Counts.{Counts}
use Rattle.loads.specs.Table.{row}
use Rattle.loads.specs.Load.{at_most, less, fits, pick, load}
use Rattle.loads.specs.Seat.{net_list, seats, seating}
use Rattle.loads.specs.declared.Seated.{Seated}
use Rattle.loads.specs.Seated.{net_types}
use Rattle.loads.proofs.Counts.{SumsWithin, part_test}
use Rattle.loads.proofs.Choice.{Loaded, loaded, later_none}
use Rattle.cells.specs.Cells.{capacity, run, cells, without}
use Rattle.cells.specs.Serve.{spread, centre, serve}
use Rattle.cells.proofs.Serve.{size-centre, size_block, serve-centre, serve_block, holds_all}
use Rattle.cells.proofs.Listed.{without-same, without_other, without_absent, without_holds, no_zero}
use Rattle.router.specs.Route.{relays_for}

-- the cells from p on, but for one
unfoldable pub from : ℕ → ℕ → ℕ → List ℕ
from W skip p = without skip (run p (suc ((W + 1) / 2) - p))

from_start : (W skip : ℕ) → from W skip 1 ≡ without skip (cells W)
unfolding from cells
from_start W skip = let z : suc ((W + 1) / 2) - 1 ≡ (W + 1) / 2 = omega arith in rw z

from_end : (W skip p : ℕ) → (W + 1) / 2 < p → from W skip p ≡ []
unfolding from run without
from_end W skip p h = let z : suc ((W + 1) / 2) - p ≡ 0 = omega arith in rw z

from-run : (W p : ℕ) → p ≤ (W + 1) / 2 → run p (suc ((W + 1) / 2) - p) ≡ p ∷ run (p + 1) (suc ((W + 1) / 2) - (p + 1))
unfolding run
from-run W p h = let z : suc ((W + 1) / 2) - p ≡ suc (suc ((W + 1) / 2) - (p + 1)) = omega arith in rw (z, add-one p)

from_skip : (W skip p : ℕ) → p ≤ (W + 1) / 2 → p ≡ skip → from W skip p ≡ from W skip (p + 1)
unfolding from
from_skip W skip p h e = rw (from-run W p h) (without-same skip p _ e)

from_next : (W skip p : ℕ) → p ≤ (W + 1) / 2 → p ≢ skip → from W skip p ≡ p ∷ from W skip (p + 1)
unfolding from
from_next W skip p h e = rw (from-run W p h) (without_other skip p _ e)

-- where something is left, there is a cell; where two are left and it is not the one left out, it is a block
there : (W skip p : ℕ) → 1 ≤ capacity W (from W skip p) → p ≤ (W + 1) / 2
unfolding capacity
there W skip p h = go (dec_le p ((W + 1) / 2))
  where
    go : Dec (p ≤ (W + 1) / 2) → p ≤ (W + 1) / 2
    go (yes z) = z
    go (no z) = absurd (omega (arith, ap (capacity W) (from_end W skip p (omega arith))))

no_centre : (W skip p : ℕ) → 2 ≤ capacity W (from W skip p) → p ≢ skip → p + p ≢ W + 1
unfolding capacity
no_centre W skip p h e odd =
    let l = there W skip p (omega arith) in
    let z = ap (capacity W) (from_next W skip p l e ∙ ap (λ (ps : List ℕ). p ∷ ps) (from_end W skip (p + 1) (omega arith))) in
    omega (arith, size-centre W p odd)

-- one block, and what is then still to do
record Block (W skip p : ℕ) : Type 0 where
  below : p + p ≤ W
  left : capacity W (from W skip p) ≡ capacity W (from W skip (p + 1)) + 2
  serves : (n : Counts) → let l = load n (capacity W (from W skip (p + 1))) in serve W (from W skip p) n ≡ map (spread W p) (seating l) ++ serve W (from W skip (p + 1)) (less n l)

block : (W skip p : ℕ) → 2 ≤ capacity W (from W skip p) → p ≢ skip → Block W skip p
unfolding capacity
block W skip p h e =
    let l = there W skip p (omega arith) in
    let b = no_centre W skip p h e in
    let z = from_next W skip p l e in
    record {
      below = omega arith;
      left = ap (capacity W) z ∙ omega (arith, size_block W p b);
      serves = λ n. ap (λ (ps : List ℕ). serve W ps n) z ∙ serve_block W p (capacity W (from W skip (p + 1))) (from W skip (p + 1)) n b refl;
    }

-- the loop's end: the centre is left, or nothing
abbrev Last : ℕ → Counts → List ℕ → Type 0
Last W n ps = (capacity W ps ≡ 0 → serve W ps n ≡ []) × (capacity W ps ≡ 1 → serve W ps n ≡ centre W (W / 2 + 1) n)

last_run : (W skip m p : ℕ) (n : Counts) → p + m ≡ suc ((W + 1) / 2) → 1 ≤ p → Last W n (without skip (run p m))
unfolding run without capacity serve
last_run W skip zero p n e l = (λ h. refl, λ h. absurd (omega arith))
last_run W skip (suc m) p n e l = go (ℕ_discrete p skip) (ℕ_discrete (p + p) (W + 1)) (last_run W skip m (suc p) n (omega arith) (omega arith))
  where
    go : Dec (p ≡ skip) → Dec (p + p ≡ W + 1) → Last W n (without skip (run (suc p) m)) → Last W n (without skip (p ∷ run (suc p) m))
    go (yes z) c r = rw (without-same skip p (run (suc p) m) z) r
    go (no z) (yes c) r =
        let one = size-centre W p c in
        let m0 : m ≡ 0 = omega arith in
        let mid : W / 2 + 1 ≡ p = omega arith in
        rw (without_other skip p (run (suc p) m) z, m0) (λ h. absurd (omega arith), λ h. rw mid (serve-centre W p n c))
    go (no z) (no c) r = let two = size_block W p c in rw (without_other skip p (run (suc p) m) z) (λ h. absurd (omega arith), λ h. absurd (omega arith))

map-replicate : (f : ℕ → ℕ) (m c : ℕ) → map f (replicate m c) ≡ replicate m (f c)
map-replicate f zero c = refl
map-replicate f (suc m) c = ap (λ (ks : List ℕ). f c ∷ ks) (map-replicate f m c)

-- the centre, one type after the other
pub centre_chain : (W p : ℕ) (n : Counts) (r0 r1 r2 r3 r4 r5 r6 : List ℕ)
    → r1 ≡ close_all r0 (replicate n.n1 (relay W 1 p)) → r2 ≡ close_all r1 (replicate n.n2 (relay W 2 p)) → r3 ≡ close_all r2 (replicate n.n3 (relay W 3 p))
    → r4 ≡ close_all r3 (replicate n.n4 (relay W 4 p)) → r5 ≡ close_all r4 (replicate n.n5 (relay W 5 p)) → r6 ≡ close_all r5 (replicate n.n6 (relay W 6 p))
    → r6 ≡ close_all r0 (centre W p n)
unfolding centre net_list
centre_chain W p n r0 r1 r2 r3 r4 r5 r6 a b c d e f = simp (map-append, map-replicate, close_all-append) (cc)

-- what is known whenever the loop over the cells is tested: the cells from p on, but for one, hold r; no row before that of x fits them,
-- and the target is what the room becomes when the rest is closed
pub record Turn (W skip r p : ℕ) (n : Counts) (x : Seated) (room target : List ℕ) : Type 0 where
  pub low : 1 ≤ p
  pub upto : p ≤ suc ((W + 1) / 2)
  pub held : r ≡ capacity W (from W skip p)
  pub most : r ≤ W
  pub within : SumsWithin r n
  pub row : x.q < 56
  pub none : 2 ≤ r → (j : ℕ) → j < x.q → fits n (r - 2) j ≡ false
  pub todo : close_all room (serve W (from W skip p) n) ≡ target

pub turn_start : (W skip held : ℕ) (n : Counts) (x : Seated) (room : List ℕ) → held ≡ capacity W (without skip (cells W)) → SumsWithin held n → x.q ≡ 0
    → Turn W skip held 1 n x room (close_all room (serve W (without skip (cells W)) n))
turn_start W skip held n x room e h s = record {
  low = omega arith;
  upto = omega arith;
  held = e ∙ ap (capacity W) (sym (from_start W skip));
  most = omega (arith, without_holds W skip (cells W), holds_all W);
  within = h;
  row = rw s (omega arith);
  none = λ l j b. absurd (omega arith);
  todo = ap (λ (ps : List ℕ). close_all room (serve W ps n)) (from_start W skip);
}

module _ {W skip r p : ℕ} {n : Counts} {x : Seated} {room target : List ℕ} (t : Turn W skip r p n x room target) where
  -- a block that is not left out has two positions a side, and past the blocks one is left at most
  pub two_left : p + p ≤ W → p ≢ skip → 2 ≤ r
  unfolding capacity
  two_left h e = omega (arith, t.held, ap (capacity W) (from_next W skip p (omega arith) e), size_block W p (omega arith))

  pub one_at_most : W < p + p → r ≤ 1
  unfolding capacity
  one_at_most h = go (dec_le p ((W + 1) / 2)) (ℕ_discrete p skip)
    where
      past : p ≤ (W + 1) / 2 → from W skip (p + 1) ≡ []
      past l = from_end W skip (p + 1) (omega arith)

      go : Dec (p ≤ (W + 1) / 2) → Dec (p ≡ skip) → r ≤ 1
      go (no z) s = omega (arith, t.held, ap (capacity W) (from_end W skip p (omega arith)))
      go (yes l) (yes e) = omega (arith, t.held, ap (capacity W) (from_skip W skip p l e ∙ past l))
      go (yes l) (no e) =
          let z = ap (capacity W) (from_next W skip p l e ∙ ap (λ (ps : List ℕ). p ∷ ps) (past l)) in
          omega (arith, t.held, z, size-centre W p (omega arith))

  -- the cell that is left out
  pub turn_skip : p + p ≤ W → p ≡ skip → Turn W skip r (p + 1) n x room target
  turn_skip h e =
      let l : p ≤ (W + 1) / 2 = omega arith in
      let z = from_skip W skip p l e in
      record {
        low = omega arith;
        upto = omega arith;
        held = t.held ∙ ap (capacity W) z;
        most = t.most;
        within = t.within;
        row = t.row;
        none = t.none;
        todo = ap (λ (ps : List ℕ). close_all room (serve W ps n)) (sym z) ∙ t.todo;
      }

  -- a block
  module _ (inside : p + p ≤ W) (other : p ≢ skip) where
    two : 2 ≤ r
    two = two_left inside other

    turn_block : Block W skip p
    turn_block = block W skip p (omega (arith, t.held, two)) other

    left : r - 2 ≡ capacity W (from W skip (p + 1))
    left = omega (arith, t.held, turn_block.left)

    module _ {next : ℕ} (chosen : next ≡ pick n (r - 2)) where
      turn_loaded : Loaded (r - 2) n
      turn_loaded = loaded (r - 2) n (omega (arith, t.within))

      pub turn_below : next < 56
      turn_below = rw chosen turn_loaded.below

      pub turn_most : {l : Counts} → l ≡ row next → at_most l n ≡ true
      unfolding load
      turn_most {l} e = part_test l n (rw (e, chosen) turn_loaded.part)

      pub turn_next : {x' : Seated} {l n' : Counts} {room' : List ℕ} → x'.q ≡ next → l ≡ row next → n' ≡ less n l
          → room' ≡ close_all room (map (spread W p) (seats (net_types x') x'.seating)) → Turn W skip (r - 2) (p + 1) n' x' room' target
      unfolding seating load
      turn_next {x'} {l} {n'} {room'} s e f g = record {
        low = omega arith;
        upto = omega (arith, turn_block);
        held = left;
        most = omega (arith, t.most);
        within = rw (f, e, chosen) turn_loaded.leaves;
        row = rw s turn_below;
        none = λ h j b. rw (f, e) (none_later h j (omega arith));
        todo = rw (f, e) (todo (rw (x'.are, x'.first, s) at g));
      }
        where
          none_later : 2 ≤ r - 2 → (j : ℕ) → j < next → fits (less n (row next)) (r - 2 - 2) j ≡ false
          none_later h j b =
              let z : r - 2 ≡ r - 2 - 2 + 2 = omega arith in
              later_none n (r - 2 - 2) next (omega (arith, t.within)) (chosen ∙ ap (pick n) z) j b

          todo : room' ≡ close_all room (map (spread W p) (seating (row next))) → close_all room' (serve W (from W skip (p + 1)) (less n (row next))) ≡ target
          todo h =
              let l = load n (capacity W (from W skip (p + 1))) in
              let is : row next ≡ l = ap row (chosen ∙ ap (pick n) left) in
              rw (h, is) (sym (close_all-append room (map (spread W p) (seating l)) (serve W (from W skip (p + 1)) (less n l))) ∙ ap (close_all room) (sym (turn_block.serves n)) ∙ t.todo)

-- the last turn: with one position a side left the counts fit the centre, and with none there is nothing to do
module _ {W skip r p : ℕ} {n : Counts} {x : Seated} {room target : List ℕ} (t : Turn W skip r p n x room target) where
  last : Last W n (from W skip p)
  unfolding from
  last = last_run W skip (suc ((W + 1) / 2) - p) p n (omega (arith, t.upto)) t.low

  pub one_left : r ≡ 1 → SumsWithin 1 n × (W / 2 + 1 ≤ W)
  one_left e = (omega (arith, t.within), omega (arith, there W skip p (omega (arith, t.held)), t.low))

  pub end_centre : r ≡ 1 → {room' : List ℕ} → room' ≡ close_all room (centre W (W / 2 + 1) n) → room' ≡ target
  end_centre h e = e ∙ (rw (last.1 (sym t.held ∙ h)) at t.todo)

  pub end_none : r ≡ 0 → room ≡ target
  unfolding close_all
  end_none h = rw (last.0 (sym t.held ∙ h)) at t.todo

-- no cell has low position 0: with none left out the relays are those of the whole rule
pub all_hold : (W : ℕ) → W ≡ capacity W (without 0 (cells W))
all_hold W = sym (holds_all W) ∙ ap (capacity W) (sym (without_absent 0 (cells W) (no_zero W)))

pub all_relays : (W : ℕ) (n : Counts) → serve W (without 0 (cells W)) n ≡ relays_for W n
unfolding relays_for
all_relays W n = ap (λ (ps : List ℕ). serve W ps n) (without_absent 0 (cells W) (no_zero W))
