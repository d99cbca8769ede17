-- Laws of the lines: a net's line by what was found of its relay, and one relay more. Assumes nothing.
use Prim.Native.Nat.{ℕ, zero, suc, ◌+◌, ◌*◌, ◌-◌, ◌≤◌, ◌<◌}
use mathlib.Core.Path.{◌≡◌, refl}
use mathlib.Core.Bool.{true, false}
use mathlib.Core.List.{List, [], ◌∷◌, ◌++◌, append-nil}
use native.Mathlib.Omega.{arith}
use native.Mathlib.Numerals.{add-one}
use native.Mathlib.Nat.{zero-add, sub-zero}
use lib.ListN.{length, length-append}
use Rattle.std.specs.Prelude.{Some, decimal}
use Rattle.counting.specs.Count.{count}
use Rattle.wiring.specs.Wiring.{from_side, to_side}
use Rattle.wiring.specs.Frame.{type_in, frame}
use Rattle.wiring.specs.Map.{closed_in}
use Rattle.wiring.proofs.Frame.{is_there}
use Rattle.frame.specs.declared.Terminal.{Terminal}
use Rattle.frame.specs.Leaves.{sorted, terminals_of}
use Rattle.frame.proofs.Ends.{ends_are, sorted-there}
use Rattle.text.specs.declared.Text.{Text}
use Rattle.text.specs.Wrote.{Wrote}
use Rattle.text.proofs.Stores.{wrote_append}
use Rattle.listing.specs.Lines.{space, lf, terminal_text, net_line, net_lines, size_line, map_text}

-- relay k is of type c and joins a and b: its line by these
pub record IsNet (W k c : ℕ) (a b : Terminal) : Type 0 where
  pub line : net_line W k ≡ decimal c ++ (space ∷ terminal_text a.side a.position ++ (space ∷ terminal_text b.side b.position ++ (lf ∷ [])))
  pub from : (1 ≤ a.side) × (a.side ≤ 4)
  pub to : (1 ≤ b.side) × (b.side ≤ 4)

module _ (W k : ℕ) (h : k < 6 * W) where
  net_there : IsNet W k (type_in W k) (record { side = from_side (frame W) k; position = (frame W).first k }) (record { side = to_side (frame W) k; position = (frame W).second k })
  unfolding net_line
  net_there = let s = (is_there W k h).sides in record { line = refl; from = (s.from1, s.from2); to = (s.to1, s.to2) }

  pub is_net : {found : ℕ × ℕ} {ends : Terminal × Terminal} → sorted W k ≡ Some found → terminals_of W k ≡ Some ends → IsNet W k found.0 ends.0 ends.1
  is_net {found} {ends} e f =
      let ec : type_in W k ≡ found.0 = cc (sorted-there W k h) in
      let its = ends_are W k ends.0 ends.1 f in
      rw (← ec, its.from, its.to) net_there

-- what is printed of a map, by the number of its nets as they were counted
pub map_counted : (W nets : ℕ) (m : List ℕ) → nets ≡ count ((frame W).relays - 0) (λ k. closed_in m (0 + k)) → map_text W m ≡ size_line W nets ++ net_lines W m (frame W).relays
unfolding map_text
map_counted W nets m e =
    let all : count (6 * W - 0) (λ k. closed_in m (0 + k)) ≡ count (6 * W) (closed_in m) = simp (sub-zero, zero-add) in
    rw (e, all)

-- one relay more: it is closed and has a line, or it is open
module _ (W k : ℕ) (m : List ℕ) {t u : Text} where
  pub nets_closed : {v : Text} → closed_in m k ≡ true → Wrote t (net_lines W m k) u → Wrote u (net_line W k) v → Wrote t (net_lines W m (k + 1)) v
  unfolding net_lines
  nets_closed e w v = rw (add-one k, e) (wrote_append w v)

  pub nets_open : closed_in m k ≡ false → Wrote t (net_lines W m k) u → Wrote t (net_lines W m (k + 1)) u
  unfolding net_lines
  nets_open e w = rw (add-one k, e, append-nil (net_lines W m k)) w

-- a closed relay's line is among all
nets_mono : (W k n : ℕ) (m : List ℕ) → length (net_lines W m k) ≤ length (net_lines W m (k + n))
unfolding net_lines
nets_mono W k zero m = let e : k + 0 ≡ k = omega arith in rw e (omega arith)
nets_mono W k (suc n) m = let e : k + suc n ≡ suc (k + n) = omega arith in rw (e, length-append) (omega (arith, nets_mono W k n m))

pub nets-room : (W k n : ℕ) (m : List ℕ) → k < n → closed_in m k ≡ true → length (net_lines W m k) + length (net_line W k) ≤ length (net_lines W m n)
unfolding net_lines
nets-room W k n m h t =
    let e : suc k + (n - suc k) ≡ n = omega arith in
    let s : length (net_lines W m (suc k)) ≡ length (net_lines W m k) + length (net_line W k) = rw (t, length-append) in
    omega (arith, rw e at (nets_mono W (suc k) (n - suc k) m))
