-- Closing the nets of a block one after the other, as laws over plain values. Assumes nothing.
use Prim.Native.Nat.{ℕ, suc, ◌+◌, ◌-◌, ◌/◌, ◌%◌, ◌^◌, ◌≤◌, ◌<◌}
use mathlib.Core.Path.{◌≡◌, sym, ap, ◌∙◌}
use mathlib.Core.List.{List, [], ◌∷◌, map}
use native.Mathlib.Omega.{arith}
use native.Mathlib.Numerals.{add-one}
use lib.ListN.{length, get_or, drop, replicate, length-drop, drop_of_length-le}
use lib.Seq.{drop-cons}
use Rattle.wiring.specs.Frame.{relay}
use Rattle.wiring.specs.Map.{with_closed, close_all}
use Rattle.wiring.proofs.Relays.{type_relay, place_relay}
use Rattle.loads.specs.Seat.{seats}
use Rattle.cells.specs.Serve.{low_high, spread}

-- a relay is closed if there is a net for it
pub closed_one : (k nets : ℕ) (room room' : List ℕ) → nets ≡ 1 → room' ≡ with_closed room k → room' ≡ close_all room (replicate nets k)
unfolding close_all
closed_one k nets room room' e h = rw e h

pub closed_none : (k nets : ℕ) (room : List ℕ) → nets ≤ 1 → (nets ≡ 1 → ⊥) → room ≡ close_all room (replicate nets k)
unfolding close_all
closed_none k nets room l z = let e : nets ≡ 0 = omega arith in rw e

-- a relay of the block, by type and seat, in the frame
spread_seat : (W p c high : ℕ) → 1 ≤ c → high < 2 → spread W p (relay 2 c (high + 1)) ≡ relay W c (low_high W p (high + 1))
unfolding spread
spread_seat W p c high a b = rw (type_relay 2 c (high + 1) a (omega arith) (omega arith), place_relay 2 c (high + 1) a (omega arith) (omega arith))

seats_at : (cs : List ℕ) (s j : ℕ) → j < length cs → seats (drop j cs) s ≡ relay 2 (get_or cs j 0) (s / 2 ^ (length cs - 1 - j) % 2 + 1) ∷ seats (drop (j + 1) cs) s
unfolding seats
seats_at cs s j h =
    let e : length cs - 1 - j ≡ length (drop (suc j) cs) = omega (arith, length-drop (suc j) cs) in
    rw (e, add-one j, drop-cons cs j 0 h)

-- the relay of net j of a block, and the relays that are still to be closed after j of its nets
abbrev pub relay_at : ℕ → ℕ → List ℕ → ℕ → ℕ → ℕ
relay_at W p cs s j = relay W (get_or cs j 0) (low_high W p (s / 2 ^ (length cs - 1 - j) % 2 + 1))

unfoldable pub to_close : ℕ → ℕ → List ℕ → ℕ → ℕ → List ℕ
to_close W p cs s j = map (spread W p) (seats (drop j cs) s)

module _ (W p s : ℕ) (cs : List ℕ) where
  next_relay : (j : ℕ) → j < length cs → 1 ≤ get_or cs j 0 → to_close W p cs s j ≡ relay_at W p cs s j ∷ to_close W p cs s (j + 1)
  unfolding to_close
  next_relay j l t =
      ap (map (spread W p)) (seats_at cs s j l)
      ∙ ap (λ (k : ℕ). k ∷ to_close W p cs s (j + 1)) (spread_seat W p (get_or cs j 0) (s / 2 ^ (length cs - 1 - j) % 2) t (omega arith))

  pub left_next : (j : ℕ) (room room' target : List ℕ) → j < length cs → 1 ≤ get_or cs j 0 → room' ≡ with_closed room (relay_at W p cs s j)
      → close_all room (to_close W p cs s j) ≡ target → close_all room' (to_close W p cs s (j + 1)) ≡ target
  unfolding close_all
  left_next j room room' target l t e g = rw e (sym (ap (close_all room) (next_relay j l t)) ∙ g)

  pub left_none : (j : ℕ) (room room₀ : List ℕ) → length cs ≤ j → close_all room (to_close W p cs s j) ≡ close_all room₀ (to_close W p cs s 0)
      → room ≡ close_all room₀ (map (spread W p) (seats cs s))
  unfolding close_all to_close seats
  left_none j room room₀ e g = let z : drop j cs ≡ [] = drop_of_length-le cs {i = j} e in rw z at g
