-- A relay that is there: what sorting its number and looking up its terminals give. Assumes nothing.
use Prim.Native.Nat.{ℕ, ◌*◌, ◌≤◌, ◌<◌}
use mathlib.Core.Path.{◌≡◌, refl, sym}
use mathlib.Core.Bool.{Bool, true, false, cond}
use native.Mathlib.Omega.{arith}
use native.Mathlib.Decide.{dec_lt}
use lib.Dec.{ltb}
use borrow.Author.Tests.{lt-ltb}
use Rattle.wiring.specs.Wiring.{Wiring, from_side, to_side}
use Rattle.wiring.specs.Frame.{type_in, place_in, frame}
use Rattle.frame.specs.declared.Terminal.{Terminal}
use Rattle.counting.proofs.Pairs.{pair_parts}
use Rattle.std.specs.Prelude.{Option, Some, None}
use Rattle.frame.specs.Leaves.{sorted, terminals_of}

-- the terminals that were found are those of the relay
pub record EndsOf (w : Wiring) (k : ℕ) (a b : Terminal) : Type 0 where
  pub from : a ≡ record { side = from_side w k; position = w.first k }
  pub to : b ≡ record { side = to_side w k; position = w.second k }

pub ends_are : (W k : ℕ) (a b : Terminal) → terminals_of W k ≡ Some (a, b) → EndsOf (frame W) k a b
unfolding terminals_of
ends_are W k a b e = go (ltb k (6 * W)) refl e
  where
    go : (t : Bool) → ltb k (6 * W) ≡ t → cond {A = Option (Terminal × Terminal)} t (Some (record { side = from_side (frame W) k; position = (frame W).first k }, record { side = to_side (frame W) k; position = (frame W).second k })) None ≡ Some (a, b) → EndsOf (frame W) k a b
    go true l e = let p = pair_parts cc in record { from = sym p.0; to = sym p.1 }
    go false l e = cc

module _ (W k : ℕ) (h : k < 6 * W) where
  pub sorted-there : sorted W k ≡ Some (type_in W k, place_in W k)
  unfolding sorted
  sorted-there = rw (lt-ltb k (6 * W) h)

  pub some-relay : sorted W k ≡ None → ⊥
  some-relay e = cc sorted-there

  pub ends_always : terminals_of W k ≡ None → ⊥
  unfolding terminals_of
  ends_always e = cc (lt-ltb k (6 * W) h)

pub none_past : (W k : ℕ) → sorted W k ≡ None → 6 * W ≤ k
none_past W k e = go (dec_lt k (6 * W))
  where
    go : Dec (k < 6 * W) → 6 * W ≤ k
    go (yes h) = absurd (some-relay W k h e)
    go (no h) = omega arith
