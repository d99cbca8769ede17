-- A call that refuses, and the map of a read as bytes of the record. Assumes nothing.
use Prim.Native.Nat.{ℕ, ◌+◌, ◌<◌}
use mathlib.Core.Path.{◌≡◌, refl}
use mathlib.Core.Bool.{Bool, true, false, cond}
use mathlib.Core.List.{List, []}
use native.Mathlib.Omega.{arith}
use lib.Dec.{leb}
use native.Mathlib.Decide.{dec_lt}
use lib.ListN.{length, get_or, take, drop, length-take, get_or-eq_default}
use lib.Seq.{get_or-take, get_or-drop}
use Rattle.counting.specs.Lists.{Bytes}
use Rattle.std.specs.Prelude.{Result, Ok, Err}
use Rattle.answers.specs.declared.Refusal.{Refusal}
use Rattle.answers.specs.Answer.{Done, answer_of}
use Rattle.answers.proofs.Done.{same_told}
use Rattle.patterns.specs.declared.Pattern.{Pattern}
use Rattle.demands.specs.Demands.{TellsAs}
use Rattle.patterns.specs.Read.{part}
use Rattle.patterns.specs.Part.{map_part}

-- what a call gives tells nothing of its own
pub tells_same : {A : Type 0} (a : Result A Refusal) → TellsAs a (answer_of a)
tells_same = same_told

-- a call that is not done refuses
pub refuses : {A : Type 0} (a : Result A Refusal) → (answer_of a ≡ Done → ⊥) → (r : Refusal) × (a ≡ Err r)
refuses (Ok x) f = absurd (f refl)
refuses (Err r) f = (r, refl)

module _ (s : List ℕ) (r : Pattern) where
  pub no_map : r.len ≡ 0 → map_part s r ≡ []
  unfolding map_part
  no_map e = rw e (both (leb (r.start + 0) (length s)))
    where
      both : (t : Bool) → cond t (take 0 (drop r.start s)) [] ≡ []
      both true = refl
      both false = refl

  pub part_bytes : Bytes s → Bytes (map_part s r)
  unfolding map_part
  part_bytes b i = go (leb (r.start + r.len) (length s))
    where
      taken : Dec (i < length (part s r.start r.len)) → get_or (part s r.start r.len) i 0 < 256
      taken (yes h) = rw (get_or-take r.len (drop r.start s) i 0 (omega (arith, length-take r.len (drop r.start s))), get_or-drop r.start s i 0) (b (r.start + i))
      taken (no h) = rw (get_or-eq_default (part s r.start r.len) 0 {n = i} (omega arith)) (omega arith)

      go : (t : Bool) → get_or (cond t (part s r.start r.len) []) i 0 < 256
      go true = taken (dec_lt i (length (part s r.start r.len)))
      go false = omega arith
