-- The check and the room refuse, or the head, the map's tag and the map are put one after the other. That the head fits, and that the map's
-- length is a word, is what a map that passed tells.
use Prim.Native.Nat.{ℕ, ◌+◌}
use mathlib.Core.Path.{◌≡◌, sym}
use mathlib.Core.List.{List, [], ◌∷◌, ◌++◌}
use native.Mathlib.Omega.{arith}
use lib.ListN.{length}
use lib.Seq.{sets}
use Rattle.answers.proofs.Lent.{all_put}
use Rattle.fields.specs.Format.{word_bytes}
use Rattle.puts.proofs.Puts.{onto}
use Rattle.frame.specs.declared.Job.{Job}
use Rattle.jobs.specs.Format.{head_bytes}
use Rattle.patterns.specs.Format.{pattern_record}
use Rattle.patterns.specs.Write.{pattern_answer, pattern_room}
use Rattle.patterns.proofs.write_pattern.Goals as goal

-- each put where the last ended, they are the record
pattern_put : (room : List ℕ) (j : Job) (map : List ℕ) {at : ℕ} {r₁ r₂ r₃ : List ℕ} → at ≡ length (head_bytes j) → r₁ ≡ sets room 0 (head_bytes j)
    → r₂ ≡ sets r₁ at (3 ∷ word_bytes (length map) []) → r₃ ≡ sets r₂ (at + 3) map → r₃ ≡ sets room 0 (pattern_record j map)
pattern_put room j map e₀ e₁ e₂ e₃ =
    let tag : List ℕ = 3 ∷ word_bytes (length map) [] in
    onto room 0 (head_bytes j ++ tag) map (onto room 0 (head_bytes j) tag e₁ (rw e₀ at e₂)) (rw e₀ at e₃)

pub returns-clause-room_after : goal.returns-clause-room_after
unfolding pattern_answer pattern_room
returns-clause-room_after c =
    let start = c.args in
    let put = pattern_put start.room.now start.job start.map.now c.head_length-at.ensures c.put_head.ensures c.put_tag.ensures c.put_bytes.ensures in
    (all_put _ (pattern_record start.job start.map.now) start.room.now (sym c.in_ok-check_map.ensures) (omega (arith, c.head_length-at.ensures)) put).1
