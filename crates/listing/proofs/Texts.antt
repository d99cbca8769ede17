-- Laws of the text by what was routed, and of the room that it is made in. Assumes nothing.
use Prim.Native.Nat.{ℕ, ◌≤◌, ◌<◌}
use mathlib.Core.Path.{◌≡◌, refl, ap, ◌∙◌}
use mathlib.Core.Bool.{Bool, true, false, cond}
use mathlib.Core.List.{List, [], ◌∷◌}
use native.Mathlib.Omega.{arith}
use lib.Dec.{ltb}
use lib.ListN.{length, take, replicate, length-append}
use lib.Seq.{sets}
use borrow.Author.Tests.{ltb-true, ltb-false}
use Rattle.std.specs.Prelude.{Result, Ok, Err}
use Rattle.std.specs.Result.{result_unwrap_or}
use Rattle.answers.specs.declared.Refusal.{Refusal}
use Rattle.answers.specs.declared.Refusal.TheVariants.{Room}
use Rattle.answers.specs.Answer.{Done, answer_of}
use Rattle.answers.specs.Table.{code_of, number_of, CodeIn}
use Rattle.answers.specs.Lent.{and_then}
use Rattle.answers.proofs.Done.{is_done_lem}
use Rattle.answers.proofs.Lent.{room_short, room-long, put_over}
use Rattle.counting.specs.Lists.{among}
use Rattle.frame.specs.Leaves.{map_bytes}
use Rattle.frame.specs.declared.Job.{Job}
use Rattle.router.specs.Route.{map_for}
use Rattle.router.specs.declared.Routed.{Routed}
use Rattle.router.specs.Router.{route_room, routed}
use Rattle.router.proofs.Maps.{map_length_lem}
use Rattle.router.proofs.Answering.{route_done}
use Rattle.text.specs.declared.Text.{Text}
use Rattle.text.specs.Wrote.{Wrote}
use Rattle.listing.specs.Lines.{map_text}
use Rattle.listing.specs.Listing.{job_text, text_of, most_text, listed, listed_room}
use Rattle.listing.proofs.Length.{text_length}

-- the first n bytes of the room that was lent are the job's map
pub record Mapped (j : Job) (n : ℕ) (lent : List ℕ) : Type 0 where
  pub within : n ≤ length lent
  pub long : n ≡ length (take n lent)
  pub text : job_text j ≡ map_text j.size (take n lent)

job_done : (j : Job) (told : Routed) → told ≡ routed j.size j.counts (replicate 48 0) → told.answer ≡ Done → job_text j ≡ map_text j.size (map_for j.size j.counts)
unfolding job_text
job_done j told p z = rw (← p, z)

pub job_mapped : (j : Job) (told : Routed) (n : ℕ) (lent : List ℕ) → told ≡ routed j.size j.counts (replicate 48 0) → told.answer ≡ Done → n ≡ map_bytes j.size
    → lent ≡ route_room j.size j.counts (replicate 48 0) → Mapped j n lent
unfolding routed
job_mapped j told n lent p z e l =
    let d = ap (λ (r : Routed). r.answer) p in
    let r = route_done j.size j.counts (replicate 48 0) (is_done_lem _ cc) in
    let front : take n lent ≡ map_for j.size j.counts = rw (l, e) r.front in
    let long = map_length_lem j.size j.counts in
    record { within = rw l (omega (arith, ap length r.after, length-append {A = ℕ})); long = omega (arith, ap length front, long); text = rw front (job_done j told p z) }

module _ (s room : List ℕ) where
  pub list_written : {t u : Text} → Wrote t (text_of s) u → t.at ≡ 0 → t.room.now ≡ room → most_text ≤ length room → u.room.now ≡ listed_room s room
  unfolding listed_room
  list_written {t} {u} w z e h =
      let put : u.room.now ≡ sets room 0 (text_of s) = rw (z, e) at w.room in
      rw (room-long most_text room h) (put ∙ put_over room (text_of s) (omega (arith, text_length s)))

  pub list_done : most_text ≤ length room → listed s room ≡ Ok (length (text_of s))
  unfolding listed
  list_done h = rw (room-long most_text room h)

  -- what holds of a text that is made, and of a room that is too short, holds of the answer
  listed_holds : (P : Result ℕ Refusal → Type 0) → (most_text ≤ length room → P (Ok (length (text_of s)))) → (length room < most_text → P (Err (Room most_text))) → P (listed s room)
  unfolding listed
  listed_holds P long short = go (ltb (length room) most_text) refl
    where
      go : (b : Bool) → ltb (length room) most_text ≡ b → P (and_then (cond b (Err (Room most_text)) Done) (Ok (length (text_of s))))
      go true l = short (ltb-true _ _ l)
      go false l = long (ltb-false _ _ l)

  -- the codes that it can give
  pub list_codes : CodeIn (0 ∷ 2 ∷ []) (listed s room)
  unfolding among
  list_codes = listed_holds (λ (r : Result ℕ Refusal). CodeIn (0 ∷ 2 ∷ []) r) (λ h. refl) (λ h. refl)

  -- the number of code 2 is the length needed
  pub list_told : code_of (listed s room) ≡ 2 → (number_of (listed s room) ≡ most_text) × (length room < most_text)
  list_told = listed_holds (λ (r : Result ℕ Refusal). code_of r ≡ 2 → (number_of r ≡ most_text) × (length room < most_text)) (λ h x. absurd (omega arith)) (λ h x. (refl, h))

  -- a refusal leaves the room as it came, and gives no text
  pub list_refused : (answer_of (listed s room) ≡ Done → ⊥) → (listed_room s room ≡ room) × (result_unwrap_or (listed s room) 0 ≡ 0)
  unfolding listed_room
  list_refused =
      listed_holds (λ (r : Result ℕ Refusal). (answer_of r ≡ Done → ⊥) → (listed_room s room ≡ room) × (result_unwrap_or r 0 ≡ 0))
      (λ h f. absurd (f refl)) (λ h f. (rw (room_short most_text room h), refl))

  -- the length that comes back lies within the room
  pub list_within : {n : ℕ} → listed s room ≡ Ok n → n ≤ length room
  list_within {n} = listed_holds (λ (r : Result ℕ Refusal). r ≡ Ok n → n ≤ length room) (λ h e. let l : length (text_of s) ≡ n = cc in omega (arith, text_length s)) (λ h e. cc)
