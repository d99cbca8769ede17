-- What the lister writes for any bytes, and what the lent room holds afterwards. Assumes nothing.
use Rattle.std.specs.Prelude.{ℕ, List, length, replicate, Result, Ok}
use Rattle.answers.specs.declared.Refusal.{Refusal}
use Rattle.answers.specs.Lent.{and_then, room_for, lent_after}
use Rattle.overfull.specs.Overfull.{no_sums}
use Rattle.frame.specs.declared.Job.{Job}
use Rattle.jobs.specs.Read.{read_job}
use Rattle.router.specs.Route.{map_for}
use Rattle.router.specs.Router.{routed}
use Rattle.listing.specs.Lines.{map_text, printed}

-- the job is routed into a room of 48 bytes, long enough for every map
unfoldable pub job_text : Job → List ℕ
job_text j =
    let told = routed j.size j.counts (replicate 48 0) in
    printed told.answer told.sums (λ done. map_text j.size (map_for j.size j.counts))

-- the text for a job record; a record that is refused has no sums
unfoldable pub text_of : List ℕ → List ℕ
text_of s = printed (read_job s) no_sums job_text

-- a room of so many bytes is long enough for every text: a first line of at most 17, and at most 384 lines of at most 10
abbrev pub most_text : ℕ
most_text = 3857

-- code 2 for a room that is shorter than that; else the text's length
unfoldable pub listed : List ℕ → List ℕ → Result ℕ Refusal
listed s room = and_then (room_for most_text room) (Ok (length (text_of s)))

unfoldable pub listed_room : List ℕ → List ℕ → List ℕ
listed_room s room = lent_after (room_for most_text room) (text_of s) room
