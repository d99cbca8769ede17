-- The scope's starred bench examples, with code 3 as the requests' item 3 has it, as one list, and what it means that one of them holds.
-- Assumes nothing.
use Rattle.std.specs.Prelude.{ℕ, ◌≡◌, List, [], ◌∷◌, replicate}
use Rattle.answers.specs.Answer.{Answer}
use Rattle.answers.specs.Table.{code_of, number_of}
use Rattle.answers.specs.Lent.{over}
use Rattle.frame.specs.declared.Counts.{Counts}
use Rattle.frame.specs.Leaves.{counts, count_list}
use Rattle.overfull.specs.Overfull.{sum_list}
use Rattle.router.specs.Router.{route_room, routed}
use Rattle.map_check.specs.Check.{check_map}

-- what is asked, with what it is lent: the router a room, the map check a map
pub data Asked : Type 0 where
  router : List ℕ → Asked
  map_check : List ℕ → Asked

-- what the call answers
abbrev pub answer_of : Asked → ℕ → Counts → Answer
answer_of (router room) W n = (routed W n room).answer
answer_of (map_check m) W n = check_map W (count_list n) m

-- the sums that the router gives beside it, in the order L, T, R, B; the map check gives none
abbrev pub sums_of : Asked → ℕ → Counts → List ℕ
sums_of (router room) W n = sum_list (routed W n room).sums
sums_of (map_check m) W n = []

-- what the lent bytes are afterwards: the map check writes nothing
abbrev pub lent_of : Asked → ℕ → Counts → List ℕ
lent_of (router room) W n = route_room W n room
lent_of (map_check m) W n = m

-- one example: the call, the size and the six counts; the code, the number, the sums and the lent bytes that it must give
pub record Example : Type 0 where
  pub call : Asked
  pub size : ℕ
  pub job : Counts
  pub code : ℕ
  pub number : ℕ
  pub sums : List ℕ
  pub afterwards : List ℕ

-- the example's call gives just that
pub record Holds (e : Example) : Type 0 where
  pub code : code_of (answer_of e.call e.size e.job) ≡ e.code
  pub number : number_of (answer_of e.call e.size e.job) ≡ e.number
  pub sums : sums_of e.call e.size e.job ≡ e.sums
  pub afterwards : lent_of e.call e.size e.job ≡ e.afterwards

-- the room that the router is lent: 48 bytes, as many as the longest map has; they could be any, and are none that would stand in
-- one of the maps, so that what stays is seen
abbrev pub room : List ℕ
room = replicate 48 0xA5

-- the router is done: these bytes are the map, and the rest of the room is as it was
abbrev pub done : ℕ → Counts → List ℕ → Example
done W n bytes =
    record { call = router room; size = W; job = n; code = 0; number = 0; sums = replicate 4 0; afterwards = over bytes room }

-- the router refuses, with a code, a number and four sums: all of the room is as it was
abbrev pub refused : ℕ → Counts → ℕ → ℕ → List ℕ → Example
refused W n code number sums =
    record { call = router room; size = W; job = n; code = code; number = number; sums = sums; afterwards = room }

-- the map check refuses these bytes, with a code and a number
abbrev pub faulty : ℕ → Counts → List ℕ → ℕ → ℕ → Example
faulty W n bytes code number =
    record { call = map_check bytes; size = W; job = n; code = code; number = number; sums = []; afterwards = bytes }

-- the starred rows of the scope's table, then its two starred map checks
unfoldable pub starred : List Example
starred =
    done 1 (counts 1 1 0 0 0 0) (0x03 ∷ [])
    ∷ refused 1 (counts 1 0 1 0 0 0) 3 1 (2 ∷ 1 ∷ 1 ∷ 0 ∷ [])
    ∷ done 2 (counts 0 0 0 0 0 0) (0x00 ∷ 0x00 ∷ [])
    ∷ done 2 (counts 1 0 1 1 0 0) (0xA1 ∷ 0x00 ∷ [])
    ∷ done 2 (counts 1 1 1 0 1 0) (0x29 ∷ 0x01 ∷ [])
    ∷ done 2 (counts 0 0 1 1 1 1) (0x50 ∷ 0x09 ∷ [])
    ∷ refused 2 (counts 0 2 0 1 0 0) 3 2 (0 ∷ 3 ∷ 1 ∷ 2 ∷ [])
    ∷ done 3 (counts 2 1 1 1 0 0) (0x13 ∷ 0x09 ∷ 0x00 ∷ [])
    ∷ refused 64 (counts 65535 0 65535 0 0 65535) 3 15 (196605 ∷ 65535 ∷ 65535 ∷ 65535 ∷ [])
    ∷ refused 0 (counts 0 0 0 0 0 0) 1 0 (replicate 4 0)
    ∷ refused 65 (counts 0 0 0 0 0 0) 1 65 (replicate 4 0)
    ∷ faulty 2 (counts 1 0 1 0 0 0) (0x11 ∷ 0x00 ∷ []) 12 4
    ∷ faulty 2 (counts 0 1 0 0 0 0) (0x01 ∷ 0x00 ∷ []) 13 1
    ∷ []
