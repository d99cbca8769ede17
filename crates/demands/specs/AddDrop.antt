-- What is promised of nets that are added and dropped one by one (requests, item 4), over the definitions that the contracts cite. Proved
-- in proofs/AddDrop.antt. The three demands stay as they are, for whole jobs. Assumes nothing.
use Rattle.std.specs.Prelude.{ℕ, suc, ◌-◌, ◌≤◌, ◌<◌, ◌≡◌, ◌≢◌, true, false, List, [], ◌∷◌, length, set, Ok, Err}
use Rattle.counting.specs.Lists.{Bytes}
use Rattle.answers.specs.declared.Refusal.TheVariants.{Kind, NoneFree, NotClosed}
use Rattle.answers.specs.Answer.{Done, answer_of}
use Rattle.answers.specs.Table.{CodeIn}
use Rattle.answers.specs.Lent.{over}
use Rattle.wiring.specs.Wiring.{nets, Apart}
use Rattle.wiring.specs.Frame.{frame}
use Rattle.wiring.specs.Map.{closed_in, MapCarries}
use Rattle.wiring.specs.Change.{Free, AllTaken, LowestFree}
use Rattle.wiring.specs.Calls.{Call, adding, dropping, Stands}
use Rattle.frame.specs.declared.Counts.{Counts}
use Rattle.frame.specs.Leaves.{map_bytes}
use Rattle.frame.specs.Told.{RoomTold}
use Rattle.map_check.specs.Told.{MapTold}
use Rattle.router.specs.Route.{map_for}
use Rattle.router.specs.Router.{route_answer}
use Rattle.frame.specs.declared.Job.{Job}
use Rattle.changes.specs.Start.{open_answer, open_map, open_room, start_test}
use Rattle.changes.specs.Technician.{call_answer, call_map, calls_map, add_net}
use Rattle.demands.specs.Demands.{Pattern, TellsAs}

-- a map from which one may start
abbrev pub Start : ℕ → List ℕ → Type 0
Start W m = Bytes m × (start_test W m ≡ Done)

-- what is closed in a map, but for relay k
abbrev pub OthersStay : List ℕ → List ℕ → ℕ → Type 0
OthersStay m after k = (j : ℕ) → j ≢ k → closed_in after j ≡ closed_in m j

pub record AddDrop : Type 0 where
  -- one may start from an open frame, from what the router gives, and from the map of a pattern
  pub open_starts : (W : ℕ) (room : List ℕ) → open_answer W room ≡ Done → Start W (open_map W) × (open_room W room ≡ over (open_map W) room)
  pub routed_starts : (W : ℕ) (n : Counts) (room : List ℕ) → route_answer W n room ≡ Done → Start W (map_for W n)
  pub pattern_starts : (j : Job) (m : List ℕ) → Pattern j m → Start j.size m
  -- each call makes the start's tests first, and what adding gives has the call's answer, and tells its code and number
  pub start_refused : (W : ℕ) (m : List ℕ) (call : Call) → (start_test W m ≡ Done → ⊥) → call_answer W m call ≡ start_test W m
  pub added : (W : ℕ) (m : List ℕ) (c : ℕ) → answer_of (add_net W m c) ≡ call_answer W m (adding c)
  pub added_same : (W : ℕ) (m : List ℕ) (c : ℕ) → TellsAs (add_net W m c) (call_answer W m (adding c))
  -- the codes that each call can give, and the numbers of the first four; 18, 19 and 20 stand below
  pub open_codes : (W : ℕ) (room : List ℕ) → CodeIn (0 ∷ 1 ∷ 2 ∷ []) (open_answer W room)
  pub start_codes : (W : ℕ) (m : List ℕ) → CodeIn (0 ∷ 1 ∷ 2 ∷ 11 ∷ 12 ∷ []) (start_test W m)
  pub add_codes : (W : ℕ) (m : List ℕ) (c : ℕ) → CodeIn (0 ∷ 1 ∷ 2 ∷ 11 ∷ 12 ∷ 18 ∷ 19 ∷ []) (call_answer W m (adding c))
  pub drop_codes : (W : ℕ) (m : List ℕ) (k : ℕ) → CodeIn (0 ∷ 1 ∷ 2 ∷ 11 ∷ 12 ∷ 20 ∷ []) (call_answer W m (dropping k))
  pub open_told : (W : ℕ) (room : List ℕ) → RoomTold W (map_bytes W) room (open_answer W room)
  pub start_told : (W : ℕ) (n m : List ℕ) → MapTold W n m (start_test W m)
  -- refused calls change nothing
  pub opening_refused : (W : ℕ) (room : List ℕ) → (open_answer W room ≡ Done → ⊥) → open_room W room ≡ room
  pub call_refused : (W : ℕ) (m : List ℕ) (call : Call) → (call_answer W m call ≡ Done → ⊥) → call_map W m call ≡ m
  -- after any sequence of calls one may start again, no terminal is used twice, and the closed relays are those closed at the start or
  -- added, and not dropped since their last closing
  pub starts_again : (W : ℕ) (m : List ℕ) (calls : List Call) → Start W m → Start W (calls_map W m calls)
  pub apart : (W : ℕ) (m : List ℕ) (calls : List Call) → Start W m → Apart (frame W) (closed_in (calls_map W m calls))
  pub closed_stands : (W : ℕ) (m : List ℕ) (calls : List Call) (k : ℕ) → Start W m → k < (frame W).relays
      → closed_in (calls_map W m calls) k ≡ true → Stands (frame W) (closed_in m) calls k
  pub stands_closed : (W : ℕ) (m : List ℕ) (calls : List Call) (k : ℕ) → Start W m → k < (frame W).relays
      → Stands (frame W) (closed_in m) calls k → closed_in (calls_map W m calls) k ≡ true
  -- adding closes the lowest-numbered free relay of the type, and no other; it opens none
  pub lowest : (W : ℕ) (m : List ℕ) (c k : ℕ) → add_net W m c ≡ Ok k → LowestFree (frame W) (closed_in m) c k
  pub add_own : (W : ℕ) (m : List ℕ) (c k : ℕ) → Start W m → add_net W m c ≡ Ok k
      → let after = call_map W m (adding c) in (closed_in after k ≡ true) × OthersStay m after k
  pub add_opens_none : (W : ℕ) (m : List ℕ) (c j : ℕ) → Start W m → closed_in m j ≡ true → closed_in (call_map W m (adding c)) j ≡ true
  -- it is refused exactly if the type is not there, or has no relay with both terminals free
  pub type_refused : (W : ℕ) (m : List ℕ) (c : ℕ) → Start W m → (1 ≤ c → c ≤ 6 → ⊥) → call_answer W m (adding c) ≡ Err (Kind c)
  pub none_free : (W : ℕ) (m : List ℕ) (c : ℕ) → Start W m → 1 ≤ c → c ≤ 6 → AllTaken (frame W) (closed_in m) c
      → call_answer W m (adding c) ≡ Err (NoneFree c)
  pub free_none : (W : ℕ) (m : List ℕ) (c : ℕ) → Start W m → call_answer W m (adding c) ≡ Err (NoneFree c) → AllTaken (frame W) (closed_in m) c
  pub some_free : (W : ℕ) (m : List ℕ) (c : ℕ) → Start W m → 1 ≤ c → c ≤ 6 → (AllTaken (frame W) (closed_in m) c → ⊥)
      → call_answer W m (adding c) ≡ Done
  -- dropping opens its own relay, and no other; it is refused exactly if that relay is not there or not closed
  pub drop_own : (W : ℕ) (m : List ℕ) (k : ℕ) → Start W m → call_answer W m (dropping k) ≡ Done
      → let after = call_map W m (dropping k) in (closed_in after k ≡ false) × OthersStay m after k
  pub drop_done : (W : ℕ) (m : List ℕ) (k : ℕ) → Start W m → k < (frame W).relays → closed_in m k ≡ true
      → call_answer W m (dropping k) ≡ Done
  pub drop_refused : (W : ℕ) (m : List ℕ) (k : ℕ) → Start W m → (k < (frame W).relays → closed_in m k ≡ true → ⊥)
      → call_answer W m (dropping k) ≡ Err (NotClosed k)
  -- room that was freed serves again: both terminals of the dropped relay are free, and a net of its type is added
  pub freed : (W : ℕ) (m : List ℕ) (k : ℕ) → Start W m → call_answer W m (dropping k) ≡ Done
      → Free (frame W) (closed_in (call_map W m (dropping k))) k
  pub freed_serves : (W : ℕ) (m : List ℕ) (k : ℕ) → Start W m → call_answer W m (dropping k) ≡ Done
      → call_answer W (call_map W m (dropping k)) (adding ((frame W).type_of k)) ≡ Done
  -- where the map carried a job, it carries one net more or one net less
  pub add_carries : (W : ℕ) (m n : List ℕ) (c k : ℕ) → Start W m → length n ≡ 6 → MapCarries (frame W) n m → add_net W m c ≡ Ok k
      → MapCarries (frame W) (set n (c - 1) (suc (nets n c))) (call_map W m (adding c))
  pub drop_carries : (W : ℕ) (m n : List ℕ) (k : ℕ) → Start W m → length n ≡ 6 → MapCarries (frame W) n m
      → call_answer W m (dropping k) ≡ Done
      → let c = (frame W).type_of k in MapCarries (frame W) (set n (c - 1) (nets n c - 1)) (call_map W m (dropping k))
