-- What code 3 tells of a job: its number, and the four sums beside it (requests, item 3). Assumes nothing.
use Rattle.std.specs.Prelude.{ℕ, ◌+◌, ◌≤◌, ◌<◌, ◌≡◌, true}
use Rattle.wiring.specs.Check.{has_side}
use Rattle.frame.specs.declared.Counts.{Counts}
use Rattle.overfull.specs.declared.Sums.{Sums}
use Rattle.overfull.specs.Overfull.{sum_at}

-- a side of the frame whose bit the number has
pub record SomeSide (number : ℕ) : Type 0 where
  pub side : ℕ
  pub from : 1 ≤ side
  pub upto : side ≤ 4
  pub has : has_side number side ≡ true

pub record SidesTold (W : ℕ) (n : Counts) (number : ℕ) (sums : Sums) : Type 0 where
  -- the sums are the scope's side sums
  pub on_l : sums.left ≡ n.n1 + n.n3 + n.n6
  pub on_t : sums.top ≡ n.n2 + n.n3 + n.n4
  pub on_r : sums.right ≡ n.n1 + n.n4 + n.n5
  pub on_b : sums.bottom ≡ n.n2 + n.n5 + n.n6
  -- the number has the bit of side s exactly if its sum is above W; it has some bit, and none but of the four sides
  pub has_above : (s : ℕ) → 1 ≤ s → s ≤ 4 → has_side number s ≡ true → W < sum_at sums s
  pub above_has : (s : ℕ) → 1 ≤ s → s ≤ 4 → W < sum_at sums s → has_side number s ≡ true
  pub some : SomeSide number
  pub four : number < 16
