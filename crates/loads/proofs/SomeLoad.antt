-- A block can always be served: with k + 2 positions left and every side sum at most k + 2, some load leaves at most k on each
-- side. An opposite pair of types (1 and 2, 3 and 5, 4 and 6) that both have a net is set aside, and every side sum falls by one;
-- else a star at one side or a triangle is left. Assumes nothing.
use Prim.Native.Nat.{ℕ, zero, suc, ◌+◌, ◌-◌, ◌≤◌, min}
use mathlib.Core.Path.{◌≡◌, refl}
use mathlib.Core.Logic.{◌⊎◌, inl, inr}
use native.Mathlib.Omega.{arith}
use Rattle.frame.specs.declared.Counts.{Counts}
use Rattle.frame.specs.Leaves.{counts}
use Rattle.loads.specs.Load.{sum_l, sum_t, sum_r, sum_b}
use Rattle.loads.proofs.Counts.{SumsWithin, Part, LeavesAtMost}

-- l is a load of n that leaves at most k on each side
pub record IsLoad (k : ℕ) (n l : Counts) : Type 0 where
  pub part : Part l n
  pub small : SumsWithin 2 l
  pub leaves : LeavesAtMost k n l

abbrev pub SomeLoad : ℕ → Counts → Type 0
SomeLoad k n = (l : Counts) × IsLoad k n l

-- at most two of three counts, so that at most k are left
record Two (k a b c x y z : ℕ) : Type 0 where
  xa : x ≤ a
  yb : y ≤ b
  zc : z ≤ c
  most : x + y + z ≤ 2
  rest : a + b + c ≤ x + y + z + k

two : (k a b c : ℕ) → a + b + c ≤ k + 2 → (x : ℕ) × (y : ℕ) × (z : ℕ) × Two k a b c x y z
two k a b c h = (min 2 a, min (2 - min 2 a) b, min (2 - min 2 a - min (2 - min 2 a) b) c, omega arith)

-- the same of three types that pairwise share a side
record Tri (k a b c x y z : ℕ) : Type 0 where
  xa : x ≤ a
  yb : y ≤ b
  zc : z ≤ c
  xy : x + y ≤ 2
  yz : y + z ≤ 2
  xz : x + z ≤ 2
  ab : a + b ≤ x + y + k
  bc : b + c ≤ y + z + k
  ac : a + c ≤ x + z + k

-- k + 3 is the number of positions left: at least three
tri : (k a b c : ℕ) → a + b ≤ suc k + 2 → b + c ≤ suc k + 2 → a + c ≤ suc k + 2 → (x : ℕ) × (y : ℕ) × (z : ℕ) × Tri (suc k) a b c x y z
tri k zero b c h i j = let t = two (suc k) 0 b c (omega arith) in (0, t.1, t.2, omega arith)
tri k (suc a) zero c h i j = let t = two (suc k) (suc a) 0 c (omega arith) in (t.0, 0, t.2, omega arith)
tri k (suc a) (suc b) zero h i j = let t = two (suc k) (suc a) (suc b) 0 (omega arith) in (t.0, t.1, 0, omega arith)
tri k (suc a) (suc b) (suc c) h i j = (1, 1, 1, omega arith)

abbrev Always : ℕ → Type 0
Always k = (n : Counts) → SumsWithin (k + 2) n → SomeLoad k n

abbrev none : ℕ → ℕ → Type 0
none a b = (a ≡ 0) ⊎ (b ≡ 0)

-- one of each opposite pair has no net left: a star at one side, or a triangle
leaf : (k : ℕ) (n : Counts) → SumsWithin (suc k + 2) n → none n.n1 n.n2 → none n.n3 n.n5 → none n.n4 n.n6 → SomeLoad (suc k) n
leaf k n h (inr p) (inr q) (inr r) = let t = tri k n.n1 n.n3 n.n4 (omega arith) (omega arith) (omega arith) in (counts t.0 0 t.1 t.2 0 0, omega arith)
leaf k n h (inr p) (inr q) (inl r) = let t = two (suc k) n.n1 n.n3 n.n6 (omega arith) in (counts t.0 0 t.1 0 0 t.2, omega arith)
leaf k n h (inr p) (inl q) (inr r) = let t = two (suc k) n.n1 n.n5 n.n4 (omega arith) in (counts t.0 0 0 t.2 t.1 0, omega arith)
leaf k n h (inr p) (inl q) (inl r) = let t = tri k n.n1 n.n5 n.n6 (omega arith) (omega arith) (omega arith) in (counts t.0 0 0 0 t.1 t.2, omega arith)
leaf k n h (inl p) (inr q) (inr r) = let t = two (suc k) n.n2 n.n3 n.n4 (omega arith) in (counts 0 t.0 t.1 t.2 0 0, omega arith)
leaf k n h (inl p) (inr q) (inl r) = let t = tri k n.n2 n.n3 n.n6 (omega arith) (omega arith) (omega arith) in (counts 0 t.0 t.1 0 0 t.2, omega arith)
leaf k n h (inl p) (inl q) (inr r) = let t = tri k n.n2 n.n5 n.n4 (omega arith) (omega arith) (omega arith) in (counts 0 t.0 0 t.2 t.1 0, omega arith)
leaf k n h (inl p) (inl q) (inl r) = let t = two (suc k) n.n2 n.n5 n.n6 (omega arith) in (counts 0 t.0 0 0 t.1 t.2, omega arith)

-- an opposite pair is set aside: every side sum falls by one
record Aside (m n : Counts) : Type 0 where
  part : Part m n
  on_l : sum_l n ≡ sum_l m + 1
  on_t : sum_t n ≡ sum_t m + 1
  on_r : sum_r n ≡ sum_r m + 1
  on_b : sum_b n ≡ sum_b m + 1

grow : (k : ℕ) (m n : Counts) → Always k → SumsWithin (suc k + 2) n → Aside m n → SomeLoad (suc k) n
grow k m n ih h a = let t = ih m (omega arith) in (t.0, omega arith)

-- what an opposite pair gives: both have a net, or one has none
either : (a b : ℕ) → none a b ⊎ ((1 ≤ a) × (1 ≤ b))
either zero b = inl (inl refl)
either (suc a) zero = inl (inr refl)
either (suc a) (suc b) = inr (omega arith)

step : (k : ℕ) → Always k → Always (suc k)
step k ih n h = elim (either n.n1 n.n2) [
  | inr p ↦ grow k (counts (n.n1 - 1) (n.n2 - 1) n.n3 n.n4 n.n5 n.n6) n ih h (omega arith)
  | inl p ↦ elim (either n.n3 n.n5) [
    | inr q ↦ grow k (counts n.n1 n.n2 (n.n3 - 1) n.n4 (n.n5 - 1) n.n6) n ih h (omega arith)
    | inl q ↦ elim (either n.n4 n.n6) [
      | inr r ↦ grow k (counts n.n1 n.n2 n.n3 (n.n4 - 1) n.n5 (n.n6 - 1)) n ih h (omega arith)
      | inl r ↦ leaf k n h p q r
    ]
  ]
]

-- with k + 2 positions left and every side sum at most k + 2 there is a load that leaves at most k
pub some-load : (k : ℕ) (n : Counts) → SumsWithin (k + 2) n → SomeLoad k n
some-load zero n h = (n, omega arith)
some-load (suc k) n h = step k (some-load k) n h
