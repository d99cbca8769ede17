-- How a relay is wired, and what its answer tells. Assumes nothing.
use Prim.Native.Nat.{ℕ, ◌*◌, ◌≤◌, ◌<◌}
use mathlib.Core.Path.{◌≡◌, refl, sym}
use mathlib.Core.Bool.{Bool, true, false, cond}
use mathlib.Core.List.{[], ◌∷◌}
use mathlib.Core.Logic.{⊎_elim}
use native.Mathlib.Omega.{arith}
use lib.Dec.{ltb}
use borrow.Author.Tests.{ltb-true, ltb-false}
use Rattle.std.specs.Prelude.{Result, Ok, Err}
use Rattle.counting.specs.Lists.{among}
use Rattle.answers.specs.declared.Refusal.{Refusal}
use Rattle.answers.specs.declared.Refusal.TheVariants.{Size, NotClosed}
use Rattle.answers.specs.Answer.{Done, answer_of}
use Rattle.answers.specs.Table.{number_of, CodeIn}
use Rattle.answers.proofs.Done.{is_done_lem}
use Rattle.wiring.specs.Frame.{four, frame}
use Rattle.wiring.proofs.Relays.{relay_of}
use Rattle.wiring.proofs.Frame.{is_there, joins}
use Rattle.frame.specs.declared.Terminal.{Terminal}
use Rattle.frame.specs.Tests.{Served}
use Rattle.frame.proofs.Tests.{size_served, size_is, size_tested}
use Rattle.wires.specs.declared.Wired.{Wired}
use Rattle.wires.specs.Told.{RelayTold, WiredRight}
use Rattle.wires.specs.Wired.{wires_of, wired_as, not_wired, wired_told}

-- what holds of a relay that is there, and of each refusal on its ground, holds of the answer
pub wired_holds : (P : Result Wired Refusal → Type 0) (W k : ℕ) → (Served W → k < (frame W).relays → P (Ok (wires_of W k)))
    → ((Served W → ⊥) → P (Err (Size W))) → (Served W → (frame W).relays ≤ k → P (Err (NotClosed k))) → P (wired_as W k)
unfolding wired_as
wired_holds P W k there size none = ⊎_elim (λ e. rw e (here (size_is W (is_done_lem _ e)) (ltb k (6 * W)) refl)) (λ e. rw e (size (λ s. cc (size_served W s.0 s.1, e)))) (size_tested W)
  where
    here : Served W → (b : Bool) → ltb k (6 * W) ≡ b → P (cond b (Ok (wires_of W k)) (Err (NotClosed k)))
    here s true e = there s (ltb-true k (6 * W) e)
    here s false e = none s (ltb-false k (6 * W) e)

-- every number that is told is small
pub record SmallEnd (t : Terminal) : Type 0 where
  pub side : t.side ≤ 4
  pub position : t.position ≤ 64

pub record SmallWired (r : Wired) : Type 0 where
  pub kind : r.kind ≤ 6
  pub earlier : SmallEnd r.earlier
  pub later : SmallEnd r.later

none_small : SmallWired not_wired
none_small =
    let zero : SmallEnd (record { side = 0; position = 0 }) = record { side = omega arith; position = omega arith } in
    record { kind = omega arith; earlier = zero; later = zero }

module _ (W k : ℕ) where
  pub wired_small : SmallWired (wired_told (wired_as W k))
  wired_small =
      wired_holds (λ (r : Result Wired Refusal). SmallWired (wired_told r)) W k
      (λ s h. let x = is_there W k h in
      record { kind = x.typed.1; earlier = record { side = x.sides.from2; position = omega (arith, s, x.first) }; later = record { side = x.sides.to2; position = omega (arith, s, x.second) } })
      (λ s. none_small) (λ s h. none_small)

  pub number_small : W < 65536 → k < 65536 → number_of (wired_as W k) < 65536
  number_small a b = wired_holds (λ (r : Result Wired Refusal). number_of r < 65536) W k (λ s h. omega arith) (λ s. a) (λ s h. b)

  pub wired_codes : CodeIn (0 ∷ 1 ∷ 20 ∷ []) (wired_as W k)
  unfolding among
  wired_codes = wired_holds (λ (r : Result Wired Refusal). CodeIn (0 ∷ 1 ∷ 20 ∷ []) r) W k (λ s h. refl) (λ s. refl) (λ s h. refl)

  pub relay_told : RelayTold W k (answer_of (wired_as W k))
  relay_told =
      wired_holds (λ (r : Result Wired Refusal). RelayTold W k (answer_of r)) W k
      (λ s h. record { code1 = λ x. absurd (omega arith); code20 = λ x. absurd (omega arith) })
      (λ s. record { code1 = λ x. (refl, s); code20 = λ x. absurd (omega arith) })
      (λ s h. record { code1 = λ x. absurd (omega arith); code20 = λ x. (refl, h) })

  pub wired_refused : (answer_of (wired_as W k) ≡ Done → ⊥) → wired_told (wired_as W k) ≡ not_wired
  wired_refused = wired_holds (λ (r : Result Wired Refusal). (answer_of r ≡ Done → ⊥) → wired_told r ≡ not_wired) W k (λ s h f. absurd (f refl)) (λ s f. refl) (λ s h f. refl)

  pub wired_there : Served W → k < (frame W).relays → wired_as W k ≡ Ok (wires_of W k)
  wired_there s h = wired_holds (λ (r : Result Wired Refusal). r ≡ Ok (wires_of W k)) W k (λ t l. refl) (λ n. absurd (n s)) (λ t l. absurd (omega arith))

  pub wired_served : answer_of (wired_as W k) ≡ Done → Served W × (k < (frame W).relays)
  wired_served = wired_holds (λ (r : Result Wired Refusal). answer_of r ≡ Done → Served W × (k < (frame W).relays)) W k (λ s h e. (s, h)) (λ s e. cc) (λ s h e. cc)

  -- a relay that is told joins position p of its type's earlier side to position W + 1 - p of the later side, and has the number of (type, p)
  pub wired_joins : answer_of (wired_as W k) ≡ Done → WiredRight W k (wired_told (wired_as W k))
  wired_joins e = let t = wired_served e in rw (wired_there t.0 t.1) (record { from = refl; to = refl; sum = joins four W k t.1; number = sym (relay_of W k) })
