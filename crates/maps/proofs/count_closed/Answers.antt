use Prim.Native.Nat.{ℕ, ◌+◌, ◌-◌}
use mathlib.Core.Path.{◌≡◌, sym, ap, ◌∙◌}
use native.Mathlib.Omega.{arith}
use Rattle.counting.specs.Count.{count}
use Rattle.wiring.specs.Map.{closed_in}
use Rattle.counting.proofs.Counting.{count_le, count_passed, count_failed}
use Rattle.maps.proofs.count_closed.Goals as goal
use Rattle.maps.proofs.count_closed.Goals.{then-is_closed, else-is_closed}

pub loop-k-init : goal.loop-k-init
unfolding count
loop-k-init c = let e : c.args.from - c.args.from ≡ 0 = omega arith in (omega arith, rw e)

pub overflow_add-closed : goal.overflow_add-closed
overflow_add-closed c = omega (arith, count_le (c.loop-k.k - c.args.from) (λ i. closed_in c.args.map.now (c.args.from + i)))

pub loop-k-preserved : goal.loop-k-preserved
loop-k-preserved c =
    let here : c.args.from + (c.loop-k.k - c.args.from) ≡ c.loop-k.k = omega arith in
    let next : c.loop-k.k + 1 - c.args.from ≡ c.loop-k.k - c.args.from + 1 = omega arith in (
      omega arith,
      rw next
          (elim c.if-is_closed.branch [
            | then-is_closed w ↦ w.closed-is ∙ count_passed _ _ _ (rw here (sym c.is_closed.ensures ∙ w.if-is_closed.true)) c.loop-k.invariant.1
            | else-is_closed w ↦ w.closed-is ∙ count_failed _ _ _ (rw here (sym c.is_closed.ensures ∙ w.if-is_closed.false)) c.loop-k.invariant.1
          ]),
    )

pub returns : goal.returns
returns c = c.loop-k.invariant.1 ∙ ap (λ (n : ℕ). count n (λ i. closed_in c.args.map.now (c.args.from + i))) (omega arith)
