use Rattle.std.proofs.Common.{◌≡◌, ◌≤◌, ◌<◌, ◌⊎◌, length, get_or, true, false, refl, inl, inr, ◌∙◌, arith, rules}
use borrow.Author.Count.{below_more}
use lib.ListN.{length-set}
use Rattle.counting.proofs.Lists.{between_at}
use Rattle.loads.proofs.Trial.{Net, tried_all, tried_on, tried_off, tried_end, seat_first, seat_none}
use Rattle.loads.proofs.seat.Goals as goal
use Rattle.loads.proofs.seat.Goals.{After-net_ends-a, then-used-a-via-then-used-a, then-used-a-via-else-used-a+then-used-b}

-- the net that is tried
net : (c : After-net_ends-a) → Net c.args.types.now c.trial.s c.loop-j.j c.net_ends-a.result.0 c.net_ends-a.result.1
net c = record { inside = search rules; touches = c.net_ends-a.ensures }

pub loop-j-init : goal.loop-j-init
loop-j-init c = (omega arith, refl, tried_all _ _ c.requires.1)

pub net_ends-a-requires : goal.net_ends-a-requires
net_ends-a-requires c =
    let inside : c.loop-j.j < length c.args.types.now = search rules in
    let kind : (1 ≤ get_or c.args.types.now c.loop-j.j 0) × (get_or c.args.types.now c.loop-j.j 0 ≤ 6) = between_at 1 6 _ _ c.requires.1 inside in
    (kind.0, kind.1, omega arith)

pub loop-j-preserved : goal.loop-j-preserved
loop-j-preserved c =
    let its = net (goal.at.loop-j-preserved c).After-net_ends-a in (
      omega arith,
      simp length-set c.loop-j.invariant.1,
      c.loop-j.invariant.2 ∙ tried_on c.loop-j.used c.args.types.now c.trial.s c.loop-j.j c.net_ends-a.result.0 c.net_ends-a.result.1 its (search rules) (search rules),
    )

pub trial-preserved : goal.trial-preserved
trial-preserved c =
    let its = net (goal.at.trial-preserved c).After-net_ends-a in
    let met : (get_or c.loop-j.used c.net_ends-a.result.0 false ≡ true) ⊎ (get_or c.loop-j.used c.net_ends-a.result.1 false ≡ true) =
    elim c.then-used-a.branch [ then-used-a-via-then-used-a w ↦ inl w.if-used-a.true | then-used-a-via-else-used-a+then-used-b w ↦ inr w.if-used-b.true ] in
    (omega arith, below_more _ _ c.trial.invariant.1 (c.loop-j.invariant.2 ∙ tried_off _ _ _ _ _ _ its met))

pub returns-after-trial : goal.returns-after-trial
returns-after-trial c = seat_none _ _ c.requires.0 (omega arith) c.trial.invariant.1

pub returns-then-j-m : goal.returns-then-j-m
returns-then-j-m c =
    seat_first _ _ c.requires.0 c.trial-test.true c.trial.invariant.1
    (c.loop-j.invariant.2 ∙ tried_end _ _ _ _ c.if-j-m.true)
