-- Each point that `sum` is called for moves, and is done in its turn.
use Rattle.std.proofs.Common.{arith, refl}
use Rattle.scheme.proofs.Laws.Step.{moving_inside}
use Rattle.steps.proofs.FillLaws.{running_on, running_most, running_done}
use Rattle.steps.proofs.PlanLaws.{few_points}
use Rattle.steps.proofs.basis.Basis.soft_run.Goals as goal

pub overflow_add-inexact : goal.overflow_add-inexact
overflow_add-inexact g c =
    let b = c.requires.sums.gives c.loop-at.at c.sum.result c.loop-at.invariant.order c.loop-at-test.true c.sum.ensures in
    let inside = moving_inside c.args.self.plan.instrument.grid c.loop-at.at b.moves in
    let most = running_most c.loop-at.invariant (omega arith) c.in_ok-inexact.ensures refl in
    record { fits = omega (arith, most, inside, few_points c.args.self.ready.planned) }

pub loop-at-preserved : goal.loop-at-preserved
loop-at-preserved g c = running_on c.loop-at.invariant (omega arith) c.in_ok-inexact.ensures refl (omega arith)

pub returns : goal.returns
returns g c = running_done c.loop-at.invariant c.loop-at-test.false
