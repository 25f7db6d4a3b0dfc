-- No more points are inexact than there are.
use mathlib.Core.Path.{subst}
use Rattle.steps.specs.Plates.{TwoRows}
use Rattle.std.proofs.Common.{rules, arith, refl}
use Rattle.scheme.proofs.Laws.Step.{moving_inside}
use Rattle.steps.proofs.FillLaws.{running_on, running_most, running_done}
use Rattle.steps.proofs.PlanLaws.{few_points}
use Rattle.steps.proofs.basis.Basis.plate_run.Goals as goal

pub overflow_add-inexact : goal.overflow_add-inexact
overflow_add-inexact c =
    let inv = c.loop-at.invariant.0 in
    let inside = moving_inside c.args.self.plan.instrument.grid c.loop-at.at
    (c.requires.two_rows.1.moves.each c.loop-at.at inv.order c.loop-at-test.true) in
    let most = running_most inv (omega arith) c.in_ok-inexact.ensures.0 refl in
    record { fits = omega (arith, most, inside, few_points c.args.self.ready.planned) }

pub loop-at-preserved : goal.loop-at-preserved
loop-at-preserved c =
    let q = c.in_ok-inexact.ensures in
    (running_on c.loop-at.invariant.0 (omega arith) q.0 refl (omega arith), q.1, search rules)

pub returns : goal.returns
returns c =
    let inv = c.loop-at.invariant in (
      running_done inv.0 c.loop-at-test.false,
      λ e. subst (TwoRows c.args.self.plan.instrument.grid c.args.self.newer.now c.loop-at.sums c.args.rows)
          (omega (arith, inv.0.upto, c.loop-at-test.false)) inv.1,
    )
