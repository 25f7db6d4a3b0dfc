-- Off a line only a plate is stiff.
use Rattle.steps.proofs.KindLaws.{grid-stiff}
use Rattle.steps.proofs.PlanLaws.{m_some}
use Rattle.steps.proofs.level.next_level.Goals as goal

pub plate_level-requires-clause-passable : goal.plate_level-requires-clause-passable
plate_level-requires-clause-passable g c =
    let planned = c.requires.given.planned in
    (c.requires, grid-stiff c.args.layout.now.plan.instrument planned.passes c.if-plan-ne1.true (m_some planned c.if-plan-ne0.true))

pub plate_level-requires-then-plan-ne1-clause-passable : goal.plate_level-requires-then-plan-ne1-clause-passable
plate_level-requires-then-plan-ne1-clause-passable g c =
    let planned = c.requires.given.planned in
    (c.requires, grid-stiff c.args.layout.now.plan.instrument planned.passes c.if-plan-ne1.true (m_some planned c.if-plan-ne0.true))
