use mathlib.Core.Bool.{not}
use lib.Dec.{eqb}
use Rattle.std.proofs.Common.{Some, ◌-◌, ◌≤◌}
use Rattle.steps.specs.Pass.{Passing}
use Rattle.steps.proofs.level.row_pass.Given as goal

abbrev pub invariant-loop-at : goal.invariant-loop-at
invariant-loop-at g l =
    Passing l.plan.instrument l.hit (not (eqb g.row.WRITE 0)) (not (eqb g.row.IN_PLACE 0)) l.fn.older l.newer l.fn.out l.older l.out
    l.from l.at (Some l.inexact)
    × (l.from ≤ l.at) × (l.at ≤ l.to)

abbrev pub decreases-loop-at : goal.decreases-loop-at
decreases-loop-at g l = l.to - l.at
