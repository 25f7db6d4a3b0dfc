use mathlib.Core.Bool.{not}
use lib.Dec.{eqb}
use Rattle.std.proofs.Common.{◌*◌}
use Rattle.steps.proofs.RowLaws.{Rows}
use Rattle.steps.proofs.level.level_run.Given as goal

abbrev pub invariant-loop-row : goal.invariant-loop-row
invariant-loop-row g l =
    Rows l.plan.instrument l.hit (not (eqb g.row.WRITE 0)) (not (eqb g.row.IN_PLACE 0)) l.fn.older l.newer l.fn.out l.older l.out l.row
    (l.row * l.plan.instrument.grid.columns)
    l.inexact
