use mathlib.Core.Bool.{not}
use lib.Dec.{eqb}
use Rattle.steps.proofs.PlateRowLaws.{PlateRows}
use Rattle.steps.proofs.plates.plate_level.Given as goal

abbrev pub invariant-loop-row : goal.invariant-loop-row
invariant-loop-row g l =
    PlateRows l.plan.instrument l.hit (not (eqb g.row.WRITE 0)) (not (eqb g.row.IN_PLACE 0)) l.fn.older l.newer l.fn.out l.older l.out
    l.sums l.other l.here l.row l.start
    l.inexact
