use Rattle.std.proofs.Common.{◌+◌, ◌-◌, true}
use Rattle.steps.specs.Run.{Filled, four_beside}
use Rattle.steps.proofs.plates.put_first.Given as goal

abbrev pub invariant-loop-c : goal.invariant-loop-c
invariant-loop-c l =
    Filled (λ j. four_beside l.xs l.columns (l.columns + (j - l.place))) true 0 l.fn.sums l.sums (l.place + 1) (l.place + l.c)
