-- The points passed are those of xs, the others as they were.
use Rattle.scheme.specs.Lists.{point}
use Rattle.slices.proofs.SliceLaws.{Passed}
use Rattle.slices.proofs.copy.Given as goal

abbrev pub invariant-loop-k : goal.invariant-loop-k
invariant-loop-k l = Passed (point l.xs) l.initial.ys l.ys l.k
