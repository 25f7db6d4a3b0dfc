-- The columns passed are at the edge.
use Rattle.scheme.specs.Instruments.{round_edge}
use Rattle.kinds.specs.Search.{Passed}
use Rattle.runs.proofs.round_run.Given as goal

abbrev pub invariant-loop-a : goal.invariant-loop-a
invariant-loop-a l = Passed l.c (λ k. round_edge l.c k l.b) l.a
