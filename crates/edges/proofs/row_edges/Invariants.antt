-- The rows passed have their moving points.
use Rattle.edges.proofs.EdgeLaws.{Passed}
use Rattle.edges.proofs.row_edges.Given as goal

abbrev pub invariant-loop-row : goal.invariant-loop-row
invariant-loop-row l = Passed l.g l.initial.edges l.edges l.row
