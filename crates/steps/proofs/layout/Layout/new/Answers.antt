use Rattle.std.proofs.Common.{rules}
use Rattle.steps.proofs.RowLaws.{edges_there}
use Rattle.steps.proofs.layout.Layout.new.Goals as goal

pub invariant_of-result : goal.invariant_of-result
invariant_of-result c = record { edges_of = edges_there _ c.requires.passes.size (search rules) c.row_edges.ensures }
