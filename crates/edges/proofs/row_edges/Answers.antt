-- `row_edges` meets its contract: each row's run is put at its two places.
use mathlib.Core.Path.{ap, ◌∙◌}
use native.Mathlib.Omega.{arith}
use Rattle.kinds.specs.declared.runs.Run.{Run}
use Rattle.edges.specs.Edges.{point_at}
use Rattle.edges.proofs.EdgeLaws.{passed-more, passed-all}
use Rattle.edges.proofs.row_edges.Goals as goal

pub loop-row-preserved : goal.loop-row-preserved
loop-row-preserved c =
    let g = c.args.g in
    let row = c.loop-row.row in
    passed-more c.loop-row.invariant (omega arith) _ _
    (c.point_at.ensures ∙ ap (λ (x : Run). point_at g.columns row x.from) c.row_run-run.ensures)
    (c.point_at-in-loop-row.ensures ∙ ap (λ (x : Run). point_at g.columns row x.to) c.row_run-run.ensures)

pub returns : goal.returns
returns c = passed-all (omega arith) c.loop-row.invariant
