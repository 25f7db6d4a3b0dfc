use Rattle.ring_line.specs.Reading.{Left}
use Rattle.ring_line.proofs.line_request.Given as goal

abbrev pub invariant-loop-value : goal.invariant-loop-value
invariant-loop-value l = Left l.line l.value-index l.value-items l.fields
