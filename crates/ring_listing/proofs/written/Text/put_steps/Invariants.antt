use Rattle.std.proofs.Common.{◌+◌, ◌*◌, ◌≤◌}
use Rattle.ring_listing.specs.Text.{step_lines}
use Rattle.ring_listing.specs.Put.{Put}
use Rattle.ring_listing.proofs.written.Text.put_steps.Given as goal

abbrev pub invariant-loop-i : goal.invariant-loop-i
invariant-loop-i l = record {
  low : l.self.length ≤ l.initial.self.length + 12 * l.i;
  lines : Put l.initial.self (step_lines l.i l.samples) l.self;
}
