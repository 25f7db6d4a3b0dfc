-- j steps are done, and the rest is a play from where they left the levels.
use Rattle.std.proofs.Common.{◌≡◌, length}
use Rattle.scheme.specs.Calls as Calls
use Rattle.turns.specs.Turns.{turn_after, older_of, newer_of, out_of}
use Rattle.steps.specs.Steps.{Room}
use Rattle.steps.proofs.PlayLaws.{Playing}
use Rattle.steps.proofs.play.play.Given as goal

abbrev pub invariant-loop-j : goal.invariant-loop-j
invariant-loop-j l = record {
  playing : Playing l.layout.plan.instrument l.pick l.hit
      (Calls.play l.layout.plan.instrument l.pick l.hit (older_of l.fn.first l.initial.older l.initial.newer l.initial.work)
      (newer_of l.fn.first l.initial.older l.initial.newer l.initial.work) l.initial.samples)
      (length l.initial.samples) (older_of l.turn l.older l.newer l.work) (newer_of l.turn l.older l.newer l.work) l.samples l.j
      l.inexact;
  room : Room l.layout.plan.instrument.grid (out_of l.turn l.older l.newer l.work);
  turn_is : l.turn ≡ turn_after l.fn.first l.j;
}
