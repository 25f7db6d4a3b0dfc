use Rattle.std.proofs.Common.{true}
use Rattle.steps.specs.Run.{next_of, Tested}
use Rattle.steps.proofs.basis.Basis.is_run_within.Given as goal

abbrev pub invariant-loop-at : goal.invariant-loop-at
invariant-loop-at g l =
    Tested (next_of l.self.plan.instrument l.hit l.self.older.now l.self.newer.now) l.from l.at true
