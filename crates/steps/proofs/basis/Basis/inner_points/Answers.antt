-- Each inner point has its two neighbours.
use Rattle.std.proofs.Common.{rules, ◌≡◌}
use Rattle.steps.specs.Run.{two_beside}
use Rattle.steps.proofs.BesideLaws.{line-beside}
use Rattle.steps.proofs.basis.Basis.inner_points.Goals as goal

pub soft_run-requires-clause-sums : goal.soft_run-requires-clause-sums
soft_run-requires-clause-sums c = record {
  callable = λ k a b. search rules;
  gives = λ k sum a b q.
      let e : sum ≡ two_beside c.args.self.newer.now k = search rules in
      rw e (line-beside c.args.self.plan.instrument c.args.self.ready.planned.passes c.requires.on_line.0 c.requires.on_line.1
      c.args.self.newer.now k a b);
}
