-- By the numerator with the hit's force.
use Rattle.std.proofs.Common.{sym, ap, ◌∙◌, ◌≤◌, not, ℤ, nat_abs}
use mathlib.Core.Path.{subst}
use Rattle.bounded.proofs.Num.{back}
use Rattle.types.specs.Numbers.{ceiling}
use Rattle.scheme.specs.Instruments.{beyond}
use Rattle.scheme.specs.Step.{round_away, divisor}
use Rattle.steps.specs.Run.{Next}
use Rattle.steps.proofs.HitLaws.{force_low, next-value}
use Rattle.steps.proofs.PointLaws.{beside-held}
use Rattle.steps.proofs.basis.Basis.is_point_within.Goals as goal

pub numerator_at-requires : goal.numerator_at-requires
numerator_at-requires c =
    let force = back c.force_at-force.result c.force_at-force.type_inv ∙ c.force_at-force.ensures in (
      subst (λ (z : ℤ). nat_abs z ≤ ceiling) (sym force) (force_low c.args.hit c.requires.0 c.args.at),
      beside-held c.args.self.ready c.requires.1,
    )

pub returns : goal.returns
returns c =
    let a = c.args in
    let n = c.numerator_at in
    let force = back c.force_at-force.result c.force_at-force.type_inv ∙ c.force_at-force.ensures in
    let made = n.ensures
    ∙ next-value a.self.plan.instrument a.hit a.self.older.now a.self.newer.now _ a.at c.requires.1.moves (sym force) in
    c.is_below_limit.ensures
    ∙ ap (λ (z : ℤ). not (beyond (round_away z (divisor a.self.plan.instrument.settings)))) (back n.result n.type_inv)
    ∙ ap (λ (x : Next). not (beyond x.value)) made
