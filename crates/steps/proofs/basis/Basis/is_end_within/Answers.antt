-- The one neighbour counts twice.
use Rattle.std.proofs.Common.{arith, ◌<◌, ℤ, pos}
use Rattle.bounded.proofs.Expr.{E, ◌⊞◌, said}
use Rattle.steps.specs.Plan.{Neighbouring}
use Rattle.steps.proofs.BesideLaws.{at#, end-beside}
use Rattle.steps.proofs.FillLaws.{tested_point}
use Rattle.steps.proofs.basis.Basis.is_end_within.Goals as goal

pub is_point_within-requires : goal.is_point_within-requires
is_point_within-requires c =
    let a = c.args in
    let r = a.self.ready in
    let some : a.from < a.to = omega (arith, c.if-from-to.false, c.requires.ready.1) in
    let twice : E = at# a.self.newer.now r.newer_low a.near ⊞ at# a.self.newer.now r.newer_low a.near in (
      c.requires.ready.0,
      said (λ (z : ℤ). Neighbouring a.self.plan.instrument a.self.newer.now a.from z (pos 0)) twice tt
          (end-beside a.self.plan.instrument r.planned.passes a.self.newer.now c.requires.free_end some),
    )

pub returns : goal.returns
returns c =
    tested_point _ (omega (arith, c.if-from-to.false, c.requires.ready.1, c.requires.free_end.one)) c.is_point_within.ensures
