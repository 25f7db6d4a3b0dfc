-- The one neighbour counts twice.
use Rattle.std.proofs.Common.{arith, ◌≡◌, ◌+◌, ◌<◌, ℤ, pos}
use Rattle.bounded.proofs.Expr.{E, ◌⊞◌, said}
use Rattle.steps.specs.Plan.{Neighbouring}
use Rattle.steps.proofs.BesideLaws.{at#, end-beside}
use Rattle.steps.proofs.FillLaws.{ran_ends}
use Rattle.steps.proofs.basis.Basis.free_end.Goals as goal

pub next_point-requires-clause-ready : goal.next_point-requires-clause-ready
next_point-requires-clause-ready c =
    let a = c.args in
    let r = c.args.self.ready in
    let some : a.s.from < a.s.to = omega (arith, c.if-s.false, c.requires.ready.1.order) in
    let twice : E = at# a.self.newer.now r.newer_low a.near ⊞ at# a.self.newer.now r.newer_low a.near in (
      c.requires.ready.0,
      said (λ (z : ℤ). Neighbouring a.self.plan.instrument a.self.newer.now a.s.from z (pos 0)) twice tt
          (end-beside a.self.plan.instrument r.planned.passes a.self.newer.now c.requires.free_end some),
    )

pub returns : goal.returns
returns c =
    let last : c.args.s.from + 1 ≡ c.args.s.to = omega (arith, c.if-s.false, c.requires.ready.1.order, c.requires.free_end.one) in
    ran_ends last c.next_point.ensures
