-- `fill` meets its contract: each distance puts its two points, the last of them that of the half width.
use Rattle.std.proofs.Common.{◌∙◌, length, arith}
use Rattle.bounded.proofs.Num.{back}
use Rattle.pluck.proofs.ShapeLaws.{raised_none, raised_put, raised_all}
use Rattle.pluck.proofs.shape.Shape.fill.Goals as goal

pub loop-d-init : goal.loop-d-init
loop-d-init c = raised_none c.args.self.now (length c.args.level.now) (c.fill.ensures.after (λ y e. e))

pub loop-d-preserved : goal.loop-d-preserved
loop-d-preserved c = raised_put c.args.self.now (length c.args.level.now) c.loop-d.invariant (omega arith)
    (back c.value.result c.value.type_inv ∙ c.value.ensures) c.put_both.ensures

pub returns-2 : goal.returns-2
returns-2 c = raised_all c.args.self.now (length c.args.level.now) (omega arith) (raised_put c.args.self.now (length c.args.level.now)
    c.loop-d.invariant (omega arith) (back c.value.result c.value.type_inv ∙ c.value.ensures) c.put_both.ensures)
