-- The points nearer than the distance reached have the shape, the others 0.
use Rattle.std.proofs.Common.{length}
use Rattle.pluck.specs.Shapes.{shape_at, Raised}
use Rattle.pluck.proofs.shape.Shape.fill.Given as goal

abbrev pub invariant-loop-d : goal.invariant-loop-d
invariant-loop-d l = Raised (length l.fn.level) l.self.centre (shape_at l.self) l.level l.d
