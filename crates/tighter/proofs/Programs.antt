-- The bounds of every list of calls, carried to every program.
use Rattle.scheme.specs.Book.{State}
use Rattle.scheme.proofs.Theorems.Program.{of_program}
use Rattle.tighter.specs.Claims.{OfSteps, OfSums, OfPoints, VoiceWithin, After, OfEveryList, OfEveryProgram, ProgramBounds}
use Rattle.tighter.specs.Bounds.{numbers}
use Rattle.tighter.proofs.Points as P

carried : (C : OfSteps) → OfEveryList C → OfEveryProgram C
carried C of-list = of_program (λ (t : State). After C t.newer t.book.n t.book.newer t.book.last) of-list

pub program_bounds : ProgramBounds
program_bounds = record {
  sums = λ b. carried (OfSums (numbers b)) (P.sum_bounds b);
  points = λ b. carried (OfPoints (numbers b)) (P.point_bounds b);
  voice_for_ever = carried VoiceWithin P.voice_for_ever;
}
