-- The table of examples holds: each row by computing. A row that no longer holds is refused at its own line.
use mathlib.Core.Path.{refl}
use Rattle.nearest.specs.Nearest.{halves_up, nearest_times}
use Rattle.nearest.specs.Examples.{ExamplesHold, half, threeHalves, fiveHalves, minusHalf, belowHalf, belowMinusHalf}
use Rattle.nearest.specs.Examples.{halfStep, minusHalfStep, belowHalfStep, belowMinusHalfStep}
use Rattle.nearest.specs.Examples.{halfBelowOne, one, halfAboveOne, belowHalfAboveOne, zeros, infinities, notNumber}

pub examples_hold : ExamplesHold
unfolding halves_up nearest_times
examples_hold half = refl
examples_hold threeHalves = refl
examples_hold fiveHalves = refl
examples_hold minusHalf = refl
examples_hold belowHalf = refl
examples_hold belowMinusHalf = refl
examples_hold halfStep = refl
examples_hold minusHalfStep = refl
examples_hold belowHalfStep = refl
examples_hold belowMinusHalfStep = refl
examples_hold halfBelowOne = refl
examples_hold one = refl
examples_hold halfAboveOne = refl
examples_hold belowHalfAboveOne = refl
examples_hold zeros = (refl, refl)
examples_hold infinities = (refl, refl)
examples_hold notNumber = refl
