-- The signs so far tell whether some point passed is beyond.
use Rattle.std.proofs.Common.{◌≡◌}
use Rattle.scheme.specs.Lists.{point, some_below}
use Rattle.scheme.specs.Instruments.{beyond}
use Rattle.levels.specs.Levels.{signed}
use Rattle.levels.proofs.levels.some_beyond.Given as goal

abbrev pub invariant-loop-v : goal.invariant-loop-v
invariant-loop-v l = signed l.signs ≡ some_below l.v-index (λ i. beyond (point l.xs i))
