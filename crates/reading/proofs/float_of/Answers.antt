-- `float_of` meets its contract: the divisor is 2⁴³ by computing.
use lib.Ieee.{of_int, of_bits, round}
use Rattle.std.proofs.Common.{ap}
use Rattle.bounded.proofs.Num.{back}
use Rattle.scheme.specs.Step.{float_of}
use Rattle.reading.proofs.float_of.Goals as goal

pub returns : goal.returns
unfolding float_of of_int of_bits round
returns c = ap float_of (back c.args.v c.ranges.v.sfits)
