-- `nearest_whole` meets its contract: what is not a number is outside, and any other float is read back from its bits.
use Rattle.std.proofs.Common.{ap, ◌∙◌, rules}
use lib.Ieee.{binary64}
use lib.Ieee.Bits.{of_bits-to_bits}
use Rattle.nearest.specs.Nearest.{nearest_whole}
use Rattle.nearest.proofs.nearest_whole.Goals as goal

pub returns : goal.returns
returns c = c.whole_of_bits.ensures ∙ ap nearest_whole (of_bits-to_bits binary64 c.args.x (search rules))
