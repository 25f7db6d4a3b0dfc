-- The examples, by computation.
use mathlib.Core.Path.{refl}
use Rattle.ring_decimals.specs.Decimals.{all, unsigned_to, is_signed, signed_value}
use Rattle.ring_line.specs.Lists.{before, split_on, text}
use Rattle.ring_line.specs.Requests.{well_formed, line_request, request_of}
use Rattle.ring_line.specs.Examples.{table, ExamplesHold}

pub examples_hold : ExamplesHold
unfolding all before split_on unsigned_to is_signed signed_value well_formed line_request request_of text table
examples_hold = refl
