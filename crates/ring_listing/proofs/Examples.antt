-- The examples, by computation.
use mathlib.Core.Path.{refl}
use Rattle.ring_line.specs.Lists.{text}
use Rattle.ring_listing.specs.Text.{digits_in, decimal, signed_decimal, pair_line, step_lines, done_line}
use Rattle.ring_listing.specs.Examples.{table, ExamplesHold}

pub examples_hold : ExamplesHold
unfolding text digits_in decimal signed_decimal pair_line step_lines done_line table
examples_hold = refl
