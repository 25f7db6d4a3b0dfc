-- The examples, by computation. A row that no longer holds is refused at the line of its table.
use mathlib.Core.Path.{refl}
use lib.Ieee.{mul, div, round, of_int}
use Rattle.types.specs.Numbers.{kind_of}
use Rattle.scheme.specs.Instruments.{size_in, stable_in}
use Rattle.nearest.specs.Nearest.{halves_up, nearest_times}
use Rattle.sheet.specs.Numbers.{non_negative, positive, numbers_allowed}
use Rattle.sheet.specs.Coefficients.{coefficients}
use Rattle.sheet.specs.Call.{answer_to, sheet_call}
use Rattle.sheet.specs.Examples.{accepted_sheets, orders, kinds, sizes, zeros, refused_numbers, ends, limits, plates, ExamplesHold}

pub examples_hold : ExamplesHold
unfolding mul div round of_int kind_of size_in stable_in halves_up nearest_times non_negative positive numbers_allowed coefficients
    answer_to sheet_call accepted_sheets orders kinds sizes zeros refused_numbers ends limits plates
examples_hold = record {
  accepted_hold = refl;
  orders_hold = refl;
  kinds_hold = refl;
  sizes_hold = refl;
  zeros_hold = refl;
  numbers_hold = refl;
  ends_hold = refl;
  limits_hold = refl;
  plates_hold = refl;
  refused_zeros = λ r. refl;
}
