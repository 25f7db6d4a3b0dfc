-- The table of examples holds: each row by computing. A row that no longer holds is refused at its own line.
use mathlib.Core.Path.{refl}
use Rattle.pluck_table.specs.Table.{table}
use Rattle.pluck_table.specs.Loading.{keeps_rule, loaded_table}
use Rattle.pluck_table.specs.LoadingExamples.{LoadingHold}

pub loading_hold : LoadingHold
unfolding table keeps_rule loaded_table
loading_hold = record {
  answers = (refl, refl, refl, refl, refl);
  lengths = refl;
  ends = refl;
  falls = refl;
  sound = refl;
}
