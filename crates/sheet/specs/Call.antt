-- "A sheet call (kind, columns, rows, sheet) meets 1 to 5, with 4 and 5 on the coefficients it works out."
use Rattle.std.specs.Prelude.{not, List, [], ◌∷◌, ◌++◌, Result}
use Rattle.std.specs.Result.{result_unwrap_or}
use Rattle.types.specs.declared.Settings.{Settings}
use Rattle.types.specs.declared.Grid.{Grid}
use Rattle.types.specs.declared.Instrument.{Instrument}
use Rattle.types.specs.declared.Refusal.{Refusal}
use Rattle.types.specs.declared.Refusal.TheVariants.{SheetNumber, Coefficient, Unstable}
use Rattle.scheme.specs.Instruments.{kind}
use Rattle.scheme.specs.Refusals.{last_kind, unstable, Check, ◌⇒◌, lowest, grid_checks}
use Rattle.scheme.specs.Calls.{answered}
use Rattle.sheet.specs.declared.Sheet.{Sheet}
use Rattle.sheet.specs.declared.coefficients.Coefficients.{Coefficients}
use Rattle.sheet.specs.Numbers.{numbers_allowed}
use Rattle.sheet.specs.Coefficients.{coefficients, some_outside, settings_of}

-- the instrument that they make
abbrev pub instrument_with : Grid → Coefficients → Instrument
instrument_with g c = record { grid = g; settings = settings_of c }

-- 4 and 5
abbrev pub coefficient_checks : Grid → Coefficients → List Check
coefficient_checks g c = some_outside c ⇒ Coefficient ∷ unstable (instrument_with g c) ⇒ Unstable ∷ []

-- 3 to 5
abbrev pub after_grid : Grid → Sheet → List Check
after_grid g s = not (numbers_allowed (kind g) s) ⇒ SheetNumber ∷ coefficient_checks g (coefficients g.columns s)

-- 1 to 5
abbrev pub sheet_checks : Grid → Sheet → List Check
sheet_checks g s = grid_checks last_kind g ++ after_grid g s

-- "The lowest number that applies answers, and a call for which none applies is carried out"
unfoldable pub answer_to : List Check → Settings → Result Settings Refusal
answer_to checks c = answered (lowest checks) c

unfoldable pub sheet_call : Grid → Sheet → Result Settings Refusal
sheet_call g s = answer_to (sheet_checks g s) (settings_of (coefficients g.columns s))

-- "a sheet's answer all zeros" where it is refused
abbrev pub settings_read : Result Settings Refusal → Settings
settings_read a = result_unwrap_or a (record { q = 0; m = 0; s = 0 })
