-- The calls as C sees them: numbers and slices in, and all that comes back, the refusal by its number.
use Rattle.std.specs.Prelude.{List, ℕ, Float, ℤ, Result, Ok, Err}
use Rattle.types.specs.declared.Refusal.{Refusal}
use Rattle.types.specs.declared.Settings.{Settings}
use Rattle.types.specs.Numbers.{number, number_of}
use Rattle.scheme.specs.Calls.{AfterBlock, AfterPluck, reading_value}
use Rattle.scheme.specs.Calls as Calls
use Rattle.sheet.specs.Call.{sheet_call, settings_read}
use Rattle.packing.specs.Packing.{grid_of, instrument_of, hit_of, sheet_of}

-- what refused an answer, 0 where nothing did
abbrev pub answer_number : {A : Type 0} → Result A Refusal → ℕ
answer_number (Ok x) = 0
answer_number (Err r) = number r

-- ---- a block

pub record BlockLeft : Type 0 where
  pub refusal : ℕ
  pub steps : ℕ
  pub inexact : ℕ
  pub older : List ℤ
  pub newer : List ℤ
  pub work : List ℤ
  pub samples : List ℤ

abbrev pub block_left : (refusal steps inexact : ℕ) → (older newer work samples : List ℤ) → BlockLeft
block_left refusal steps inexact older newer work samples = record {
  refusal = refusal;
  steps = steps;
  inexact = inexact;
  older = older;
  newer = newer;
  work = work;
  samples = samples;
}

abbrev pub block_numbers : AfterBlock → BlockLeft
block_numbers a =
    block_left (number_of a.answer.outcome) a.answer.steps a.answer.inexact a.older a.newer a.work a.samples

abbrev pub block : (kind columns rows q m s : ℕ) → (older newer work samples : List ℤ) → (pickUp hit point : ℕ) → ℤ → BlockLeft
block kind columns rows q m s older newer work samples pickUp hit point force =
    block_numbers (Calls.block (instrument_of kind columns rows q m s) older newer work samples pickUp (hit_of hit point force))

-- ---- a pluck, and one by a lent table

pub record PluckLeft : Type 0 where
  pub refusal : ℕ
  pub older : List ℤ
  pub newer : List ℤ

abbrev pub pluck_left : ℕ → (older newer : List ℤ) → PluckLeft
pluck_left refusal older newer = record { refusal = refusal; older = older; newer = newer }

abbrev pub pluck_numbers : AfterPluck → PluckLeft
pluck_numbers a = pluck_left (number_of a.outcome) a.older a.newer

abbrev pub pluck : (kind columns rows : ℕ) → (older newer : List ℤ) → (centre halfWidth : ℕ) → ℤ → PluckLeft
pluck kind columns rows older newer centre halfWidth height =
    pluck_numbers (Calls.pluck (grid_of kind columns rows) older newer centre halfWidth height)

abbrev pub pluck_with : (kind columns rows : ℕ) → (older newer : List ℤ) → (centre halfWidth : ℕ) → ℤ → (lent : List ℕ) → PluckLeft
pluck_with kind columns rows older newer centre halfWidth height lent =
    pluck_numbers (Calls.pluck_with (grid_of kind columns rows) older newer centre halfWidth height lent)

-- ---- the float reading

pub record ReadingLeft : Type 0 where
  pub refusal : ℕ
  pub value : Float

abbrev pub reading_left : ℕ → Float → ReadingLeft
reading_left refusal value = record { refusal = refusal; value = value }

-- "answers 0 when refused"
abbrev pub reading_numbers : Result Float Refusal → ReadingLeft
reading_numbers a = reading_left (answer_number a) (reading_value a)

abbrev pub reading : (kind columns rows : ℕ) → List ℤ → ℕ → ReadingLeft
reading kind columns rows newer pickUp = reading_numbers (Calls.reading (grid_of kind columns rows) newer pickUp)

-- ---- a sheet

pub record SheetLeft : Type 0 where
  pub refusal : ℕ
  pub q : ℕ
  pub m : ℕ
  pub s : ℕ

abbrev pub sheet_left : (refusal q m s : ℕ) → SheetLeft
sheet_left refusal q m s = record { refusal = refusal; q = q; m = m; s = s }

abbrev pub sheet_numbers : Result Settings Refusal → SheetLeft
sheet_numbers a = let c = settings_read a in sheet_left (answer_number a) c.q c.m c.s

abbrev pub sheet : (kind columns rows : ℕ) → (rate length bending : Float) → ℕ → (speed density : Float) → ℕ → Float → SheetLeft
sheet kind columns rows rate length bending by_tension speed density bySeconds loss =
    sheet_numbers (sheet_call (grid_of kind columns rows) (sheet_of rate length bending by_tension speed density bySeconds loss))
