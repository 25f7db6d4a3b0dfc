-- The paper's example, and both sides of each border, as a table: proved by computation (`examples_hold`).
use Rattle.std.specs.Prelude.{◌≡◌, true, false, List, [], ◌∷◌, map, Result, Ok, Err, ℕ, ◌^◌, Float, pos}
use Rattle.std.specs.Float.{nan, inf, fin}
use Rattle.types.specs.declared.Settings.{Settings}
use Rattle.types.specs.declared.Grid.{Grid}
use Rattle.types.specs.declared.Refusal.{Refusal}
use Rattle.types.specs.declared.Refusal.TheVariants.{UnknownKind, WrongSize, SheetNumber, Coefficient, Unstable}
use Rattle.sheet.specs.declared.Speed.{Speed}
use Rattle.sheet.specs.declared.Speed.TheVariants.{Hertz, Tension}
use Rattle.sheet.specs.declared.Loss.{Loss}
use Rattle.sheet.specs.declared.Loss.TheVariants.{PerSecond, Seconds}
use Rattle.sheet.specs.declared.Sheet.{Sheet}
use Rattle.sheet.specs.Coefficients.{nearest_float}
use Rattle.sheet.specs.Call.{sheet_call, settings_read}

-- a sheet on a grid, and its answer
pub record Example : Type 0 where
  pub grid : Grid
  pub sheet : Sheet
  pub answer : Result Settings Refusal

abbrev pub Hold : List Example → Type 0
Hold es = map (λ e. sheet_call e.grid e.sheet) es ≡ map (λ e. e.answer) es

-- ---- how a row is written

infix 5 ◌on◌gives◌
abbrev ◌on◌gives◌ : Sheet → Grid → Result Settings Refusal → Example
s on g gives a = record { grid = g; sheet = s; answer = a }

abbrev whole : ℕ → Float
whole n = nearest_float n 1

-- 1 / 2ᵏ
abbrev inverse_power : ℕ → Float
inverse_power k = nearest_float 1 (2 ^ k)

abbrev minus_zero : Float
minus_zero = fin true 0 (pos 0)

abbrev size : (kind columns rows : ℕ) → Grid
size k c r = record { kind = k; columns = c; rows = r }

abbrev numbers : (rate length bending : Float) → Speed → Loss → Sheet
numbers rate length bending v l = record { rate = rate; length = length; bending = bending; speed = v; loss = l }

-- "48000 Hz, .. bending 0, length 1"
abbrev paper_sheet : Speed → Loss → Sheet
paper_sheet = numbers (whole 48000) (whole 1) (whole 0)

-- one step a second, and three columns 1 apart: R is tension / density, μ² the bending, σ₀k the loss
abbrev unit_sheet : (bending : Float) → Speed → Loss → Sheet
unit_sheet = numbers (whole 1) (whole 2)

-- R = n / 65536
abbrev tension : ℕ → Speed
tension n = Tension (whole n) (whole 65536)

abbrev lossless : Loss
lossless = PerSecond (whole 0)

abbrev accepts : (q m s : ℕ) → Result Settings Refusal
accepts q m s = Ok (record { q = q; m = m; s = s })

-- ---- the table

-- "kind 1, 101 columns, 48000 Hz, pitch 100 Hz, loss 6 per second, bending 0, length 1: q = 11378, m = 0, s = 8";
-- and a tension with seconds
unfoldable pub accepted_sheets : List Example
accepted_sheets =
    (paper_sheet (Hertz (whole 100)) (PerSecond (whole 6)) on size 1 101 1 gives accepts 11378 0 8) ∷
    (paper_sheet (Tension (whole 40000) (whole 1)) (Seconds (whole 2)) on size 2 101 1 gives accepts 11378 0 5) ∷ []

-- "float operations stand in this order": two operations that change places, or another last digit of 6.907755278982137, would change
-- a coefficient
unfoldable pub orders : List Example
orders =
    (paper_sheet (Hertz (nearest_float 208209808397067 (2 ^ 42))) lossless on size 1 11 1 gives accepts 26 0 0) ∷
    (numbers (whole 3) (whole 1) (whole 0) (Tension (whole 81) (whole 13107200)) lossless on size 1 11 1 gives accepts 5 0 0) ∷
    (numbers (whole 7) (whole 1) (nearest_float 9653 10616832) (tension 0) lossless on size 4 4 1 gives accepts 0 98 0) ∷
    (paper_sheet (Hertz (whole 0)) (Seconds (nearest_float 326732291679999 (2 ^ 50))) on size 1 11 1 gives accepts 0 0 33) ∷ []

-- 1, before all others
unfoldable pub kinds : List Example
kinds =
    (paper_sheet (Hertz nan) lossless on size 0 2 9 gives Err UnknownKind) ∷
    (paper_sheet (Hertz (whole 10)) lossless on size 8 101 1 gives Err UnknownKind) ∷ []

-- 2, before 3
unfoldable pub sizes : List Example
sizes =
    (paper_sheet (Hertz nan) lossless on size 1 2 1 gives Err WrongSize) ∷
    (paper_sheet (Hertz (whole 10)) lossless on size 3 1024 1 gives accepts 11907 0 0) ∷
    (paper_sheet (Hertz (whole 10)) lossless on size 3 1025 1 gives Err WrongSize) ∷
    (paper_sheet (Hertz (whole 10)) lossless on size 4 101 2 gives Err WrongSize) ∷
    (unit_sheet (whole 0) (tension 32768) lossless on size 5 3 64 gives accepts 32768 0 0) ∷
    (unit_sheet (whole 0) (tension 32768) lossless on size 6 3 64 gives Err WrongSize) ∷ []

-- 3: zero rate, length, density and decay time
unfoldable pub zeros : List Example
zeros =
    (numbers (whole 0) (whole 1) (whole 0) (Hertz (whole 0)) lossless on size 1 101 1 gives Err SheetNumber) ∷
    (numbers (whole 1) minus_zero (whole 0) (Hertz (whole 0)) lossless on size 1 101 1 gives Err SheetNumber) ∷
    (unit_sheet (whole 0) (Tension (whole 1) (whole 0)) lossless on size 1 3 1 gives Err SheetNumber) ∷
    (unit_sheet (whole 0) (tension 1) (Seconds (whole 0)) on size 1 3 1 gives Err SheetNumber) ∷
    (unit_sheet minus_zero (Hertz minus_zero) (PerSecond minus_zero) on size 1 3 1 gives accepts 0 0 0) ∷ []

-- 3: not finite, negative, a pitch in hertz; before 4
unfoldable pub refused_numbers : List Example
refused_numbers =
    (unit_sheet nan (tension 1) lossless on size 4 3 1 gives Err SheetNumber) ∷
    (unit_sheet (whole 0) (Hertz (inf false)) lossless on size 1 3 1 gives Err SheetNumber) ∷
    (unit_sheet (whole 9) (tension 1) (PerSecond (fin true 1 (pos 0))) on size 1 3 1 gives Err SheetNumber) ∷
    (unit_sheet (whole 0) (Hertz (whole 0)) lossless on size 5 3 3 gives Err SheetNumber) ∷
    (unit_sheet (whole 0) (Hertz (whole 0)) lossless on size 6 3 3 gives Err SheetNumber) ∷ []

-- 4: halves up, at both ends of 0..65536; before 5; 0 / 0 by underflow of h·h
unfoldable pub ends : List Example
ends =
    (unit_sheet (whole 0) (tension 65536) (PerSecond (inverse_power 17)) on size 1 3 1 gives accepts 65536 0 1) ∷
    (unit_sheet (whole 0) (tension 1) (PerSecond (nearest_float 131071 131072)) on size 1 3 1 gives accepts 1 0 65536) ∷
    (unit_sheet (whole 0) (tension 1) (PerSecond (nearest_float 131073 131072)) on size 1 3 1 gives Err Coefficient) ∷
    (unit_sheet (inverse_power 3) (tension 65537) lossless on size 1 3 1 gives Err Coefficient) ∷
    (numbers (whole 1) (inverse_power 600) (whole 0) (Hertz (whole 0)) lossless on size 4 3 1 gives Err Coefficient) ∷ []

-- 5: the limits, and a bending that rounds to m = 0
unfoldable pub limits : List Example
limits =
    (unit_sheet (inverse_power 16) (tension 65532) lossless on size 4 3 1 gives accepts 65532 1 0) ∷
    (unit_sheet (inverse_power 16) (tension 65533) lossless on size 4 3 1 gives Err Unstable) ∷
    (unit_sheet (whole 0) (tension 32769) lossless on size 5 3 3 gives Err Unstable) ∷
    (unit_sheet (inverse_power 18) (tension 1) lossless on size 1 3 1 gives accepts 1 0 0) ∷
    (unit_sheet (inverse_power 17) (tension 1) lossless on size 1 3 1 gives Err Unstable) ∷ []

-- kind 7: "sizes as kind 5", no pitch in hertz, "2q + 16m ≤ 65536"; "The sheet's bending number serves unchanged."
unfoldable pub plates : List Example
plates =
    (unit_sheet (whole 0) (tension 32768) lossless on size 7 3 64 gives accepts 32768 0 0) ∷
    (unit_sheet (whole 0) (tension 32769) lossless on size 7 3 64 gives Err Unstable) ∷
    (unit_sheet (inverse_power 4) (tension 0) (PerSecond (inverse_power 16)) on size 7 3 3 gives accepts 0 4096 1) ∷
    (unit_sheet (nearest_float 4097 65536) (tension 0) lossless on size 7 3 3 gives Err Unstable) ∷
    (unit_sheet (inverse_power 16) (tension 32760) lossless on size 7 3 3 gives accepts 32760 1 0) ∷
    (unit_sheet (inverse_power 16) (tension 32761) lossless on size 7 3 3 gives Err Unstable) ∷
    (unit_sheet (whole 0) (Hertz (whole 0)) lossless on size 7 3 3 gives Err SheetNumber) ∷
    (unit_sheet (whole 0) (tension 1) lossless on size 7 3 2 gives Err WrongSize) ∷ []

pub record ExamplesHold : Type 0 where
  pub accepted_hold : Hold accepted_sheets
  pub orders_hold : Hold orders
  pub kinds_hold : Hold kinds
  pub sizes_hold : Hold sizes
  pub zeros_hold : Hold zeros
  pub numbers_hold : Hold refused_numbers
  pub ends_hold : Hold ends
  pub limits_hold : Hold limits
  pub plates_hold : Hold plates
  -- "a sheet's answer all zeros": of every row above that is refused, and of every other refusal
  pub refused_zeros : (r : Refusal) → settings_read (Err r) ≡ record { q = 0; m = 0; s = 0 }
