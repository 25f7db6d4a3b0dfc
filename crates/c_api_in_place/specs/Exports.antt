-- The block on two levels as C sees it: numbers and slices in, and all that comes back, the refusal by its number.
use Rattle.std.specs.Prelude.{List, ℕ, ℤ}
use Rattle.types.specs.Numbers.{number_of}
use Rattle.scheme.specs.Calls.{AfterInPlace}
use Rattle.scheme.specs.Calls as Calls
use Rattle.packing.specs.Packing.{instrument_of, hit_of}

pub record InPlaceLeft : Type 0 where
  pub refusal : ℕ
  pub steps : ℕ
  pub inexact : ℕ
  pub older : List ℤ
  pub newer : List ℤ
  pub samples : List ℤ

abbrev pub in_place_left : (refusal steps inexact : ℕ) → (older newer samples : List ℤ) → InPlaceLeft
in_place_left refusal steps inexact older newer samples = record {
  refusal = refusal;
  steps = steps;
  inexact = inexact;
  older = older;
  newer = newer;
  samples = samples;
}

abbrev pub in_place_numbers : AfterInPlace → InPlaceLeft
in_place_numbers a =
    in_place_left (number_of a.answer.outcome) a.answer.steps a.answer.inexact a.older a.newer a.samples

abbrev pub block_in_place : (kind columns rows q m s : ℕ) → (older newer samples : List ℤ) → (pickUp hit point : ℕ) → ℤ → InPlaceLeft
block_in_place kind columns rows q m s older newer samples pickUp hit point force =
    in_place_numbers (Calls.block_in_place (instrument_of kind columns rows q m s) older newer samples pickUp (hit_of hit point force))
