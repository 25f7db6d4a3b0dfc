-- Where rounding to the nearest, halves up, differs from its neighbours, as a table: proved by computation (`examples_hold`).
use Rattle.std.specs.Prelude.{◌≡◌, true, false, Some, None, ℕ, ◌+◌, ◌-◌, ◌^◌, Float, pos, negsuc}
use Rattle.std.specs.Float.{nan, inf, fin}
use Rattle.types.specs.Numbers.{D}
use Rattle.nearest.specs.Nearest.{nearest_times, nearest_whole}

-- m / 2ᵏ⁺¹, and below zero
abbrev over : ℕ → ℕ → Float
over m k = fin false m (negsuc k)

abbrev minus : ℕ → ℕ → Float
minus m k = fin true m (negsuc k)

pub data Row : Type 0 where
  -- 1/2, 3/2, 5/2, −1/2, and the floats beside the first and the last
  half threeHalves fiveHalves minusHalf belowHalf belowMinusHalf : Row
  -- D times 1/131072, −1/131072 and the floats beside them; 131071/131072, 1, 131073/131072 and the float below it
  halfStep minusHalfStep belowHalfStep belowMinusHalfStep halfBelowOne one halfAboveOne belowHalfAboveOne : Row
  -- zeros, infinities, not a number
  zeros infinities notNumber : Row

abbrev pub shows : Row → Type 0
shows half = nearest_times 1 (over 1 0) ≡ Some 1
shows threeHalves = nearest_times 1 (over 3 0) ≡ Some 2
shows fiveHalves = nearest_times 1 (over 5 0) ≡ Some 3
shows minusHalf = nearest_times 1 (minus 1 0) ≡ Some 0
shows belowHalf = nearest_times 1 (over (2 ^ 53 - 1) 53) ≡ Some 0
shows belowMinusHalf = nearest_times 1 (minus (2 ^ 52 + 1) 52) ≡ None
shows halfStep = nearest_whole (over 1 16) ≡ Some 1
shows minusHalfStep = nearest_whole (minus 1 16) ≡ Some 0
shows belowHalfStep = nearest_whole (over (2 ^ 53 - 1) 69) ≡ Some 0
shows belowMinusHalfStep = nearest_whole (minus (2 ^ 52 + 1) 68) ≡ None
shows halfBelowOne = nearest_whole (over 131071 16) ≡ Some D
shows one = nearest_whole (fin false 1 (pos 0)) ≡ Some D
shows halfAboveOne = nearest_whole (over 131073 16) ≡ None
shows belowHalfAboveOne = nearest_whole (over (2 ^ 52 + 2 ^ 35 - 1) 51) ≡ Some D
shows zeros = (nearest_whole (fin false 0 (pos 0)) ≡ Some 0) × (nearest_whole (fin true 0 (pos 0)) ≡ Some 0)
shows infinities = (nearest_whole (inf false) ≡ None) × (nearest_whole (inf true) ≡ None)
shows notNumber = nearest_whole nan ≡ None

abbrev pub ExamplesHold : Type 0
ExamplesHold = (r : Row) → shows r
