-- What is claimed of the definition. The proof is `product_alike`.
use Rattle.std.specs.Prelude.{◌≡◌, T, Float, pos}
use Rattle.std.specs.Float.{binary64}
use Rattle.std.specs.Float.Ieee.{mul, of_int, fits}
use Rattle.types.specs.Numbers.{D}
use Rattle.nearest.specs.Nearest.{nearest_times, nearest_whole}

-- "Each result times 65536" may be read as a float operation or exactly: the product of floats is exact, or an infinity that is outside
-- either way
abbrev pub ProductAlike : Type 0
ProductAlike = (x : Float) → T (fits binary64 x) → nearest_times 1 (mul binary64 x (of_int binary64 (pos D))) ≡ nearest_whole x
