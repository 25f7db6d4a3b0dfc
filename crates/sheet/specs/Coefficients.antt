-- "float operations stand in this order": the coefficients that a sheet works out.
use Rattle.std.specs.Prelude.{Bool, false, ◌||◌, is_none, unwrap_or, ℕ, ◌-◌, ◌^◌, Float, pos}
use Rattle.std.specs.Float.{binary64}
use Rattle.std.specs.Float.Ieee.{mul, div, round, of_int}
use Rattle.types.specs.declared.Settings.{Settings}
use Rattle.nearest.specs.Nearest.{nearest_whole}
use Rattle.sheet.specs.declared.Speed.{Speed}
use Rattle.sheet.specs.declared.Speed.TheVariants.{Hertz, Tension}
use Rattle.sheet.specs.declared.Loss.{Loss}
use Rattle.sheet.specs.declared.Loss.TheVariants.{PerSecond, Seconds}
use Rattle.sheet.specs.declared.Sheet.{Sheet}
use Rattle.sheet.specs.declared.coefficients.Coefficients.{Coefficients}

infixl 70 ◌·◌ ◌÷◌
abbrev ◌·◌ : Float → Float → Float
x · y = mul binary64 x y

abbrev ◌÷◌ : Float → Float → Float
x ÷ y = div binary64 x y

-- the f64 nearest to n / d
abbrev pub nearest_float : ℕ → ℕ → Float
nearest_float n d = round binary64 false n d

-- "Hertz f: z = ((2·f)·g)/rate, R = z·z. Tension: R = ((tension/density)/(rate·rate))/(h·h)."
abbrev pub courant_squared : (g h rate : Float) → Speed → Float
courant_squared g h rate (Hertz f) = let z = ((nearest_float 2 1 · f) · g) ÷ rate in z · z
courant_squared g h rate (Tension tension density) = ((tension ÷ density) ÷ (rate · rate)) ÷ (h · h)

-- "μ² = ((bending/(rate·rate))/(h·h))/(h·h)"
abbrev pub stiffness : (h rate bending : Float) → Float
stiffness h rate bending = ((bending ÷ (rate · rate)) ÷ (h · h)) ÷ (h · h)

-- "Loss per second: σ/rate; seconds T: σ = 6.907755278982137/T."
abbrev pub loss_per_step : (rate : Float) → Loss → Float
loss_per_step rate (PerSecond sigma) = sigma ÷ rate
loss_per_step rate (Seconds seconds) = (nearest_float 6907755278982137 (10 ^ 15) ÷ seconds) ÷ rate

-- "With g = columns − 1 as f64 and h = length/g"; "Each result times 65536 becomes the nearest whole number"
unfoldable pub coefficients : (columns : ℕ) → Sheet → Coefficients
coefficients columns s =
    let g = of_int binary64 (pos (columns - 1)) in
    let h = s.length ÷ g in
    record {
      q = nearest_whole (courant_squared g h s.rate s.speed);
      m = nearest_whole (stiffness h s.rate s.bending);
      s = nearest_whole (loss_per_step s.rate s.loss);
    }

-- 4 "A coefficient that after rounding is not in 0..65536 (not-a-number included)"
abbrev pub some_outside : Coefficients → Bool
some_outside c = is_none c.q || is_none c.m || is_none c.s

-- what they set, each 0 where there is none
abbrev pub settings_of : Coefficients → Settings
settings_of c = record { q = unwrap_or c.q 0; m = unwrap_or c.m 0; s = unwrap_or c.s 0 }
