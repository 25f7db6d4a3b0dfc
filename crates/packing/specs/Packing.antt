-- What C's numbers and flags stand for.
use Rattle.std.specs.Prelude.{cond, ℕ, eqb, Float, ℤ, Option, None}
use Rattle.types.specs.declared.Grid.{Grid}
use Rattle.types.specs.declared.Instrument.{Instrument}
use Rattle.types.specs.declared.Hit.{Hit}
use Rattle.types.specs.Numbers.{hit_at}
use Rattle.sheet.specs.declared.Speed.{Speed}
use Rattle.sheet.specs.declared.Speed.TheVariants.{Hertz, Tension}
use Rattle.sheet.specs.declared.Loss.{Loss}
use Rattle.sheet.specs.declared.Loss.TheVariants.{PerSecond, Seconds}
use Rattle.sheet.specs.declared.Sheet.{Sheet}

abbrev pub grid_of : (kind columns rows : ℕ) → Grid
grid_of kind columns rows = record { kind = kind; columns = columns; rows = rows }

abbrev pub instrument_of : (kind columns rows q m s : ℕ) → Instrument
instrument_of kind columns rows q m s = record { grid = grid_of kind columns rows; settings = record { q = q; m = m; s = s } }

-- a flag of 0: no hit
abbrev pub hit_of : (hit point : ℕ) → ℤ → Option Hit
hit_of hit point force = cond (eqb hit 0) None (hit_at point force)

-- a flag of 0: the speed is in hertz, and the density plays no part
abbrev pub speed_of : (by_tension : ℕ) → (speed density : Float) → Speed
speed_of by_tension speed density = cond (eqb by_tension 0) (Hertz speed) (Tension speed density)

-- a flag of 0: the loss is per second
abbrev pub loss_of : (bySeconds : ℕ) → Float → Loss
loss_of bySeconds loss = cond (eqb bySeconds 0) (PerSecond loss) (Seconds loss)

abbrev pub sheet_of : (rate length bending : Float) → ℕ → (speed density : Float) → ℕ → Float → Sheet
sheet_of rate length bending by_tension speed density bySeconds loss = record {
  rate = rate;
  length = length;
  bending = bending;
  speed = speed_of by_tension speed density;
  loss = loss_of bySeconds loss;
}
