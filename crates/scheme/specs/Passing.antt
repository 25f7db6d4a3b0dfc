-- What it says that no refusal applies. Vocabulary of proofs and of private functions: no promise of a public function cites it.
use Rattle.std.specs.Prelude.{◌≡◌, Bool, true, false, List, ℕ, ◌<◌, ℤ, Option, Ok}
use Rattle.types.specs.declared.Grid.{Grid}
use Rattle.types.specs.declared.Instrument.{Instrument}
use Rattle.types.specs.declared.Hit.{Hit}
use Rattle.scheme.specs.Instruments.{beyond, kind, points, within, size_in, stable_in, moving}
use Rattle.scheme.specs.Refusals.{last_plucked, wrong_coefficient, not_moving, too_strong, wrong_width, instrument_refusal}
use Rattle.scheme.specs.Claims.{LevelPasses}

-- 1, 2, 4 and 5 have failed
pub record InstrumentPasses (i : Instrument) : Type 0 where
  pub size : size_in (kind i.grid) i.grid.columns i.grid.rows ≡ true
  pub coefficients : wrong_coefficient i.settings ≡ false
  pub stable : stable_in (kind i.grid) i.settings.q i.settings.m ≡ true

-- each of a block's tests 1 to 12 has failed
pub record BlockPasses (i : Instrument) (older newer : List ℤ) (wrong : Bool) (pick : ℕ) (h : Option Hit) : Type 0 where
  pub instrument : instrument_refusal i ≡ Ok tt
  pub older_passes : LevelPasses i.grid older
  pub newer_passes : LevelPasses i.grid newer
  pub rest_right : wrong ≡ false
  pub hit_moving : not_moving i.grid h ≡ false
  pub hit_low : too_strong h ≡ false
  pub pick_in : pick < points i.grid

-- each of a pluck's tests has failed
pub record PluckPasses (g : Grid) (older newer c w : ℕ) (a : ℤ) : Type 0 where
  pub kind_in : within 1 last_plucked g.kind ≡ true
  pub size : size_in (kind g) g.columns g.rows ≡ true
  pub older_long : older ≡ points g
  pub newer_long : newer ≡ points g
  pub centre_moving : moving g c ≡ true
  pub height_low : beyond a ≡ false
  pub width_in : wrong_width g w ≡ false

-- each of a reading's tests has failed
pub record ReadingPasses (g : Grid) (newer : List ℤ) (pick : ℕ) : Type 0 where
  pub newer_passes : LevelPasses g newer
  pub pick_in : pick < points g
