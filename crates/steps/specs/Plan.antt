-- The factors of a step, and the levels that it works on. Vocabulary of private functions.
use Rattle.std.specs.Prelude.{◌≡◌, true, false, cond, List, ℕ, ◌*◌, ◌≤◌, ℤ, pos, nat_abs, ◌+ℤ◌, ◌-ℤ◌, ◌*ℤ◌, length}
use Rattle.integers.specs.Sum.{sum_over}
use Rattle.types.specs.declared.Grid.{Grid}
use Rattle.types.specs.declared.Instrument.{Instrument}
use Rattle.types.specs.declared.Settings.{Settings}
use Rattle.types.specs.Numbers.{D, ceiling}
use Rattle.scheme.specs.Lists.{point}
use Rattle.scheme.specs.Instruments.{points, moving}
use Rattle.scheme.specs.Step.{neighbours, biharmonic}
use Rattle.scheme.specs.Passing.{InstrumentPasses}
use Rattle.plans.specs.declared.Plan.{Plan}
use Rattle.plans.specs.Plans.{factors}

-- every value is at most B
abbrev pub AtMost : ℕ → (ℕ → ℤ) → Type 0
AtMost B a = (k : ℕ) → nat_abs (a k) ≤ B

-- the sum of a point's neighbours, 0 where nothing moves
unfoldable pub inner_sum : Grid → (ℕ → ℤ) → ℕ → ℤ
inner_sum g a k = cond (moving g k) (sum_over (neighbours g k) a) (pos 0)

-- L of L by sums, of c neighbours each: of the neighbours, of their sums, and the point itself
abbrev pub bending_of : (c sum second u : ℤ) → ℤ
bending_of c sum second u = second -ℤ pos 2 *ℤ c *ℤ sum +ℤ c *ℤ c *ℤ u

-- the numerator of "One step", with the stiffness m × B in one number
abbrev pub numerator_with : Settings → (u l stiff p f : ℤ) → ℤ
numerator_with c u l stiff p f = pos (2 * D) *ℤ u +ℤ pos c.q *ℤ l -ℤ stiff -ℤ (pos D -ℤ pos c.s) *ℤ p +ℤ pos D *ℤ f

-- an instrument that passes, and its factors
pub record Planned (p : Plan) : Type 0 where
  pub passes : InstrumentPasses p.instrument
  pub is : p ≡ factors p.instrument

-- off a line there is no stiffness: every kind but a plate
abbrev pub SoftGrid : Instrument → Type 0
SoftGrid i = (i.grid.rows ≡ 1 → ⊥) → i.settings.m ≡ 0

-- what m·B is made of
pub record Bendable (p : Plan) (second sum u : ℤ) : Type 0 where
  pub second_low : nat_abs second ≤ 16 * ceiling
  pub sum_low : nat_abs sum ≤ 4 * ceiling
  pub u_low : nat_abs u ≤ ceiling
  pub second_part : nat_abs (p.m *ℤ second) ≤ D * ceiling
  pub sum_part : nat_abs (p.bend *ℤ sum) ≤ 2 * D * ceiling

-- what a point's numerator is made of: stiff is m·B. No sum of it passes 2⁶³
pub record Updatable (p : Plan) (u sum old f stiff : ℤ) : Type 0 where
  pub u_low : nat_abs u ≤ ceiling
  pub sum_low : nat_abs sum ≤ 4 * ceiling
  pub older_low : nat_abs old ≤ ceiling
  pub f_low : nat_abs f ≤ ceiling
  pub near_part : nat_abs (p.near *ℤ sum) ≤ 2 * D * ceiling
  pub stiff_low : nat_abs stiff ≤ 4 * D * ceiling

-- levels of the grid, and a force, within the ceiling; newer is 0 where nothing moves
pub record Ready (p : Plan) (f : ℤ) (older newer : List ℤ) : Type 0 where
  pub planned : Planned p
  pub older_long : length older ≡ points p.instrument.grid
  pub newer_long : length newer ≡ points p.instrument.grid
  pub older_low : AtMost ceiling (point older)
  pub newer_low : AtMost ceiling (point newer)
  pub newer_still : (k : ℕ) → moving p.instrument.grid k ≡ false → point newer k ≡ pos 0
  pub f_low : nat_abs f ≤ ceiling

-- a moving point, the sum of its neighbours, and the sum of their sums
pub record Summed (g : Grid) (newer : List ℤ) (k : ℕ) (sum second : ℤ) : Type 0 where
  pub moves : moving g k ≡ true
  pub sum_is : sum ≡ sum_over (neighbours g k) (point newer)
  pub second_is : second ≡ sum_over (neighbours g k) (inner_sum g (point newer))

-- a moving point, the sum of its neighbours, and the stiffness m·B
pub record Neighbouring (i : Instrument) (newer : List ℤ) (k : ℕ) (sum stiff : ℤ) : Type 0 where
  pub moves : moving i.grid k ≡ true
  pub sum_is : sum ≡ sum_over (neighbours i.grid k) (point newer)
  pub stiff_is : stiff ≡ pos i.settings.m *ℤ biharmonic i.grid (point newer) k
