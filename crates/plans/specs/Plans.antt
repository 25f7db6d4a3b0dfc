-- The factors of a step. Vocabulary between the engine's crates: no call that a maker embeds cites it.
use Rattle.std.specs.Prelude.{cond, ℕ, ◌+◌, ◌*◌, ◌/◌, eqb, pos, ◌-ℤ◌, ◌*ℤ◌}
use Rattle.types.specs.declared.Grid.{Grid}
use Rattle.types.specs.declared.Instrument.{Instrument}
use Rattle.types.specs.Numbers.{D, ceiling}
use Rattle.scheme.specs.Step.{divisor}
use Rattle.scheme.specs.Refusals.{wrong_coefficient}
use Rattle.plans.specs.declared.Plan.{Plan}

-- "two neighbours, or four": on a line, on a grid
abbrev pub count_of : Grid → ℕ
count_of g = cond (eqb g.rows 1) 2 4

-- no factors
abbrev pub no_factors : Instrument → Plan
no_factors i = record {
  instrument = i;
  own = pos 0;
  near = pos 0;
  kept = pos 0;
  m = pos 0;
  bend = pos 0;
  stiff = pos 0;
  divisor = 0;
  half = 0;
  limit = 0;
}

-- the factors by the settings
abbrev pub factors : Instrument → Plan
factors i = record {
  instrument = i;
  own = pos (2 * D) -ℤ pos (count_of i.grid) *ℤ pos i.settings.q;
  near = pos i.settings.q;
  kept = pos D -ℤ pos i.settings.s;
  m = pos i.settings.m;
  bend = pos 2 *ℤ pos (count_of i.grid) *ℤ pos i.settings.m;
  stiff = pos (count_of i.grid) *ℤ pos (count_of i.grid) *ℤ pos i.settings.m;
  divisor = divisor i.settings;
  half = divisor i.settings / 2;
  limit = (ceiling + 1) * divisor i.settings;
}

-- what a plan holds: of an instrument that refusal 4 lets pass the factors
abbrev pub plan_of : Instrument → Plan
plan_of i = cond (wrong_coefficient i.settings) (no_factors i) (factors i)
