-- What the ten numbers of a line stand for.
use Rattle.std.specs.Prelude.{Bool, ◌&&◌, cond, Option, Result, Ok, Err, ℕ, ltb}
use Rattle.types.specs.declared.Grid.{Grid}
use Rattle.types.specs.declared.Instrument.{Instrument}
use Rattle.types.specs.declared.Hit.{Hit}
use Rattle.types.specs.declared.Refusal.{Refusal}
use Rattle.types.specs.declared.Refusal.TheVariants.{WrongSize}
use Rattle.types.specs.Numbers.{hit_at}
use Rattle.scheme.specs.Instruments.{within, points}
use Rattle.scheme.specs.Refusals.{last_kind}
use Rattle.ring_line.specs.declared.asked.Numbers.{Numbers}
use Rattle.ring_setup.specs.declared.Setup.{Setup}

abbrev pub grid_of : Numbers → Grid
grid_of n = record { kind = n.kind; columns = n.columns; rows = n.rows }

abbrev pub asked_instrument : Numbers → Instrument
asked_instrument n = record { grid = grid_of n; settings = record { q = n.q; m = n.m; s = n.s } }

-- "always gives the hit, force 0 too"
abbrev pub asked_hit : Numbers → Option Hit
asked_hit n = hit_at n.point n.force

-- "A known kind with more than 1024 points"
abbrev pub is_too_large : Grid → Bool
is_too_large g = within 1 last_kind g.kind && ltb 1024 (points g)

-- ---- what `set_up` answers: vocabulary between the crates of `ring`

abbrev pub level_length : Grid → ℕ
level_length g = cond (ltb 1024 (points g)) 0 (points g)

-- the levels' length, or the refusal that `done 0 2` tells of a grid that is too large
abbrev pub lent_length : Grid → Result ℕ Refusal
lent_length g = cond (is_too_large g) (Err WrongSize) (Ok (level_length g))

-- what the block is called with; instrument and hit are told of a grid that is too large, too
abbrev pub setup_of : Numbers → Setup
setup_of n = record { instrument = asked_instrument n; hit = asked_hit n; length = lent_length (grid_of n) }
