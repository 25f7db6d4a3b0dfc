-- How many points a grid has. Vocabulary between the engine's crates: no call that a maker embeds cites it.
use Rattle.std.specs.Prelude.{cond, ℕ}
use Rattle.types.specs.declared.Grid.{Grid}
use Rattle.scheme.specs.Instruments.{points, in_table}

-- columns × rows, where the table has the size
abbrev pub points_of : Grid → ℕ
points_of g = cond (in_table g) (points g) 0
