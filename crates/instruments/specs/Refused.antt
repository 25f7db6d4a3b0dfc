-- A length, of any grid. Vocabulary between the engine's crates: no call that a maker embeds cites it.
use Rattle.std.specs.Prelude.{Bool, not, ℕ, eqb}
use Rattle.types.specs.declared.Grid.{Grid}
use Rattle.sizes.specs.Sizes.{points_of}

-- 6, of n points: `wrong_length` where the table has the size (`long_is`); where it has not, 1 or 2 answers
abbrev pub not_long : Grid → ℕ → Bool
not_long g n = not (eqb n (points_of g))
