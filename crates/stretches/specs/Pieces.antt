-- The pieces of a row: where one ends, and where its values begin. Vocabulary between the engine's crates: no call that a maker
-- embeds cites it.
use Rattle.std.specs.Prelude.{Bool, cond, ℕ, ◌+◌, ◌-◌, ltb, pos}
use Rattle.stretches.specs.declared.Stretch.{Stretch}

-- the most points of a piece of a row: a row of a grid has no more
abbrev pub piece : ℕ
piece = 64

-- the end of the piece at `at`, of points as far as `to` (`piece-ends`)
abbrev pub piece_end : (inPlace : Bool) → (at to : ℕ) → ℕ
piece_end inPlace at to = cond inPlace (cond (ltb (to - at) piece) to (at + piece)) to

-- the point whose value goes to place 0 of out: in place the first of a piece
abbrev pub base_of : (inPlace : Bool) → ℕ → ℕ
base_of inPlace first = cond inPlace first 0

-- the piece at `at`, of points as far as `to`, without a force
abbrev pub piece_at : (inPlace : Bool) → (at to : ℕ) → (write : Bool) → Stretch
piece_at inPlace at to write =
    record { from = at; to = piece_end inPlace at to; force = pos 0; base = base_of inPlace at; write = write }
