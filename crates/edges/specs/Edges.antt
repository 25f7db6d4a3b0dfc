-- The moving points of every row, kept in one list. Vocabulary between the engine's crates: no call that a maker embeds cites it.
use Rattle.std.specs.Prelude.{Bool, cond, ◌&&◌, List, ℕ, ◌+◌, ◌-◌, ◌*◌, ◌%◌, ltb, length, get_or}
use Rattle.types.specs.declared.Grid.{Grid}
use Rattle.scheme.specs.Lists.{tabulate}
use Rattle.kinds.specs.declared.runs.Run.{Run}
use Rattle.kinds.specs.Runs.{row_run}

-- the point in a column of a row, in 16 bits
abbrev pub point_at : (columns row column : ℕ) → ℕ
point_at columns row column = (row * columns + column) % 65536

-- one end of the run of a row, as a point
abbrev pub edge_of : Grid → (Run → ℕ) → (row : ℕ) → ℕ
edge_of g end row = point_at g.columns row (end (row_run g row))

-- what place k is for: the first moving point of row k, or from 64 on the point after the last of row k − 64
abbrev pub edge_at : Grid → ℕ → ℕ
edge_at g k = cond (ltb k 64) (edge_of g (λ run. run.from) k) (edge_of g (λ run. run.to) (k - 64))

-- place k is one of the 128 of a row of the grid
abbrev pub has_edge : Grid → ℕ → Bool
has_edge g k = ltb k 128 && ltb (k % 64) g.rows

-- the moving points of each row at its places; the rest of xs as it was
unfoldable pub edges_of : Grid → (xs : List ℕ) → List ℕ
edges_of g xs = tabulate (length xs) (λ k. cond (has_edge g k) (edge_at g k) (get_or xs k 0))
