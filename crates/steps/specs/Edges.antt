-- The moving points of every row, kept in one list. Vocabulary of private functions.
use Rattle.std.specs.Prelude.{◌≡◌, List, ℕ, ◌+◌, ◌*◌, ◌<◌, get_or}
use Rattle.types.specs.declared.Grid.{Grid}
use Rattle.kinds.specs.Runs.{run_of}

-- every row of the grid has its moving points there: the first, and 64 places on the point after the last
pub record EdgesOf (g : Grid) (edges : List ℕ) : Type 0 where
  pub from_is : (row : ℕ) → row < g.rows → get_or edges row 0 ≡ row * g.columns + (run_of g row).from
  pub to_is : (row : ℕ) → row < g.rows → get_or edges (64 + row) 0 ≡ row * g.columns + (run_of g row).to
