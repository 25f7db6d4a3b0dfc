-- The sums of neighbours of a plate, kept from row to row. Vocabulary of private functions.
use Rattle.std.specs.Prelude.{◌≡◌, Bool, not, List, ◌⊎◌, ℕ, ◌+◌, ◌-◌, ◌*◌, ◌≤◌, ◌<◌, ℤ, pos, nat_abs, ◌+ℤ◌, length}
use Rattle.types.specs.declared.Grid.{Grid}
use Rattle.types.specs.Numbers.{ceiling}
use Rattle.scheme.specs.Lists.{point}
use Rattle.scheme.specs.Instruments.{moving}
use Rattle.stretches.specs.declared.Stretch.{Stretch}
use Rattle.stretches.specs.Pieces.{base_of}
use Rattle.steps.specs.declared.plates.SumRows.{SumRows}
use Rattle.steps.specs.Plan.{AtMost, inner_sum}
use Rattle.steps.specs.Run.{Moves}

-- the sums of the row that begins at point `start` stand from `place` on
pub record SumRow (g : Grid) (newer sums : List ℤ) (start place : ℕ) : Type 0 where
  pub room : place + g.columns ≤ length sums
  pub each : (c : ℕ) → c < g.columns → point sums (place + c) ≡ inner_sum g (point newer) (start + c)

-- the sums stand where r says, with the points of the row before `at` done, and each is small
pub record TwoRows (g : Grid) (newer sums : List ℤ) (r : SumRows) (at : ℕ) : Type 0 where
  pub high : g.columns ≤ r.start
  pub here : SumRow g newer sums r.start r.here
  pub room : r.other + g.columns ≤ length sums
  pub apart : (r.here + g.columns ≤ r.other) ⊎ (r.other + g.columns ≤ r.here)
  pub above : (c : ℕ) → at ≤ r.start + c → c < g.columns
      → point sums (r.other + c) ≡ inner_sum g (point newer) (r.start - g.columns + c)
  pub below : (c : ℕ) → r.start + c < at → point sums (r.other + c) ≡ inner_sum g (point newer) (r.start + g.columns + c)
  pub low : AtMost (4 * ceiling) (point sums)

-- moving points of the row, none of them at its ends; the points below them move where the row below is not the ring's
pub record InRow (g : Grid) (r : SumRows) (from to : ℕ) : Type 0 where
  pub grid : g.rows ≡ 1 → ⊥
  pub moves : Moves g from to
  pub first : r.start + 1 ≤ from
  pub last : to + 1 ≤ r.start + g.columns
  pub below : (k : ℕ) → from ≤ k → k < to → moving g (k + g.columns) ≡ not r.last

-- the moving points of the row that begins at `start`, without a force
abbrev pub moving_in : (start columns : ℕ) → (write inPlace : Bool) → Stretch
moving_in start columns write inPlace =
    record { from = start + 1; to = start + (columns - 1); force = pos 0; base = base_of inPlace (start + 1); write = write }

-- ---- the sum of the sums around a point

-- the places that it is read from
pub record Readable (sums : List ℤ) (r : SumRows) (c : ℕ) (below : ℤ) : Type 0 where
  pub some : 1 ≤ c
  pub here : r.here + c + 1 < length sums
  pub other : r.other + c < length sums
  pub low : AtMost (4 * ceiling) (point sums)
  pub below_low : nat_abs below ≤ 4 * ceiling

-- at column c
abbrev pub second_at : List ℤ → SumRows → (c : ℕ) (below : ℤ) → ℤ
second_at sums r c below = point sums (r.here + c - 1) +ℤ point sums (r.here + c + 1) +ℤ point sums (r.other + c) +ℤ below
