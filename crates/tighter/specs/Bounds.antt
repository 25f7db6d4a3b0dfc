-- The bounds on the distance as numbers: demand 3's, and those that hold for a whole cue.
-- Σ stands for the squared distances summed, a free end counted half; N for the points.
use Rattle.std.specs.Prelude.{ℕ, suc, ◌+◌, ◌-◌, ◌*◌, ◌≤◌, ℤ, pos, ◌*ℤ◌}
use Rattle.types.specs.declared.Grid.{Grid}
use Rattle.types.specs.declared.Instrument.{Instrument}
use Rattle.types.specs.Numbers.{D}
use Rattle.scheme.specs.Lists.{square}
use Rattle.types.specs.declared.Kind.{Kind}
use Rattle.types.specs.declared.Kind.TheVariants.{Unknown, StringFixed, StringFixedFree, StringFree, Bar, MembraneRectangular, MembraneRound, Plate}
use Rattle.scheme.specs.Instruments.{kind, points}
use Rattle.scheme.specs.Step.{divisor}
use Rattle.scheme.specs.Book.{scale}

-- ---- what holds a level

-- Poincaré's inequality: a row of a steps that is 0 at both ends has 48 × Σ c² ≤ span a × Σ (difference)²
unfoldable pub span : ℕ → ℕ
span a = 5 * (a * a) + 4

-- what is fixed: nothing, both ends of a row of a steps, or all round a grid of a steps across and b down
pub data Edge : Type 0 where
  no_edge : Edge
  both_ends : (a : ℕ) → Edge
  all_round : (a b : ℕ) → Edge

-- a row with one end free counts as half of a row twice as long, its mirror image the other half
unfoldable pub edge_in : Kind → (a b : ℕ) → Edge
edge_in Unknown a b = no_edge
edge_in StringFixed a b = both_ends a
edge_in StringFixedFree a b = both_ends (2 * a)
edge_in StringFree a b = no_edge
edge_in Bar a b = both_ends a
edge_in MembraneRectangular a b = all_round a b
edge_in MembraneRound a b = all_round a b
edge_in Plate a b = all_round a b

-- a grid has a step less across than it has columns, and a step less down than rows
abbrev pub edge : Grid → Edge
edge g = edge_in (kind g) (g.columns - 1) (g.rows - 1)

-- an edge holds a level c that is 0 at fixed points: 2 × grip × Σ c² ≤ reach × Σ over the pairs of (difference)², a free end counted half
unfoldable pub grip : Edge → ℕ
grip no_edge = 0
grip (both_ends a) = 24
grip (all_round a b) = 24 * (span a + span b)

-- a grid has its rows' inequality times span b, and its columns' times span a, added
unfoldable pub reach : Edge → ℕ
reach no_edge = 1
reach (both_ends a) = span a
reach (all_round a b) = span a * span b

-- two numbers of an instrument: hold × the squares of its levels ≤ far × D × their energy
pub record Holding : Type 0 where
  pub hold : Instrument → ℕ
  pub far : Instrument → ℕ

-- q with grip and reach
abbrev pub by_tension : Holding
by_tension = record { hold = λ i. grip (edge i.grid) * i.settings.q; far = λ i. reach (edge i.grid) }

-- 2m with their squares
abbrev pub by_stiffness : Holding
by_stiffness = record {
  hold = λ i. grip (edge i.grid) * grip (edge i.grid) * (2 * i.settings.m);
  far = λ i. reach (edge i.grid) * reach (edge i.grid);
}

-- ---- the bounds

-- of n steps of the instruments that it covers: k × Σ ≤ y × N × r², which says something where k is above 0
pub record Bound : Type 1 where
  pub Covers : Instrument → Type 0
  pub k : Instrument → (n : ℕ) → ℕ
  pub y : Instrument → (n : ℕ) → ℕ
  pub r : Instrument → (n : ℕ) → ℕ

-- y × N × r², doubled and times (D+s)²ⁿ as `distance` is
abbrev pub limit : Bound → Instrument → (n : ℕ) → ℤ
limit b i n = pos (b.y i n * (2 * points i.grid)) *ℤ (square (pos (b.r i n)) *ℤ square (scale i.settings n))

-- the distance itself grows no faster than n: 4 × hold × Σ ≤ far × D × N × n²
abbrev pub linear_by : Holding → Bound
linear_by H = record { Covers = λ i. Unit {0}; k = λ i n. 4 * H.hold i; y = λ i n. H.far i * D; r = λ i n. n }

-- with loss and a fixed edge no number of steps takes the distance further; one of the next two always covers an instrument.
-- 4 × s² × hold × Σ ≤ far × D × N × (D+s)², where far × s² ≤ hold × D
abbrev pub for_ever_by : Holding → Bound
for_ever_by H = record {
  Covers = λ i. H.far i * (i.settings.s * i.settings.s) ≤ H.hold i * D;
  k = λ i n. 4 * (i.settings.s * i.settings.s * H.hold i);
  y = λ i n. H.far i * D;
  r = λ i n. divisor i.settings;
}

-- hold² × Σ ≤ 4 × far² × N × (D+s)², where hold × D ≤ far × s²
abbrev pub heavy_loss_by : Holding → Bound
heavy_loss_by H = record {
  Covers = λ i. H.hold i * D ≤ H.far i * (i.settings.s * i.settings.s);
  k = λ i n. H.hold i * H.hold i;
  y = λ i n. 4 * (H.far i * H.far i);
  r = λ i n. divisor i.settings;
}

-- the bounds that are proved
pub data Row : Type 0 where
  demanded linear stiffLinear lossLinear forEver stiffForEver heavyLoss stiffHeavyLoss : Row

abbrev pub numbers : Row → Bound
-- `DistanceBound`: 16 × Σ ≤ N × n² × (n+1)²
numbers demanded = record { Covers = λ i. Unit {0}; k = λ i n. 16; y = λ i n. 1; r = λ i n. n * suc n }
numbers linear = linear_by by_tension
numbers stiffLinear = linear_by by_stiffness
-- linear by the loss alone, for every kind: 4 × s² × Σ ≤ (D+s)² × N × n²
numbers lossLinear = record {
  Covers = λ i. Unit {0};
  k = λ i n. 4 * (i.settings.s * i.settings.s);
  y = λ i n. divisor i.settings * divisor i.settings;
  r = λ i n. n;
}
numbers forEver = for_ever_by by_tension
numbers stiffForEver = for_ever_by by_stiffness
numbers heavyLoss = heavy_loss_by by_tension
numbers stiffHeavyLoss = heavy_loss_by by_stiffness
