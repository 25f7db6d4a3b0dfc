-- "Energy and distance": the energy, in whole numbers. Every sum of the paper is doubled, so that the half at a free end is whole.
use Rattle.std.specs.Prelude.{cond, List, ◌++◌, ℕ, ◌+◌, ◌*◌, ltb, ℤ, pos, ◌+ℤ◌, ◌-ℤ◌, ◌*ℤ◌}
use Rattle.integers.specs.Sum.{sum, sum_over}
use Rattle.types.specs.declared.Grid.{Grid}
use Rattle.types.specs.declared.Instrument.{Instrument}
use Rattle.types.specs.Numbers.{D}
use Rattle.scheme.specs.Lists.{only, square}
use Rattle.scheme.specs.Instruments.{points, column, row, free_end}
use Rattle.scheme.specs.Step.{inner_laplacian}

-- "In the first sum a free end counts half": doubled, 1 at a free end and 2 elsewhere
unfoldable pub weight : Grid → ℕ → ℕ
weight g k = cond (free_end g k) 1 2

-- twice "the sum of (a−b)²"
unfoldable pub squares : Grid → (a b : ℕ → ℤ) → ℤ
squares g a b = sum (points g) (λ k. pos (weight g k) *ℤ square (a k -ℤ b k))

-- the points beside k that come after it: each neighbouring pair once
unfoldable pub later : Grid → ℕ → List ℕ
later g k = only (ltb (column g k + 1) g.columns) (k + 1) ++ only (ltb (row g k + 1) g.rows) (k + g.columns)

-- "the sum over neighbouring pairs of (difference in a) × (difference in b)"; "Pairs include fixed points."
unfoldable pub pair_sum : Grid → (a b : ℕ → ℤ) → ℤ
pair_sum g a b = sum (points g) (λ k. sum_over (later g k) (λ j. (a j -ℤ a k) *ℤ (b j -ℤ b k)))

-- "the sum of L(a) × L(b)"
unfoldable pub laplacian_sum : Grid → (a b : ℕ → ℤ) → ℤ
laplacian_sum g a b = sum (points g) (λ k. inner_laplacian g a k *ℤ inner_laplacian g b k)

-- "The energy of newer a and older b is the sum of (a−b)²,
-- plus R × the sum over neighbouring pairs .., plus μ² × the sum of L(a) × L(b)": times 2D
unfoldable pub energy : Instrument → (a b : ℕ → ℤ) → ℤ
energy i a b =
    pos D *ℤ squares i.grid a b +ℤ pos (2 * i.settings.q) *ℤ pair_sum i.grid a b
    +ℤ pos (2 * i.settings.m) *ℤ laplacian_sum i.grid a b
