-- "One step".
use Rattle.std.specs.Prelude.{◌≡◌, Bool, true, cond, not, ◌&&◌, List, ◌++◌, ℕ, suc, ◌+◌, ◌-◌, ◌*◌, ◌/◌, ◌%◌, ◌^◌, ◌≤◌, ◌<◌, ltb, eqb, Float}
use Rattle.std.specs.Prelude.{ℤ, pos, negsuc, neg_ℤ, nat_abs, ◌+ℤ◌, ◌-ℤ◌, ◌*ℤ◌, length, Option, Some, None}
use Rattle.std.specs.Float.{binary64}
use Rattle.std.specs.Float.Ieee.{of_int, div}
use Rattle.integers.specs.Sum.{sum_over}
use Rattle.types.specs.declared.Settings.{Settings}
use Rattle.types.specs.declared.Grid.{Grid}
use Rattle.types.specs.declared.Instrument.{Instrument}
use Rattle.types.specs.declared.Hit.{Hit}
use Rattle.types.specs.Numbers.{D, ceiling}
use Rattle.scheme.specs.Lists.{tabulate, point, some_below, count_below, only}
use Rattle.scheme.specs.Instruments.{beyond, points, column, row, moving, free_end}

-- the points beside i in its grid: left, right, above, below
unfoldable pub beside : Grid → ℕ → List ℕ
beside g i =
    only (ltb 0 (column g i)) (i - 1) ++ (only (ltb (column g i + 1) g.columns) (i + 1) ++
    (only (ltb 0 (row g i)) (i - g.columns) ++ only (ltb (row g i + 1) g.rows) (i + g.columns)))

-- "At a free end L is twice (the one neighbour minus u)": a free end has its one neighbour twice
unfoldable pub neighbours : Grid → ℕ → List ℕ
neighbours g i = cond (free_end g i) (beside g i ++ beside g i) (beside g i)

-- "L is the sum of the neighbours minus their count times u (two neighbours, or four)"
unfoldable pub laplacian : Grid → (ℕ → ℤ) → ℕ → ℤ
laplacian g a i = sum_over (neighbours g i) a -ℤ pos (length (neighbours g i)) *ℤ a i

-- "L counts as 0 at the supported ends", "with L counted 0 on the outer ring" of a plate: L as a level, 0 where nothing moves
unfoldable pub inner_laplacian : Grid → (ℕ → ℤ) → ℕ → ℤ
inner_laplacian g a i = cond (moving g i) (laplacian g a i) (pos 0)

-- "B is L taken of L", "on the grid" too
abbrev pub biharmonic : Grid → (ℕ → ℤ) → ℕ → ℤ
biharmonic g a i = laplacian g (inner_laplacian g a) i

-- "the numerator is 2D × u + q × L − m × B − (D−s) × p + D × f"
abbrev pub numerator_of : Settings → (u l b p f : ℤ) → ℤ
numerator_of c u l b p f = pos (2 * D) *ℤ u +ℤ pos c.q *ℤ l -ℤ pos c.m *ℤ b -ℤ (pos D -ℤ pos c.s) *ℤ p +ℤ pos D *ℤ f

-- "with u newer and p older": at point k
unfoldable pub numerator : Instrument → (newer older force : ℕ → ℤ) → ℕ → ℤ
numerator i newer older force k = numerator_of i.settings (newer k) (laplacian i.grid newer k) (biharmonic i.grid newer k) (older k)
    (force k)

-- n / d to the nearest, halves up
abbrev pub nearest : ℕ → ℕ → ℕ
nearest n d = (2 * n + d) / (2 * d)

-- "rounded to nearest, halves away from zero"
unfoldable pub round_away : ℤ → ℕ → ℤ
round_away (pos n) d = pos (nearest n d)
round_away (negsuc n) d = neg_ℤ (pos (nearest (suc n) d))

-- "f is the hit's force in units at the hit point, else 0"
abbrev pub force_of : Option Hit → ℕ → ℤ
force_of None k = pos 0
force_of (Some h) k = cond (eqb k h.point) h.force (pos 0)

-- "divided by D+s"
abbrev pub divisor : Settings → ℕ
divisor c = D + c.s

-- "For each moving point .. the numerator .. divided by D+s and rounded"; "Fixed points remain 0"
unfoldable pub next_at : Instrument → Option Hit → (older newer : List ℤ) → ℕ → ℤ
next_at i h older newer k = cond (moving i.grid k)
    (round_away (numerator i (point newer) (point older) (force_of h) k) (divisor i.settings)) (pos 0)

unfoldable pub next_level : Instrument → Option Hit → (older newer : List ℤ) → List ℤ
next_level i h older newer = tabulate (points i.grid) (next_at i h older newer)

-- ---- what rounding leaves

-- "its remainder (numerator less whole number × (D+s))"
abbrev pub remainder_of : ℤ → ℕ → ℤ
remainder_of n d = n -ℤ round_away n d *ℤ pos d

-- "a multiple of D+s"
abbrev pub is_multiple : ℤ → ℕ → Bool
is_multiple n d = eqb (nat_abs n % d) 0

-- The remainder is at most half of the divisor; a multiple is some whole number of divisors, and exactly then the remainder is 0.
pub record RemainderRule (n : ℤ) (d : ℕ) : Type 0 where
  pub small : 2 * nat_abs (remainder_of n d) ≤ d
  pub none : is_multiple n d ≡ true → remainder_of n d ≡ pos 0
  pub whole : remainder_of n d ≡ pos 0 → n ≡ round_away n d *ℤ pos d
  pub multiple : (w : ℤ) → n ≡ w *ℤ pos d → is_multiple n d ≡ true

-- of every number and every divisor; proved as `remainder_rule`
abbrev pub RemaindersKeepRule : Type 0
RemaindersKeepRule = (n : ℤ) (d : ℕ) → 0 < d → RemainderRule n d

-- "moving points whose numerator was not a multiple of D+s"
unfoldable pub inexact_at : Instrument → Option Hit → (older newer : List ℤ) → ℕ → Bool
inexact_at i h older newer k = moving i.grid k
    && not (is_multiple (numerator i (point newer) (point older) (force_of h) k) (divisor i.settings))

-- "the step and every block give the count": a step
unfoldable pub inexact_in : Instrument → Option Hit → (older newer : List ℤ) → ℕ
inexact_in i h older newer = count_below (points i.grid) (inexact_at i h older newer)

-- ---- the ceiling, and the reading

-- some point of a level lies beyond the ceiling
unfoldable pub some_beyond : List ℤ → Bool
some_beyond xs = some_below (length xs) (λ k. beyond (point xs k))

-- "The sample is newer at the pick-up point divided by 2²⁸"; "From now on the sample is the nearest whole number, halves away from zero":
-- of that point's value, rounded as a step is.
unfoldable pub sample_of : ℤ → ℤ
sample_of z = round_away z (2 ^ 28)

-- A sample lies within half a sample unit of the point; up and down are alike; "a few units" above or below zero are silent; within the
-- ceiling "an i16" holds it, and "The ceiling still maps to 32767". Proved as `sample_rule`.
pub record SampleRule : Type 0 where
  pub near : (z : ℤ) → 2 * nat_abs (pos (2 ^ 28) *ℤ sample_of z -ℤ z) ≤ 2 ^ 28
  pub odd : (z : ℤ) → sample_of (neg_ℤ z) ≡ neg_ℤ (sample_of z)
  pub silent : (z : ℤ) → nat_abs z < 2 ^ 27 → sample_of z ≡ pos 0
  pub fits : (z : ℤ) → nat_abs z ≤ ceiling → nat_abs (sample_of z) ≤ 32767
  pub highest : sample_of (pos ceiling) ≡ pos 32767
  pub lowest : sample_of (neg_ℤ (pos ceiling)) ≡ neg_ℤ (pos 32767)

-- "The same reading as a float is the point converted to f64 and divided once by 2⁴³."
unfoldable pub float_of : ℤ → Float
float_of z = div binary64 (of_int binary64 z) (of_int binary64 (pos (2 ^ 43)))
