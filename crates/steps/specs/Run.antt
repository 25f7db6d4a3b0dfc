-- Runs of points, the list that their values are put into, and how many of them are inexact. Vocabulary of private functions.
use Rattle.std.specs.Prelude.{Option, Some, None, ◌≡◌, Bool, true, false, cond, not, ◌&&◌, List, [], ◌∷◌, ◌⊎◌, ℕ, ◌+◌, ◌-◌, ◌≤◌, ◌<◌, ℤ}
use Rattle.std.specs.Prelude.{pos, ◌+ℤ◌, length}
use Rattle.types.specs.declared.Grid.{Grid}
use Rattle.types.specs.declared.Instrument.{Instrument}
use Rattle.types.specs.declared.Hit.{Hit}
use Rattle.scheme.specs.Lists.{point, count_below}
use Rattle.scheme.specs.Instruments.{beyond, points, at_edge, moving}
use Rattle.scheme.specs.Step.{neighbours, numerator, round_away, divisor, next_at, is_multiple, inexact_at}
use Rattle.plans.specs.declared.Plan.{Plan}
use Rattle.stretches.specs.declared.Stretch.{Stretch}
use Rattle.steps.specs.Plan.{Neighbouring}

-- what a step makes of a point: its next value, and whether its numerator is no multiple of the divisor
pub record Next : Type 0 where
  pub value : ℤ
  pub inexact : Bool

-- by the numerator n and the divisor d
abbrev pub next_over : ℤ → ℕ → Next
next_over n d = record { value = round_away n d; inexact = not (is_multiple n d) }

-- of point k with the force f there, moving or not
unfoldable pub next_by : Instrument → ℤ → (older newer : List ℤ) → ℕ → Next
next_by i f older newer k = next_over (numerator i (point newer) (point older) (λ j. f) k) (divisor i.settings)

-- of point k by the definitions, with the forces of a hit
abbrev pub next_of : Instrument → Option Hit → (older newer : List ℤ) → ℕ → Next
next_of i h older newer k = record { value = next_at i h older newer k; inexact = inexact_at i h older newer k }

-- ---- what a run answers: n, where every value lies within the ceiling and n of those written are inexact

abbrev pub all_within : Option ℕ → Bool
all_within (Some n) = true
all_within None = false

abbrev pub inexact_of : Option ℕ → ℕ
inexact_of (Some n) = n
inexact_of None = 0

-- ---- what the loops keep

-- the values v of the points from..to stand in out, point k at place k − base, if they are written; every other place of out is as it was
pub record Filled (v : ℕ → ℤ) (write : Bool) (base : ℕ) (out₀ out : List ℤ) (from to : ℕ) : Type 0 where
  pub long : length out ≡ length out₀
  pub written : write ≡ true → (k : ℕ) → from ≤ k → k < to → point out (k - base) ≡ v k
  pub kept : (j : ℕ) → (write ≡ false) ⊎ ((j + base < from) ⊎ (to ≤ j + base)) → point out j ≡ point out₀ j

-- none of the points from..to has a value beyond the ceiling
abbrev pub NoneBeyond : (v : ℕ → ℤ) (from to : ℕ) → Type 0
NoneBeyond v from to = (k : ℕ) → from ≤ k → k < to → beyond (v k) ≡ false

-- one of them has
pub record OneBeyond (v : ℕ → ℤ) (from to : ℕ) : Type 0 where
  pub at : ℕ
  pub first : from ≤ at
  pub last : at < to
  pub beyond_there : beyond (v at) ≡ true

-- whether none has
pub record Tested (v : ℕ → Next) (from to : ℕ) (r : Bool) : Type 0 where
  pub low : r ≡ true → NoneBeyond (λ k. (v k).value) from to
  pub stopped : r ≡ false → OneBeyond (λ k. (v k).value) from to

-- n of the points from..to pass the test
pub record Counted (test : ℕ → Bool) (from to n : ℕ) : Type 0 where
  pub sum : count_below from test + n ≡ count_below to test

-- what a run of the points from..to answers and leaves: every value within the ceiling and in its place, the inexact ones of those written
-- counted; else one beyond
pub record Ran (v : ℕ → Next) (write : Bool) (base : ℕ) (out₀ out : List ℤ) (from to : ℕ) (r : Option ℕ) : Type 0 where
  pub long : length out ≡ length out₀
  pub filled : all_within r ≡ true → Filled (λ k. (v k).value) write base out₀ out from to
  pub low : all_within r ≡ true → NoneBeyond (λ k. (v k).value) from to
  pub counted : all_within r ≡ true → Counted (λ k. write && (v k).inexact) from to (inexact_of r)
  pub stopped : all_within r ≡ false → OneBeyond (λ k. (v k).value) from to

-- the same of points of a stretch
abbrev pub Advanced : Plan → Stretch → (older newer out₀ out : List ℤ) → (from to : ℕ) → Option ℕ → Type 0
Advanced p s older newer out₀ out from to r =
    Ran (next_by p.instrument s.force older newer) s.write s.base out₀ out from to r

-- the same of points with the forces of a hit
abbrev pub Stepping : Instrument → Option Hit → (write : Bool) (base : ℕ) (older newer out₀ out : List ℤ) → (from to : ℕ) → Option ℕ →
    Type 0
Stepping i h write base older newer out₀ out from to r = Ran (next_of i h older newer) write base out₀ out from to r

-- ---- where a run lies

-- a stretch whose values find their places among n
pub record Placed (s : Stretch) (n : ℕ) : Type 0 where
  pub order : s.from ≤ s.to
  pub above : s.base ≤ s.from
  pub room : s.to ≤ s.base + n

-- moving points
pub record Moves (g : Grid) (from to : ℕ) : Type 0 where
  pub order : from ≤ to
  pub each : (k : ℕ) → from ≤ k → k < to → moving g k ≡ true

-- moving points of a line between its ends
pub record OnLine (g : Grid) (from to : ℕ) : Type 0 where
  pub line : g.rows ≡ 1
  pub first : 1 ≤ from
  pub last : to + 1 ≤ g.columns
  pub each : (k : ℕ) → from ≤ k → k < to → moving g k ≡ true

-- one end of a line where it is free, or none of its points: the one neighbour is `near`
pub record FreeEnd (i : Instrument) (near from to : ℕ) : Type 0 where
  pub one : to ≤ from + 1
  pub inside : near < points i.grid
  pub there : from < to → moving i.grid from ≡ true
  pub twice : from < to → neighbours i.grid from ≡ near ∷ near ∷ []
  pub soft : from < to → i.settings.m ≡ 0

-- calls that give the sum of the neighbours of each of the points from..to, none of them stiff
pub record Sums (i : Instrument) (newer : List ℤ) (pre : ℕ → Type 0) (post : ℕ → ℤ → Type 0) (from to : ℕ) : Type 0 where
  pub callable : (k : ℕ) → from ≤ k → k < to → pre k
  pub gives : (k : ℕ) (sum : ℤ) → from ≤ k → k < to → post k sum → Neighbouring i newer k sum (pos 0)

-- ---- neighbours

-- the points to the left and to the right, summed
abbrev pub two_beside : List ℤ → ℕ → ℤ
two_beside xs k = point xs (k - 1) +ℤ point xs (k + 1)

-- these, and the points above and below
abbrev pub four_beside : List ℤ → (columns : ℕ) → ℕ → ℤ
four_beside xs columns k = two_beside xs k +ℤ point xs (k - columns) +ℤ point xs (k + columns)

-- the sum at a point of a bar, 0 at its supported ends
abbrev pub bar_sum : List ℤ → ℕ → ℤ
bar_sum xs k = cond (at_edge (length xs) k) (pos 0) (two_beside xs k)
