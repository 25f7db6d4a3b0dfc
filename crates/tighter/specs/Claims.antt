-- What the bounds of specs/Bounds say of the run that `DistanceBound` speaks of: any list of calls with the book beside it.
-- Proofs: `sum_bounds`, `one_point`, `point_bounds`, `at_one_point`, `voice_for_ever` in proofs/Points;
-- `held_by_tension`, `held_by_stiffness` in proofs/Holding; `program_bounds` in proofs/Programs.
use Rattle.std.specs.Prelude.{◌≡◌, List, ℕ, zero, suc, ◌*◌, ◌^◌, ◌<◌, ℤ, pos, ◌+ℤ◌, ◌-ℤ◌, ◌*ℤ◌, length, ◌≤ℤ◌}
use Rattle.types.specs.declared.Instrument.{Instrument}
use Rattle.scheme.specs.Lists.{point, square}
use Rattle.scheme.specs.Instruments.{points}
use Rattle.scheme.specs.Energy.{weight, squares, energy}
use Rattle.scheme.specs.Book.{LastStep, no_step, step_of, scale, Call, start, calls}
use Rattle.scheme.specs.Claims.{Passes, distance}
use Rattle.scheme.specs.Program.{Made, AllKept, after_all}
use Rattle.tighter.specs.Bounds.{Holding, by_tension, by_stiffness, Bound, limit, Row, demanded, numbers}

-- ---- the energy bounds the levels themselves where an edge is fixed

-- both sides doubled: `squares` has 2, `energy` 2D
abbrev pub LevelsHeld : Holding → Type 0
LevelsHeld H = (i : Instrument) (older newer : List ℤ) → Passes i older newer →
    let rest : ℕ → ℤ = λ k. pos 0 in
    let both : ℤ = squares i.grid (point newer) rest +ℤ squares i.grid (point older) rest in
    (pos (H.hold i) *ℤ both) ≤ℤ (pos (H.far i) *ℤ energy i (point newer) (point older))

abbrev pub HeldByTension : Type 0
HeldByTension = LevelsHeld by_tension

abbrev pub HeldByStiffness : Type 0
HeldByStiffness = LevelsHeld by_stiffness

-- ---- claims about lists of calls, and about programs

-- a claim about n steps of an instrument, newer and the book's newer
abbrev pub OfSteps : Type 1
OfSteps = Instrument → (n : ℕ) (newer unrounded : List ℤ) → Type 0

-- with n 0 the two agree at every point; else newer has the N points of the last step's grid, and the claim holds of that step's instrument
abbrev pub After : OfSteps → (newer : List ℤ) → (n : ℕ) (unrounded : List ℤ) → LastStep → Type 0
After P newer zero unrounded last = newer ≡ unrounded
After P newer (suc m) unrounded no_step = ⊥
After P newer (suc m) unrounded (step_of i) = (length newer ≡ points i.grid) × P i (suc m) newer unrounded

-- any two starting levels, any list of blocks and plucks, refused ones included
abbrev pub OfEveryList : OfSteps → Type 0
OfEveryList P = (older newer : List ℤ) (ks : List Call) →
    let t = (calls ks (start older newer)).state in After P t.newer t.book.n t.book.newer t.book.last

-- the same of the levels that a program holds, known by its calls
abbrev pub OfEveryProgram : OfSteps → Type 0
OfEveryProgram P = (older newer : List ℤ) (ms : List Made) → AllKept ms (start older newer) →
    let t = after_all ms (start older newer) in After P t.newer t.book.n t.book.newer t.book.last

-- ---- the bounds on Σ

abbrev pub OfSums : Bound → OfSteps
OfSums b i n newer unrounded = b.Covers i → (pos (b.k i n) *ℤ distance i n newer unrounded) ≤ℤ limit b i n

-- every row, of every list
abbrev pub SumBounds : Type 0
SumBounds = (b : Row) → OfEveryList (OfSums (numbers b))

-- ---- at one point

-- (D+s)ⁿ × (newer − the book's newer) at point j
abbrev pub difference : Instrument → (n : ℕ) (newer unrounded : List ℤ) → ℕ → ℤ
difference i n newer unrounded j = scale i.settings n *ℤ point newer j -ℤ point unrounded j

-- difference² at a point is at most Σ, at a free end at most 2 × Σ
abbrev pub OnePoint : Type 0
OnePoint = (i : Instrument) (n : ℕ) (newer unrounded : List ℤ) (j : ℕ) → j < points i.grid →
    (pos (weight i.grid j) *ℤ square (difference i n newer unrounded j)) ≤ℤ distance i n newer unrounded

-- so every bound on Σ is one at each point
abbrev pub OfPoints : Bound → OfSteps
OfPoints b i n newer unrounded = b.Covers i → (j : ℕ) → j < points i.grid →
    (pos (b.k i n * weight i.grid j) *ℤ square (difference i n newer unrounded j)) ≤ℤ limit b i n

abbrev pub PointBounds : Type 0
PointBounds = (b : Row) → OfEveryList (OfPoints (numbers b))

-- demand 3's: 16 × difference² ≤ N × n² × (n+1)², at a free end twice that
abbrev pub AtOnePoint : Type 0
AtOnePoint = OfEveryList (OfPoints (numbers demanded))

-- the paper's example of a sheet: kind 1, 101 columns, q 11378, m 0, s 8
abbrev pub voice : Instrument
voice = record { grid = record { kind = 1; columns = 101; rows = 1 }; settings = record { q = 11378; m = 0; s = 8 } }

-- 50 × difference ≤ 2²⁸, squared: at every point within a 50th of a sample unit of the unrounded scheme
abbrev pub VoiceWithin : OfSteps
VoiceWithin i n newer unrounded = i ≡ voice → (j : ℕ) → j < points i.grid →
    (pos 2500 *ℤ square (difference i n newer unrounded j)) ≤ℤ (pos (2 ^ 56) *ℤ square (scale i.settings n))

abbrev pub VoiceForEver : Type 0
VoiceForEver = OfEveryList VoiceWithin

-- ---- of programs

pub record ProgramBounds : Type 0 where
  pub sums : (b : Row) → OfEveryProgram (OfSums (numbers b))
  pub points : (b : Row) → OfEveryProgram (OfPoints (numbers b))
  pub voice_for_ever : OfEveryProgram VoiceWithin
