-- Demand 3 as four propositions. Their proofs are in proofs/:
-- `energy_never_negative`, `energy_never_raised`, `energy-kept`, `distance-bound`.
use Rattle.std.specs.Prelude.{◌≡◌, false, List, [], ◌∷◌, ℕ, zero, suc, ◌*◌, ℤ, pos, ◌*ℤ◌, length, ◌≤ℤ◌, Option, None, Ok}
use Rattle.types.specs.declared.Grid.{Grid}
use Rattle.types.specs.declared.Instrument.{Instrument}
use Rattle.types.specs.declared.Hit.{Hit}
use Rattle.scheme.specs.Lists.{point, square}
use Rattle.scheme.specs.Instruments.{points}
use Rattle.scheme.specs.Step.{divisor, some_beyond}
use Rattle.scheme.specs.Refusals.{instrument_refusal, fixed_not_zero, not_moving}
use Rattle.scheme.specs.Energy.{squares, energy}
use Rattle.scheme.specs.Book.{LastStep, no_step, step_of, Book, fresh, scale, unrounded_step, Call, start, calls}

-- ---- energy

-- a level "of that grid that 11 and 12 let pass"
pub record LevelPasses (g : Grid) (xs : List ℤ) : Type 0 where
  pub long : length xs ≡ points g
  pub low : some_beyond xs ≡ false
  pub fixed_zero : fixed_not_zero g xs ≡ false

-- "any kind, grid and settings that 1, 2, 4 and 5 let pass, any two levels of that grid that 11 and 12 let pass"
pub record Passes (i : Instrument) (older newer : List ℤ) : Type 0 where
  pub instrument : instrument_refusal i ≡ Ok tt
  pub older_passes : LevelPasses i.grid older
  pub newer_passes : LevelPasses i.grid newer

-- "any number of steps, each with or without a hit at a moving point", of any force
pub data HitsPass (g : Grid) : List (Option Hit) → Type 0 where
  done : HitsPass g []
  more : {h : Option Hit} {hs : List (Option Hit)} → not_moving g h ≡ false → HitsPass g hs → HitsPass g (h ∷ hs)

-- the book's own step, once for each hit or none
unfoldable pub unrounded_run : Instrument → List (Option Hit) → Book → Book
unrounded_run i [] b = b
unrounded_run i (h ∷ hs) b = unrounded_run i hs (unrounded_step i h b)

-- the energy of a book's levels as they are held: 2D × (D+s)²ⁿ times the paper's
abbrev pub book_energy : Instrument → Book → ℤ
book_energy i b = energy i (point b.newer) (point b.older)

-- a property of every book that the unrounded scheme reaches
abbrev pub OfEveryReached : (Instrument → Book → Type 0) → Type 0
OfEveryReached P =
    (i : Instrument) (older newer : List ℤ) (hs : List (Option Hit)) → Passes i older newer → HitsPass i.grid hs
    → P i (unrounded_run i hs (fresh no_step older newer))

-- "the energy is never below zero"
abbrev pub EnergyNeverNegative : Type 0
EnergyNeverNegative = OfEveryReached (λ i b. pos 0 ≤ℤ book_energy i b)

-- "never raised by a step without a hit": after it the levels are held times D+s more, so the energy times (D+s)² more
abbrev pub EnergyNeverRaised : Type 0
EnergyNeverRaised = OfEveryReached (λ i b.
    book_energy i (unrounded_step i None b) ≤ℤ (square (pos (divisor i.settings)) *ℤ book_energy i b))

-- "kept without loss"
abbrev pub EnergyKept : Type 0
EnergyKept = OfEveryReached (λ i b. i.settings.s ≡ 0 →
    book_energy i (unrounded_step i None b) ≡ square (pos (divisor i.settings)) *ℤ book_energy i b)

-- ---- distance

-- "The squared distances are those between newer and the book's newer, point by point": the sum, a free end counted half, times 2 × (D+s)²ⁿ
abbrev pub distance : Instrument → ℕ → (newer unrounded : List ℤ) → ℤ
distance i n newer unrounded = squares i.grid (λ k. scale i.settings n *ℤ point newer k) (point unrounded)

-- the bound N × n² × (n+1)² / 16, times 32 × (D+s)²ⁿ
abbrev pub bound : Instrument → ℕ → ℤ
bound i n = pos (2 * points i.grid) *ℤ (square (pos (n * suc n)) *ℤ square (scale i.settings n))

-- both sides are the paper's times 32 × (D+s)²ⁿ; newer has the N points of the last step's grid, so no point is left out
pub record WithinBound (i : Instrument) (n : ℕ) (newer unrounded : List ℤ) : Type 0 where
  pub all_points : length newer ≡ points i.grid
  pub near : (pos 16 *ℤ distance i n newer unrounded) ≤ℤ bound i n

-- "N and the free ends are those of the book's last step; with n 0 the two agree at every point."
abbrev pub Near : (newer : List ℤ) → (n : ℕ) (unrounded : List ℤ) → LastStep → Type 0
Near newer zero unrounded last = newer ≡ unrounded
Near newer (suc m) unrounded no_step = ⊥
Near newer (suc m) unrounded (step_of i) = WithinBound i (suc m) newer unrounded

-- "This is a single claim about the whole list": any two starting levels, any list of calls, refused ones included
abbrev pub DistanceBound : Type 0
DistanceBound = (older newer : List ℤ) (ks : List Call) →
    let t = (calls ks (start older newer)).state in Near t.newer t.book.n t.book.newer t.book.last
