-- The numbers of "The instrument and its numbers" that the code has as constants, the kinds, and the number of each refusal.
use Rattle.std.specs.Prelude.{[], ◌∷◌, ℕ, ◌*◌, ◌^◌, ℤ, get_or, Option, Some, Result, Ok, Err}
use Rattle.types.specs.declared.Hit.{Hit}
use Rattle.types.specs.declared.Kind.{Kind}
use Rattle.types.specs.declared.Kind.TheVariants.{Unknown, StringFixed, StringFixedFree, StringFree, Bar, MembraneRectangular}
use Rattle.types.specs.declared.Kind.TheVariants.{MembraneRound, Plate}
use Rattle.types.specs.declared.Refusal.{Refusal}
use Rattle.types.specs.declared.Refusal.TheVariants.{UnknownKind, WrongSize, SheetNumber, Coefficient, Unstable}
use Rattle.types.specs.declared.Refusal.TheVariants.{WrongLength, NotMoving, TooStrong, PickUp, HalfWidth, PointBeyond, FixedNotZero}
use Rattle.types.specs.declared.Refusal.TheVariants.{NextBeyond, BrokenTable}

-- "Settings are whole numbers over D = 65536"
abbrev pub D : ℕ
D = 65536

-- "The ceiling is 32767 × 2²⁸"
abbrev pub ceiling : ℕ
ceiling = 32767 * 2 ^ 28

-- the table's first column, in its order, and "thin rectangular plates .. as kind 7"; every other number is no kind's
unfoldable pub kind_of : ℕ → Kind
kind_of k = get_or (Unknown ∷ StringFixed ∷ StringFixedFree ∷ StringFree ∷ Bar ∷ MembraneRectangular ∷ MembraneRound ∷ Plate ∷ []) k Unknown

-- a hit of force f at point p
abbrev pub hit_at : ℕ → ℤ → Option Hit
hit_at p f = Some (record { point = p; force = f })

-- the paper's number of each
abbrev pub number : Refusal → ℕ
number UnknownKind = 1
number WrongSize = 2
number SheetNumber = 3
number Coefficient = 4
number Unstable = 5
number WrongLength = 6
number NotMoving = 7
number TooStrong = 8
number PickUp = 9
number HalfWidth = 10
number PointBeyond = 11
number FixedNotZero = 12
number NextBeyond = 13
number BrokenTable = 14

-- of a call's outcome, 0 where it is carried out
abbrev pub number_of : Result Unit Refusal → ℕ
number_of (Ok done) = 0
number_of (Err r) = number r
