-- A pass over the points of a level: their next values put into out, or in place, into older itself. Vocabulary of private functions.
use Rattle.std.specs.Prelude.{◌≡◌, Bool, true, false, cond, ◌&&◌, List, ℕ, ◌≤◌, ℤ, length, Option}
use Rattle.types.specs.declared.Instrument.{Instrument}
use Rattle.types.specs.declared.Hit.{Hit}
use Rattle.scheme.specs.Instruments.{points}
use Rattle.plans.specs.declared.Plan.{Plan}
use Rattle.stretches.specs.Pieces.{piece}
use Rattle.steps.specs.Run.{Stepping}
use Rattle.steps.specs.Steps.{Steppable, Stepped}

-- of older and out, the one that the values are put into
abbrev pub target : (inPlace : Bool) → (older out : List ℤ) → List ℤ
target inPlace older out = cond inPlace older out

-- room in out for points as far as `to`: in place for a piece
pub record RowRoom (inPlace : Bool) (to : ℕ) (out : List ℤ) : Type 0 where
  pub for_piece : inPlace ≡ true → piece ≤ length out
  pub for_all : inPlace ≡ false → to ≤ length out

-- what a pass over a level is given
pub record Passable (p : Plan) (h : Option Hit) (inPlace : Bool) (older newer out : List ℤ) : Type 0 where
  pub given : Steppable p h older newer (target inPlace older out)
  pub room : RowRoom inPlace (points p.instrument.grid) out

-- what a pass over the points from..to answers and leaves. Older is as it was unless it is written in place.
pub record Passing (i : Instrument) (h : Option Hit) (write inPlace : Bool) (older₀ newer out₀ older out : List ℤ) (from to : ℕ)
    (r : Option ℕ)
    : Type 0 where
  pub ran : Stepping i h write 0 older₀ newer (target inPlace older₀ out₀) (target inPlace older out) from to r
  pub older_long : length older ≡ length older₀
  pub out_long : length out ≡ length out₀
  pub kept : (inPlace && write) ≡ false → older ≡ older₀

-- the same of a whole level
pub record Passed (i : Instrument) (h : Option Hit) (write inPlace : Bool) (older₀ newer out₀ older out : List ℤ) (r : Option ℕ) : Type 0
  where
    pub stepped : Stepped i h write older₀ newer (target inPlace older out) r
    pub passing : Passing i h write inPlace older₀ newer out₀ older out 0 (points i.grid) r
