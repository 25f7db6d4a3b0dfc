-- Whole levels: what a step and the steps of a block leave in the lent slices. Vocabulary of private functions.
use Rattle.std.specs.Prelude.{◌≡◌, Bool, true, false, cond, not, List, ◌⊎◌, ℕ, ◌≤◌, ltb, ℤ, pos, length, Option, Ok, Err}
use Rattle.types.specs.declared.Grid.{Grid}
use Rattle.types.specs.declared.Instrument.{Instrument}
use Rattle.types.specs.declared.Hit.{Hit}
use Rattle.types.specs.declared.Refusal.TheVariants.{NextBeyond}
use Rattle.scheme.specs.Lists.{point}
use Rattle.scheme.specs.Instruments.{points, moving}
use Rattle.scheme.specs.Step.{next_level, inexact_in, some_beyond}
use Rattle.scheme.specs.Refusals.{not_moving, too_strong}
use Rattle.scheme.specs.Calls.{AfterSteps, capped}
use Rattle.scheme.specs.Claims.{LevelPasses}
use Rattle.plans.specs.declared.Plan.{Plan}
use Rattle.stretches.specs.Pieces.{piece}
use Rattle.turns.specs.declared.Turn.{Turn}
use Rattle.turns.specs.Turns.{of_two, older_of, newer_of, out_of}
use Rattle.steps.specs.declared.play.Steps.{Steps}
use Rattle.steps.specs.Run.{all_within, inexact_of}
use Rattle.steps.specs.Plan.{Planned}

-- room for a level of the grid: 0 where nothing moves
pub record Room (g : Grid) (out : List ℤ) : Type 0 where
  pub long : length out ≡ points g
  pub still : (k : ℕ) → moving g k ≡ false → point out k ≡ pos 0

-- what a step is given
pub record Steppable (p : Plan) (h : Option Hit) (older newer out : List ℤ) : Type 0 where
  pub planned : Planned p
  pub older_passes : LevelPasses p.instrument.grid older
  pub newer_passes : LevelPasses p.instrument.grid newer
  pub room : Room p.instrument.grid out
  pub hit_moving : not_moving p.instrument.grid h ≡ false
  pub hit_low : too_strong h ≡ false

-- what a step leaves: the next level in out, if it is written, and its inexact points counted, where it lies within the ceiling
pub record Stepped (i : Instrument) (h : Option Hit) (write : Bool) (older newer out : List ℤ) (r : Option ℕ) : Type 0 where
  pub within_is : all_within r ≡ not (some_beyond (next_level i h older newer))
  pub next_is : write ≡ true → all_within r ≡ true → out ≡ next_level i h older newer
  pub inexact_is : write ≡ true → all_within r ≡ true → inexact_of r ≡ inexact_in i h older newer
  pub long : length out ≡ points i.grid

-- the same in place: the next level in older itself, which is as it was where a point would lie beyond the ceiling
pub record SteppedInPlace (i : Instrument) (h : Option Hit) (older₀ newer older : List ℤ) (r : Option ℕ) : Type 0 where
  pub stepped : Stepped i h true older₀ newer older r
  pub kept : all_within r ≡ false → older ≡ older₀

-- of two levels the third slice has room for a piece of a row
abbrev pub Third : Turn → (c : List ℤ) → Type 0
Third turn c = of_two turn ≡ true → piece ≤ length c

-- what the steps of a block begin with
pub record Begins (turn : Turn) (p : Plan) (h : Option Hit) (a b c : List ℤ) : Type 0 where
  pub given : Steppable p h (older_of turn a b c) (newer_of turn a b c) (out_of turn a b c)
  pub third : Third turn c

-- what a step leaves in the slices: the next level in its place, newer as it was, and older too where it is not overwritten
pub record SteppedIn (turn : Turn) (i : Instrument) (h : Option Hit) (a₀ b₀ c₀ a b c : List ℤ) (r : Option ℕ) : Type 0 where
  pub stepped : Stepped i h true (older_of turn a₀ b₀ c₀) (newer_of turn a₀ b₀ c₀) (out_of turn a b c) r
  pub older_kept : (of_two turn ≡ false) ⊎ (all_within r ≡ false) → older_of turn a b c ≡ older_of turn a₀ b₀ c₀
  pub newer_kept : newer_of turn a b c ≡ newer_of turn a₀ b₀ c₀

-- what the steps of a block leave, with n places for samples: p is what the definition says
pub record Played (p : AfterSteps) (n : ℕ) (r : Steps) (older newer samples : List ℤ) : Type 0 where
  pub done_is : r.done ≡ p.answer.steps
  pub inexact_is : r.inexact ≡ capped p.answer.inexact
  pub outcome_is : p.answer.outcome ≡ cond (ltb r.done n) (Err NextBeyond) (Ok tt)
  pub older_is : older ≡ p.older
  pub newer_is : newer ≡ p.newer
  pub samples_are : samples ≡ p.samples
