-- What the steps of a call leave in slices that take turns. Vocabulary between the engine's crates: no call that a maker embeds
-- cites it. What the calls themselves promise is `block` and `block_in_place` of crate scheme.
use Rattle.std.specs.Prelude.{◌≡◌, cond, List, [], ◌%◌, ◌≤◌, ltb, ℤ, pos, length, replicate, Result, Ok, Err}
use Rattle.types.specs.declared.Refusal.{Refusal}
use Rattle.types.specs.declared.Refusal.TheVariants.{NextBeyond}
use Rattle.types.specs.declared.Grid.{Grid}
use Rattle.scheme.specs.Instruments.{points}
use Rattle.scheme.specs.Calls.{AfterSteps, AfterBlock, AfterInPlace, without_work, block_refused}
use Rattle.stretches.specs.Pieces.{piece}
use Rattle.steps.specs.declared.call.InTurn.{InTurn}
use Rattle.steps.specs.declared.play.Steps.{Steps}
use Rattle.steps.specs.Steps.{Played}
use Rattle.turns.specs.declared.Turn.{Turn}
use Rattle.turns.specs.declared.Turn.TheVariants.{First, There}
use Rattle.turns.specs.Turns.{turn_after, turn_of_three, turn_of_two, older_of, newer_of}

-- the third slice that the steps begin with: of three levels one of the grid's length; of two, room for a piece
pub data Opens (g : Grid) (work : List ℤ) : Turn → Type 0 where
  three : length work ≡ points g → Opens g work First
  two : piece ≤ length work → Opens g work There

-- what the steps s of a call tell, x what ended them
abbrev pub in_turn : Steps → Result Unit Refusal → InTurn
in_turn s x = record { answer = record { steps = s.done; inexact = s.inexact; outcome = x }; turn = s.turn }

-- what the steps of a call leave that begin in turn `first`. r is what refuses it: a refused call leaves every slice as it was. One that is
-- carried out leaves what the steps p of the definition leave, 13 where places are left.
pub data LeftFrom (first : Turn) (r : Result Unit Refusal) (p : AfterSteps) (older₀ newer₀ work₀ samples₀ : List ℤ)
    : Result InTurn Refusal → (older newer work samples : List ℤ) → Type 0 where
  refused : (x : Refusal) → r ≡ Err x → LeftFrom first r p older₀ newer₀ work₀ samples₀ (Err x) older₀ newer₀ work₀ samples₀
  carried : (s : Steps) (x : Result Unit Refusal) (older newer work samples : List ℤ) → r ≡ Ok tt → s.turn ≡ turn_after first s.done
      → Played p (length samples₀) s (older_of s.turn older newer work) (newer_of s.turn older newer work) samples
      → x ≡ cond (ltb s.done (length samples)) (Err NextBeyond) (Ok tt)
      → LeftFrom first r p older₀ newer₀ work₀ samples₀ (Ok (in_turn s x)) older newer work samples

-- the answer and the samples of the block b, and its levels in the slices that the turn tells
pub record Stands (b : AfterInPlace) (t : InTurn) (older newer work samples : List ℤ) : Type 0 where
  pub answer_is : t.answer ≡ b.answer
  pub older_is : older_of t.turn older newer work ≡ b.older
  pub newer_is : newer_of t.turn older newer work ≡ b.newer
  pub samples_are : samples ≡ b.samples
  pub newer_long : length newer ≡ length older

-- the same in three slices that can take each other's place: the turn goes by the steps done, work may hold anything, and b's zeros are
-- owed there
pub record StandsInTurn (b : AfterBlock) (t : InTurn) (older newer work samples : List ℤ) : Type 0 where
  pub stands : Stands (without_work b) t older newer work samples
  pub turn_is : t.turn ≡ turn_of_three (b.answer.steps % 3)
  pub work_long : length work ≡ length older
  pub zeros_are : b.work ≡ replicate (length work) (pos 0)

-- what the steps of a block on three levels leave. r is what refuses it: a refused call leaves every slice as b does.
abbrev pub LeftInTurn : (r : Result Unit Refusal) (b : AfterBlock) → Result InTurn Refusal → (older newer work samples : List ℤ) → Type 0
LeftInTurn r b (Ok t) older newer work samples = (r ≡ Ok tt) × StandsInTurn b t older newer work samples
LeftInTurn r b (Err x) older newer work samples = (r ≡ Err x) × (block_refused (Err x) older newer work samples ≡ b)

-- the same on two levels: after an odd number of steps each stands in the other's slice
abbrev pub LeftInPlace : (r : Result Unit Refusal) (b : AfterInPlace) → Result InTurn Refusal → (older newer samples : List ℤ) → Type 0
LeftInPlace r b (Ok t) older newer samples =
    (r ≡ Ok tt) × Stands b t older newer [] samples × (t.turn ≡ turn_of_two (b.answer.steps % 2))
LeftInPlace r b (Err x) older newer samples =
    (r ≡ Err x) × (without_work (block_refused (Err x) older newer [] samples) ≡ b)
