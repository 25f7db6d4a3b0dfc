-- Blocks, plucks and float reading: all that each answers and leaves, for every argument.
use Rattle.std.specs.Prelude.{◌≡◌, Bool, true, false, cond, List, [], ◌∷◌, ◌⊎◌, ℕ, zero, suc, ◌+◌, ◌-◌, ◌^◌, ◌≤◌, ◌<◌, ltb, ℤ, pos}
use Rattle.std.specs.Prelude.{Float, length, replicate, Option, None, Result, Ok, Err}
use Rattle.std.specs.Float.{binary64}
use Rattle.std.specs.Float.Ieee.{of_int}
use Rattle.types.specs.declared.Grid.{Grid}
use Rattle.types.specs.declared.Instrument.{Instrument}
use Rattle.types.specs.declared.Hit.{Hit}
use Rattle.types.specs.declared.BlockAnswer.{BlockAnswer}
use Rattle.types.specs.declared.Refusal.{Refusal}
use Rattle.types.specs.declared.Refusal.TheVariants.{NextBeyond}
use Rattle.pluck_table.specs.Table.{table}
use Rattle.scheme.specs.Lists.{point}
use Rattle.scheme.specs.Instruments.{points}
use Rattle.scheme.specs.Step.{next_level, inexact_in, some_beyond, sample_of, float_of}
use Rattle.scheme.specs.Pluck.{pluck_level}
use Rattle.scheme.specs.Refusals.{wrong_length, block_refusal, pluck_refusal, pluck_with_refusal, reading_refusal}

-- "a call for which none applies is carried out"
abbrev pub accepted : Result Unit Refusal → Bool
accepted (Ok done) = true
accepted (Err r) = false

-- ---- a block

-- what the steps of a block answer and leave; here the inexact points are their whole sum, which a block's answer holds
pub record AfterSteps : Type 0 where
  pub answer : BlockAnswer
  pub older : List ℤ
  pub newer : List ℤ
  pub samples : List ℤ

-- no further step: "the levels after exactly those, .. later places unchanged"
abbrev pub ended : Result Unit Refusal → (older newer samples : List ℤ) → AfterSteps
ended r older newer samples =
    record { answer = record { steps = 0; inexact = 0; outcome = r }; older = older; newer = newer; samples = samples }

-- a step done, with sample v and c inexact points, before the rest: "the count of steps done, .. their samples written",
-- "the sum over its steps done"
abbrev pub one_more : ℤ → ℕ → AfterSteps → AfterSteps
one_more v c rest =
    record {
      answer = record { steps = suc rest.answer.steps; inexact = c + rest.answer.inexact; outcome = rest.answer.outcome };
      older = rest.older;
      newer = rest.newer;
      samples = v ∷ rest.samples;
    }

-- "A block has as many steps as the lent sample buffer has places; the hit, if any, acts in its first step." "Newer becomes older."
-- "13. The next step would put some point beyond the ceiling."
unfoldable pub play : Instrument → ℕ → Option Hit → (older newer samples : List ℤ) → AfterSteps
play i pick h older newer [] = ended (Ok tt) older newer []
play i pick h older newer (x ∷ xs) =
    let next = next_level i h older newer in
    let on = one_more (sample_of (point next pick)) (inexact_in i h older newer) (play i pick None newer next xs) in
    cond (some_beyond next) (ended (Err NextBeyond) older newer (x ∷ xs)) on

-- ---- what stands behind the count of steps

-- the two levels
pub record Levels : Type 0 where
  pub older : List ℤ
  pub newer : List ℤ

-- after k steps, the hit in the first of them
unfoldable pub levels_after : Instrument → Option Hit → ℕ → (older newer : List ℤ) → Levels
levels_after i h zero older newer = record { older = older; newer = newer }
levels_after i h (suc k) older newer = levels_after i None k newer (next_level i h older newer)

-- the inexact points of these steps
unfoldable pub inexact_after : Instrument → Option Hit → ℕ → (older newer : List ℤ) → ℕ
inexact_after i h zero older newer = 0
inexact_after i h (suc k) older newer = inexact_in i h older newer + inexact_after i None k newer (next_level i h older newer)

-- the hit of the step after k
abbrev pub hit_after : Option Hit → ℕ → Option Hit
hit_after h zero = h
hit_after h (suc k) = None

-- "Steps done stand in the result and equal the definition's steps behind levels and samples": the levels, samples and inexact points of
-- exactly so many steps, none of them beyond the ceiling, the later places as they were, and why there were no more.
-- Proved as `stands_behind`.
pub record StandsBehind (i : Instrument) (pick : ℕ) (h : Option Hit) (older newer places : List ℤ) (p : AfterSteps) : Type 0 where
  pub older_is : p.older ≡ (levels_after i h p.answer.steps older newer).older
  pub newer_is : p.newer ≡ (levels_after i h p.answer.steps older newer).newer
  pub counted : p.answer.inexact ≡ inexact_after i h p.answer.steps older newer
  pub low : (j : ℕ) → j < p.answer.steps → some_beyond (levels_after i h (suc j) older newer).newer ≡ false
  pub sampled : (j : ℕ) → j < p.answer.steps
      → point p.samples j ≡ sample_of (point (levels_after i h (suc j) older newer).newer pick)
  pub later : (j : ℕ) → p.answer.steps ≤ j → point p.samples j ≡ point places j
  pub places_long : length p.samples ≡ length places
  pub ends : ((p.answer.outcome ≡ Ok tt) × (p.answer.steps ≡ length places))
      ⊎ ((p.answer.outcome ≡ Err NextBeyond) × (p.answer.steps < length places) ×
      (some_beyond (next_level i (hit_after h p.answer.steps) p.older p.newer) ≡ true))

abbrev pub StepsStandBehind : Type 0
StepsStandBehind = (i : Instrument) (pick : ℕ) (h : Option Hit) (older newer places : List ℤ)
    → StandsBehind i pick h older newer places (play i pick h older newer places)

-- ---- all that a block leaves

-- what a block answers, and its four lent slices afterwards
pub record AfterBlock : Type 0 where
  pub answer : BlockAnswer
  pub older : List ℤ
  pub newer : List ℤ
  pub work : List ℤ
  pub samples : List ℤ

-- the same of a call that was made: its answer, and what it left
abbrev pub block_left : BlockAnswer → (older newer work samples : List ℤ) → AfterBlock
block_left answer older newer work samples = record { answer = answer; older = older; newer = newer; work = work; samples = samples }

-- "held at 2⁶⁴ − 1 once it would pass that"
unfoldable pub capped : ℕ → ℕ
capped n = cond (ltb n (2 ^ 64)) n (2 ^ 64 - 1)

-- "A block reports the sum over its steps done"
abbrev pub reported : BlockAnswer → BlockAnswer
reported a = record { steps = a.steps; inexact = capped a.inexact; outcome = a.outcome }

-- "Work is all zeros after 13 and after every accepted block": n points
abbrev pub with_work_zero : ℕ → AfterSteps → AfterBlock
with_work_zero n p = block_left (reported p.answer) p.older p.newer (replicate n (pos 0)) p.samples

-- "For 1 to 12: zero steps, .. every lent level and sample unchanged."
abbrev pub block_refused : Result Unit Refusal → (older newer work samples : List ℤ) → AfterBlock
block_refused r older newer work samples = block_left (record { steps = 0; inexact = 0; outcome = r }) older newer work samples

-- "The lowest number that applies answers, and a call for which none applies is carried out"
unfoldable pub block : Instrument → (older newer work samples : List ℤ) → ℕ → Option Hit → AfterBlock
block i older newer work samples pick h =
    let r = block_refusal i older newer (wrong_length i.grid (length work)) pick h in
    let done = with_work_zero (points i.grid) (play i pick h older newer samples) in
    cond (accepted r) done (block_refused r older newer work samples)

-- ---- a block on two levels

-- what it answers, and its three lent slices afterwards
pub record AfterInPlace : Type 0 where
  pub answer : BlockAnswer
  pub older : List ℤ
  pub newer : List ℤ
  pub samples : List ℤ

-- the same of a call that was made
abbrev pub in_place_left : BlockAnswer → (older newer samples : List ℤ) → AfterInPlace
in_place_left answer older newer samples = record { answer = answer; older = older; newer = newer; samples = samples }

-- what a block answers and leaves, but for work
abbrev pub without_work : AfterBlock → AfterInPlace
without_work a = in_place_left a.answer a.older a.newer a.samples

-- "a block that takes only older and newer and gives the same samples, counts, refusals and levels as the three-level one":
-- as that one with a work level of zeros. "Refusal 6 looks at the two lengths only."
unfoldable pub block_in_place : Instrument → (older newer samples : List ℤ) → ℕ → Option Hit → AfterInPlace
block_in_place i older newer samples pick h =
    without_work (block i older newer (replicate (points i.grid) (pos 0)) samples pick h)

-- "the agreement for every lent content, given a work level of the grid's length". Proved as `blocks_agree`.
abbrev pub BlocksAgree : Type 0
BlocksAgree = (i : Instrument) (older newer work samples : List ℤ) (pick : ℕ) (h : Option Hit) → length work ≡ points i.grid
    → block_in_place i older newer samples pick h ≡ without_work (block i older newer work samples pick h)

-- ---- a pluck

-- what a pluck answers, and its two lent levels afterwards
pub record AfterPluck : Type 0 where
  pub outcome : Result Unit Refusal
  pub older : List ℤ
  pub newer : List ℤ

-- the same of a call that was made
abbrev pub pluck_left : Result Unit Refusal → (older newer : List ℤ) → AfterPluck
pluck_left refusal older newer = record { outcome = refusal; older = older; newer = newer }

-- "Both levels are overwritten."
abbrev pub overwritten : List ℤ → AfterPluck
overwritten xs = pluck_left (Ok tt) xs xs

-- "every lent level .. unchanged"; of 14: "it returns and leaves what 1 to 12 do"
abbrev pub pluck_refused : Result Unit Refusal → (older newer : List ℤ) → AfterPluck
pluck_refused r older newer = pluck_left r older newer

-- by any table ts, where r refuses it or nothing does: "centre c, half width w, height a"
unfoldable pub pluck_by : (ts : List ℕ) → Result Unit Refusal → Grid → (older newer : List ℤ) → ℕ → ℕ → ℤ → AfterPluck
pluck_by ts r g older newer c w a =
    let done = overwritten (pluck_level ts g c w a) in
    cond (accepted r) done (pluck_refused r older newer)

-- by the table T
unfoldable pub pluck : Grid → (older newer : List ℤ) → ℕ → ℕ → ℤ → AfterPluck
pluck g older newer c w a = pluck_by table (pluck_refusal g (length older) (length newer) c w a) g older newer c w a

-- "A pluck may take a lent table of 1025 numbers in place of T." "Points are filled by the same rule as before."
unfoldable pub pluck_with : Grid → (older newer : List ℤ) → ℕ → ℕ → ℤ → (lent : List ℕ) → AfterPluck
pluck_with g older newer c w a lent =
    pluck_by lent (pluck_with_refusal g (length older) (length newer) c w a lent) g older newer c w a

-- "A loaded copy of T must pluck exactly as the built-in one does." Proved as `copy_plucks_alike`.
abbrev pub CopyPlucksAlike : Type 0
CopyPlucksAlike = (g : Grid) (older newer : List ℤ) (c w : ℕ) (a : ℤ) → pluck_with g older newer c w a table ≡ pluck g older newer c w a

-- ---- the float reading

-- what a call answers: what refuses it, or x where nothing does
abbrev pub answered : {A : Type 0} → Result Unit Refusal → A → Result A Refusal
answered (Ok done) x = Ok x
answered (Err r) x = Err r

-- "The same reading as a float", or what refuses it
unfoldable pub reading : Grid → List ℤ → ℕ → Result Float Refusal
reading g newer pick = answered (reading_refusal g newer pick) (float_of (point newer pick))

-- "answers 0 when refused"
abbrev pub reading_value : Result Float Refusal → Float
reading_value (Ok x) = x
reading_value (Err r) = of_int binary64 (pos 0)
