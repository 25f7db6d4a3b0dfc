-- Mirrored runs: small lists of calls, each of which the definitions compute together with its mirror image, and what each leaves.
-- `MirrorImage` says it of every list; a definition by which up and down differ is refused at the row that it breaks.
-- The numbers come from the reference in another language under host/.
use Rattle.std.specs.Prelude.{◌≡◌, true, List, [], ◌∷◌, ℕ, ◌^◌, ℤ, pos, Option, None, Result, Ok, Err}
use Rattle.types.specs.declared.Instrument.{Instrument}
use Rattle.types.specs.declared.Hit.{Hit}
use Rattle.types.specs.declared.Refusal.{Refusal}
use Rattle.types.specs.declared.Refusal.TheVariants.{NotMoving, TooStrong, PointBeyond, FixedNotZero, NextBeyond, BrokenTable}
use Rattle.types.specs.Numbers.{hit_at}
use Rattle.pluck_table.specs.LoadingExamples.{straight}
use Rattle.scheme.specs.Instruments.{beyond}
use Rattle.scheme.specs.Book.{Call, block_call, in_place_call, pluck_call, pluck_with_call, block_outcome, in_place_outcome, pluck_outcome}
use Rattle.scheme.specs.Book.{Left, start, calls}
use Rattle.scheme.specs.Mirror.{MirroredFrom}
use Rattle.scheme.specs.Examples.{grid, instrument, level, minus, middle3}
use Rattle.scheme.specs.FurtherExamples.{rest, nines, above}

-- two levels, a list of calls from there, and what each call leaves
pub record Run : Type 0 where
  pub older : List ℤ
  pub newer : List ℤ
  pub list : List Call
  pub left : List Left

-- what a block leaves: steps, inexact points, refusal, work, samples, levels; the same on two levels; and a pluck
abbrev block_leaves : (steps inexact : ℕ) → Result Unit Refusal → (work samples older newer : List ℤ) → Left
block_leaves k c r work samples older newer =
    record { outcome = block_outcome (record { steps = k; inexact = c; outcome = r }) work samples; older = older; newer = newer }

abbrev in_place_leaves : (steps inexact : ℕ) → Result Unit Refusal → (samples older newer : List ℤ) → Left
in_place_leaves k c r samples older newer =
    record { outcome = in_place_outcome (record { steps = k; inexact = c; outcome = r }) samples; older = older; newer = newer }

abbrev pluck_leaves : Result Unit Refusal → List ℤ → Left
pluck_leaves r xs = record { outcome = pluck_outcome r; older = xs; newer = xs }

-- four points that go on as they went: q, m and s are 0
abbrev onward : Instrument
onward = instrument 1 4 1 0 0 0

-- 3 units and half a sample unit
abbrev low : List ℤ
low = level (0 ∷ 3 ∷ 134217728 ∷ 0 ∷ [])

-- a point that rises by 10¹² in a step
abbrev rising : List ℤ
rising = level (0 ∷ 1 ∷ 7000000000000 ∷ 0 ∷ [])

abbrev risen : List ℤ
risen = level (0 ∷ 3 ∷ 8000000000000 ∷ 0 ∷ [])

-- five points, and a pluck of them with half width 2
abbrev shape : List ℤ
shape = level (0 ∷ 1 ∷ 3 ∷ 1 ∷ 0 ∷ [])

abbrev plucks : ℕ → ℤ → Call
plucks c a = pluck_call (grid 1 5 1) c 2 a

-- by a lent table with half width 3
abbrev lent_shape : List ℤ
lent_shape = level (0 ∷ 666 ∷ 1000 ∷ 666 ∷ 0 ∷ [])

abbrev plucks_with : List ℕ → Call
plucks_with lent = pluck_with_call (grid 1 5 1) 2 3 (pos 1000) lent

-- a block of three points that is refused, by the levels or by the hit
abbrev refused_by : Result Unit Refusal → (older newer : List ℤ) → Option Hit → Run
refused_by r older newer h = record {
  older = older;
  newer = newer;
  list = block_call (instrument 1 3 1 0 0 0) (middle3 (pos 9)) (level (7 ∷ [])) 1 h ∷ [];
  left = block_leaves 0 0 r (middle3 (pos 9)) (level (7 ∷ [])) older newer ∷ [];
}

-- C of the paper's table, whose mirror image is D
abbrev halves : Run
halves = record {
  older = middle3 (pos 1);
  newer = middle3 (pos 1);
  list = block_call (instrument 1 3 1 16384 0 0) (middle3 (pos 9)) (level (7 ∷ [])) 0 None ∷ [];
  left = block_leaves 1 1 (Ok tt) (middle3 (pos 0)) (level (0 ∷ [])) (middle3 (pos 1)) (middle3 (pos 1)) ∷ [];
}

-- 3 units read 0, and so do −3; half a sample unit reads 1, and its negative −1
abbrev read_out : Run
read_out = record {
  older = low;
  newer = low;
  list = block_call onward nines (level (7 ∷ [])) 1 None ∷ in_place_call onward (level (7 ∷ [])) 2 None ∷ [];
  left = block_leaves 1 0 (Ok tt) rest (level (0 ∷ [])) low low ∷ in_place_leaves 1 0 (Ok tt) (level (1 ∷ [])) low low ∷ [];
}

-- two steps with loss, a hit in the first
abbrev struck : Run
struck = record {
  older = pos 0 ∷ pos 500000000 ∷ minus 900000000 ∷ pos 0 ∷ [];
  newer = pos 0 ∷ pos 800000000 ∷ minus 700000000 ∷ pos 0 ∷ [];
  list = in_place_call (instrument 1 4 1 10000 0 5) (level (7 ∷ 7 ∷ [])) 1 (hit_at 1 (pos 805306368)) ∷ [];
  left = in_place_leaves 2 4 (Ok tt) (level (6 ∷ 7 ∷ [])) (pos 0 ∷ pos 1554273785 ∷ minus 164362765 ∷ pos 0 ∷ [])
      (level (0 ∷ 1809064100 ∷ 658493719 ∷ 0 ∷ [])) ∷ [];
}

-- a stiff string
abbrev bent : Run
bent = record {
  older = pos 0 ∷ pos 1 ∷ minus 2 ∷ pos 3 ∷ pos 0 ∷ [];
  newer = pos 0 ∷ pos 5 ∷ minus 7 ∷ pos 4 ∷ pos 0 ∷ [];
  list = in_place_call (instrument 4 5 1 10000 12000 5) (level (7 ∷ [])) 2 (hit_at 2 (pos 9)) ∷ [];
  left = in_place_leaves 1 3 (Ok tt) (level (0 ∷ [])) (pos 0 ∷ pos 5 ∷ minus 7 ∷ pos 4 ∷ pos 0 ∷ [])
      (pos 0 ∷ minus 4 ∷ pos 15 ∷ minus 7 ∷ pos 0 ∷ []) ∷ [];
}

-- 13 after a step, the later places as lent and not negated; then 13 at once
abbrev ended : Run
ended = record {
  older = pos 0 ∷ minus 1 ∷ pos 6000000000000 ∷ pos 0 ∷ [];
  newer = rising;
  list = block_call onward nines (level (7 ∷ 8 ∷ 9 ∷ [])) 2 None ∷ in_place_call onward (level (7 ∷ [])) 2 None ∷ [];
  left = block_leaves 1 0 (Err NextBeyond) rest (level (29802 ∷ 8 ∷ 9 ∷ [])) rising risen ∷
      in_place_leaves 0 0 (Err NextBeyond) (level (7 ∷ [])) rising risen ∷ [];
}

-- cut toward zero: 3 × 32768 / 65536 is 1, and −3 × 32768 / 65536 is −1; then plucks that 7 and 8 refuse
abbrev plucked : Run
plucked = record {
  older = level (5 ∷ 5 ∷ 5 ∷ 5 ∷ 5 ∷ []);
  newer = level (6 ∷ 6 ∷ 6 ∷ 6 ∷ 6 ∷ []);
  list = plucks 2 (pos 3) ∷ plucks 0 (pos 3) ∷ plucks 2 (pos above) ∷ [];
  left = pluck_leaves (Ok tt) shape ∷ pluck_leaves (Err NotMoving) shape ∷ pluck_leaves (Err TooStrong) shape ∷ [];
}

-- by a lent table: entry 682 of the straight one is 43648, and 1000 × 43648 / 65536 is cut; then one that 14 refuses
abbrev plucked_with : Run
plucked_with = record {
  older = level (5 ∷ 5 ∷ 5 ∷ 5 ∷ 5 ∷ []);
  newer = level (6 ∷ 6 ∷ 6 ∷ 6 ∷ 6 ∷ []);
  list = plucks_with straight ∷ plucks_with [] ∷ [];
  left = pluck_leaves (Ok tt) lent_shape ∷ pluck_leaves (Err BrokenTable) lent_shape ∷ [];
}

-- 11, 12 and 8 by what lies above zero, in the mirror image below
abbrev too_high : Run
too_high = refused_by (Err PointBeyond) (middle3 (pos above)) (middle3 (pos 0)) None

abbrev not_zero : Run
not_zero = refused_by (Err FixedNotZero) (middle3 (pos 0)) (level (1 ∷ 0 ∷ 0 ∷ [])) None

abbrev too_strong : Run
too_strong = refused_by (Err TooStrong) (middle3 (pos 0)) (middle3 (pos 0)) (hit_at 1 (pos above))

-- P of every run
pub record EachRun (P : Run → Type 0) : Type 0 where
  pub halves : P halves
  pub read_out : P read_out
  pub struck : P struck
  pub bent : P bent
  pub ended : P ended
  pub plucked : P plucked
  pub plucked_with : P plucked_with
  pub too_high : P too_high
  pub not_zero : P not_zero
  pub too_strong : P too_strong

-- the mirror image of each, and what each leaves
abbrev pub MirrorsHold : Type 0
MirrorsHold = EachRun (λ r. MirroredFrom r.older r.newer r.list)

abbrev pub RunsHold : Type 0
RunsHold = EachRun (λ r. (calls r.list (start r.older r.newer)).left ≡ r.left)

-- −2⁶³, which has no negative of 64 bits, lies beyond the ceiling: 11 applies to it as a point of a block, 8 as a force or a height
abbrev pub LowestBeyond : Type 0
LowestBeyond = beyond (minus (2 ^ 63)) ≡ true
