-- "Energy and distance": the book of the unrounded scheme, and a list of calls with the book beside it.
use Rattle.std.specs.Prelude.{Bool, false, ◌&&◌, cond, List, [], ◌∷◌, ℕ, zero, suc, ◌+◌, ◌^◌, eqb, ℤ, pos, ◌*ℤ◌, Option, None, Result}
use Rattle.types.specs.declared.Settings.{Settings}
use Rattle.types.specs.declared.Grid.{Grid}
use Rattle.types.specs.declared.Instrument.{Instrument}
use Rattle.types.specs.declared.Hit.{Hit}
use Rattle.types.specs.declared.BlockAnswer.{BlockAnswer}
use Rattle.types.specs.declared.Refusal.{Refusal}
use Rattle.pluck_table.specs.Table.{table}
use Rattle.scheme.specs.Lists.{tabulate, point, times}
use Rattle.scheme.specs.Instruments.{points, moving}
use Rattle.scheme.specs.Step.{numerator, force_of, divisor}
use Rattle.scheme.specs.Pluck.{pluck_level}
use Rattle.scheme.specs.Calls.{accepted, AfterBlock, block, AfterInPlace, block_in_place, AfterPluck, pluck, pluck_with}

-- "the kind, grid and settings of its last step", if there was one
pub data LastStep : Type 0 where
  no_step : LastStep
  step_of : Instrument → LastStep

-- "It holds n, two levels of fractions (in whole numbers, as above),
-- and the kind, grid and settings of its last step": the levels times (D+s)ⁿ
pub record Book : Type 0 where
  pub n : ℕ
  pub older : List ℤ
  pub newer : List ℤ
  pub last : LastStep

-- n 0, and these levels
abbrev pub fresh : LastStep → (older newer : List ℤ) → Book
fresh last older newer = record { n = 0; older = older; newer = newer; last = last }

-- (D+s)ⁿ
abbrev pub scale : Settings → ℕ → ℤ
scale c n = pos (divisor c ^ n)

-- "every moving point becomes the numerator of "One step" over D+s,
-- not rounded, with u and p from the book's own levels": held times (D+s)ⁿ⁺¹
unfoldable pub unrounded_at : Instrument → Option Hit → Book → ℕ → ℤ
unrounded_at i h b k = cond (moving i.grid k)
    (numerator i (point b.newer) (point b.older) (λ j. scale i.settings b.n *ℤ force_of h j) k) (pos 0)

-- "Fixed points remain 0, newer becomes older, n grows by 1."
unfoldable pub unrounded_step : Instrument → Option Hit → Book → Book
unrounded_step i h b = record {
  n = suc b.n;
  older = times (pos (divisor i.settings)) b.newer;
  newer = tabulate (points i.grid) (unrounded_at i h b);
  last = step_of i;
}

-- "for each step done .. the block's hit in the first of them"
unfoldable pub unrounded_steps : Instrument → Option Hit → ℕ → Book → Book
unrounded_steps i h zero b = b
unrounded_steps i h (suc k) b = unrounded_steps i None k (unrounded_step i h b)

-- one kind, grid and settings
abbrev pub same_instrument : Instrument → Instrument → Bool
same_instrument i l =
    eqb i.grid.kind l.grid.kind && eqb i.grid.columns l.grid.columns && eqb i.grid.rows l.grid.rows &&
    eqb i.settings.q l.settings.q && eqb i.settings.m l.settings.m && eqb i.settings.s l.settings.s

-- "if its kind, grid or settings are not those of the book's last step, or there is none yet": they are
unfoldable pub goes_on : Instrument → LastStep → Bool
goes_on i no_step = false
goes_on i (step_of l) = same_instrument i l

-- "A block with no step done, refused or not, changes nothing in the book";
-- one with steps done "first takes the two levels lent to this block, with n 0"
unfoldable pub book_block : Instrument → Option Hit → (older newer : List ℤ) → ℕ → Book → Book
book_block i h older newer zero b = b
book_block i h older newer (suc k) b = unrounded_steps i h (suc k) (cond (goes_on i b.last) b (fresh b.last older newer))

-- "An accepted pluck puts the levels its rule gives into the book, with n 0. A refused one changes nothing."
unfoldable pub book_pluck : Bool → List ℤ → Book → Book
book_pluck done xs b = cond done (fresh b.last xs xs) b

-- ---- "A user whose sum stays 0 from the start": the sum of the counts that blocks answered since the book last took its levels

-- a block with k steps done and the count c: where the book takes the levels lent to it, the sum begins anew
unfoldable pub sum_block : Instrument → (k c : ℕ) → Book → ℕ → ℕ
sum_block i zero c b sum = sum
sum_block i (suc k) c b sum = cond (goes_on i b.last) sum 0 + c

-- a pluck
unfoldable pub sum_pluck : Bool → ℕ → ℕ
sum_pluck done sum = cond done 0 sum

-- ---- a call

-- "Each block or pluck in it gets both levels as the last one left them": its other arguments.
-- `in_place_call` is "a block that takes only older and newer", `pluck_with_call` a pluck that takes "a lent table".
pub data Call : Type 0 where
  block_call : Instrument → (work samples : List ℤ) → ℕ → Option Hit → Call
  in_place_call : Instrument → (samples : List ℤ) → ℕ → Option Hit → Call
  pluck_call : Grid → ℕ → ℕ → ℤ → Call
  pluck_with_call : Grid → ℕ → ℕ → ℤ → (lent : List ℕ) → Call

-- what a call answers, and what it leaves in the slices lent to it beside the two levels
pub data Outcome : Type 0 where
  block_outcome : BlockAnswer → (work samples : List ℤ) → Outcome
  in_place_outcome : BlockAnswer → (samples : List ℤ) → Outcome
  pluck_outcome : Result Unit Refusal → Outcome

abbrev pub steps_of : Outcome → ℕ
steps_of (block_outcome a work samples) = a.steps
steps_of (in_place_outcome a samples) = a.steps
steps_of (pluck_outcome r) = 0

abbrev pub inexact_of : Outcome → ℕ
inexact_of (block_outcome a work samples) = a.inexact
inexact_of (in_place_outcome a samples) = a.inexact
inexact_of (pluck_outcome r) = 0

abbrev pub samples_of : Outcome → List ℤ
samples_of (block_outcome a work samples) = samples
samples_of (in_place_outcome a samples) = samples
samples_of (pluck_outcome r) = []

abbrev pub refusal_of : Outcome → Result Unit Refusal
refusal_of (block_outcome a work samples) = a.outcome
refusal_of (in_place_outcome a samples) = a.outcome
refusal_of (pluck_outcome r) = r

-- all that a call leaves
pub record Left : Type 0 where
  pub outcome : Outcome
  pub older : List ℤ
  pub newer : List ℤ

abbrev pub left_by_block : AfterBlock → Left
left_by_block a = record { outcome = block_outcome a.answer a.work a.samples; older = a.older; newer = a.newer }

abbrev pub left_by_in_place : AfterInPlace → Left
left_by_in_place a = record { outcome = in_place_outcome a.answer a.samples; older = a.older; newer = a.newer }

abbrev pub left_by_pluck : AfterPluck → Left
left_by_pluck a = record { outcome = pluck_outcome a.outcome; older = a.older; newer = a.newer }

-- a call of the two levels
unfoldable pub leaves : Call → (older newer : List ℤ) → Left
leaves (block_call i work samples pick h) older newer = left_by_block (block i older newer work samples pick h)
leaves (in_place_call i samples pick h) older newer = left_by_in_place (block_in_place i older newer samples pick h)
leaves (pluck_call g c w a) older newer = left_by_pluck (pluck g older newer c w a)
leaves (pluck_with_call g c w a lent) older newer = left_by_pluck (pluck_with g older newer c w a lent)

-- "It is fed the calls' arguments, lent levels included, and each block's answered count of steps, which the rules above fix."
unfoldable pub book_call : Call → Outcome → (older newer : List ℤ) → Book → Book
book_call (block_call i work samples pick h) o older newer b = book_block i h older newer (steps_of o) b
book_call (in_place_call i samples pick h) o older newer b = book_block i h older newer (steps_of o) b
book_call (pluck_call g c w a) o older newer b = book_pluck (accepted (refusal_of o)) (pluck_level table g c w a) b
book_call (pluck_with_call g c w a lent) o older newer b = book_pluck (accepted (refusal_of o)) (pluck_level lent g c w a) b

unfoldable pub sum_call : Call → Outcome → Book → ℕ → ℕ
sum_call (block_call i work samples pick h) o b sum = sum_block i (steps_of o) (inexact_of o) b sum
sum_call (in_place_call i samples pick h) o b sum = sum_block i (steps_of o) (inexact_of o) b sum
sum_call (pluck_call g c w a) o b sum = sum_pluck (accepted (refusal_of o)) sum
sum_call (pluck_with_call g c w a lent) o b sum = sum_pluck (accepted (refusal_of o)) sum

-- ---- a list of calls

-- the two levels, the book beside them, and the sum of the counts since the book last took its levels
pub record State : Type 0 where
  pub older : List ℤ
  pub newer : List ℤ
  pub book : Book
  pub inexact : ℕ

-- "It starts with n 0, no last step, and the two levels that the list starts from."
abbrev pub start : (older newer : List ℤ) → State
start older newer = record { older = older; newer = newer; book = fresh no_step older newer; inexact = 0 }

-- the levels that a call left, the book fed with it, and the sum with its count
abbrev pub state_after : Call → Left → State → State
state_after k l t = record {
  older = l.older;
  newer = l.newer;
  book = book_call k l.outcome t.older t.newer t.book;
  inexact = sum_call k l.outcome t.book t.inexact;
}

abbrev pub called : Call → State → Left
called k t = leaves k t.older t.newer

-- what each call left, in order, and the state after the last
pub record AfterCalls : Type 0 where
  pub left : List Left
  pub state : State

-- one call after the other
unfoldable pub calls : List Call → State → AfterCalls
calls [] t = record { left = []; state = t }
calls (k ∷ ks) t =
    let l = called k t in
    let rest = calls ks (state_after k l t) in
    record { left = l ∷ rest.left; state = rest.state }

-- a claim about each call of a list: about the state before it, its arguments and its outcome
unfoldable pub EachCall : (State → Call → Outcome → Type 0) → List Call → State → Type 0
EachCall P [] t = Unit {0}
EachCall P (k ∷ ks) t = let l = called k t in P t k l.outcome × EachCall P ks (state_after k l t)
