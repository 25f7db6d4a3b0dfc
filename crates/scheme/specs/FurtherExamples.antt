-- A second table: what A to J leave loose. Each kind's step, both sides of every refusal's border,
-- remainders and counts, samples, readings, plucks, blocks, blocks on two levels, energy, and the book of lists of calls.
-- The numbers come from the reference in another language under host/, or by hand.
use Rattle.std.specs.Prelude.{◌≡◌, false, cond, List, [], ◌∷◌, map, ℕ, ◌+◌, ◌-◌, ◌^◌, ℤ, pos, length, Option, None, Ok, Err}
use Rattle.std.specs.Float.{binary64}
use Rattle.std.specs.Float.Ieee.{of_bits}
use Rattle.types.specs.declared.Instrument.{Instrument}
use Rattle.types.specs.declared.Hit.{Hit}
use Rattle.types.specs.declared.Refusal.TheVariants.{UnknownKind, WrongSize, SheetNumber, Coefficient, Unstable}
use Rattle.types.specs.declared.Refusal.TheVariants.{WrongLength, NotMoving, TooStrong, PickUp, HalfWidth, PointBeyond}
use Rattle.types.specs.declared.Refusal.TheVariants.{FixedNotZero, NextBeyond, BrokenTable}
use Rattle.types.specs.Numbers.{ceiling, number, number_of, hit_at}
use Rattle.pluck_table.specs.Table.{table}
use Rattle.scheme.specs.Lists.{point}
use Rattle.scheme.specs.Step.{round_away, next_level, remainder_of, inexact_in, sample_of}
use Rattle.scheme.specs.Pluck.{pluck_level}
use Rattle.scheme.specs.Refusals.{wrong_length, instrument_refusal, block_refusal, pluck_refusal, reading_refusal}
use Rattle.scheme.specs.Calls.{AfterBlock, capped, reported, block, AfterInPlace, in_place_left, block_in_place, pluck, reading, reading_value}
use Rattle.scheme.specs.Energy.{energy}
use Rattle.scheme.specs.Book.{step_of, Call, block_call, in_place_call, pluck_call, pluck_with_call, block_outcome, in_place_outcome}
use Rattle.scheme.specs.Book.{pluck_outcome, Outcome, Left, AfterCalls, State, start, calls}
use Rattle.scheme.specs.Claims.{distance, bound, Near}
use Rattle.scheme.specs.Exact.{never_rounded}
use Rattle.scheme.specs.Examples.{grid, instrument, level, minus, next, middle3, middle9}

-- the numbers of refusals
abbrev instrument_numbers : List Instrument → List ℕ
instrument_numbers is = map (λ i. number_of (instrument_refusal i)) is

-- a string of four points at rest, and what a block of it is refused by
abbrev pub rest : List ℤ
rest = level (0 ∷ 0 ∷ 0 ∷ 0 ∷ [])

abbrev string : Instrument
string = instrument 1 4 1 65536 0 0

abbrev refused_by : (older newer work : List ℤ) → ℕ → Option Hit → ℕ
refused_by older newer work pick h = number_of (block_refusal string older newer (wrong_length string.grid (length work)) pick h)

-- what a block of that string from rest with this hit is refused by
abbrev hit_refused_by : ℕ → ℤ → ℕ
hit_refused_by p f = refused_by rest rest rest 0 (hit_at p f)

-- what a pluck of a string of five points is refused by
abbrev pluck_refused_by : ℕ → (older newer : List ℤ) → ℕ → ℕ → ℤ → ℕ
pluck_refused_by k older newer c w a = number_of (pluck_refusal (grid k 5 1) (length older) (length newer) c w a)

abbrev pub five : List ℤ
five = level (0 ∷ 0 ∷ 0 ∷ 0 ∷ 0 ∷ [])

-- one more than the ceiling
abbrev pub above : ℕ
above = ceiling + 1

-- ---- a list of calls

abbrev pub voice : ℕ → Instrument
voice s = instrument 1 4 1 10000 0 s

abbrev pub nines : List ℤ
nines = level (9 ∷ 9 ∷ 9 ∷ 9 ∷ [])

-- two steps with a hit; the same refused; one step; one step with another loss; no step, with a hit; a pluck; a pluck refused
abbrev pub two_steps : Call
two_steps = block_call (voice 5) nines (level (0 ∷ 0 ∷ [])) 1 (hit_at 1 (pos 7))

abbrev refused : Call
refused = block_call (voice 5) nines (level (0 ∷ 0 ∷ [])) 9 (hit_at 1 (pos 7))

abbrev pub one_step : Call
one_step = block_call (voice 5) nines (level (0 ∷ [])) 1 None

abbrev other_step : Call
other_step = block_call (voice 6) nines (level (0 ∷ [])) 1 None

abbrev no_steps : Call
no_steps = block_call (voice 6) nines [] 1 (hit_at 2 (pos 5))

abbrev plucks : Call
plucks = pluck_call (grid 1 4 1) 2 2 (pos 9)

abbrev pluck_turned_down : Call
pluck_turned_down = pluck_call (grid 1 4 1) 0 2 (pos 9)

-- a block of the list on two levels instead
abbrev on_two : Call → Call
on_two (block_call i work samples pick h) = in_place_call i samples pick h
on_two (in_place_call i samples pick h) = in_place_call i samples pick h
on_two (pluck_call g c w a) = pluck_call g c w a
on_two (pluck_with_call g c w a lent) = pluck_with_call g c w a lent

abbrev pub from_here : List Call → AfterCalls
from_here ks = calls ks (start (pos 0 ∷ pos 1 ∷ minus 2 ∷ pos 0 ∷ []) (level (0 ∷ 3 ∷ 4 ∷ 0 ∷ [])))

abbrev pub after : List Call → State
after ks = (from_here ks).state

-- what each call answered
abbrev pub outcomes_of : AfterCalls → List Outcome
outcomes_of a = map (λ (l : Left). l.outcome) a.left

-- where the book goes on through three steps
abbrev pub three_on : State
three_on = record {
  older = level (0 ∷ 19 ∷ 13 ∷ 0 ∷ []);
  newer = level (0 ∷ 22 ∷ 16 ∷ 0 ∷ []);
  book = record {
    n = 3;
    older = level (0 ∷ 5131748136475191 ∷ 3783153414978756 ∷ 0 ∷ []);
    newer = level (0 ∷ 5982145047920445 ∷ 4594315337286502 ∷ 0 ∷ []);
    last = step_of (voice 5);
  };
  inexact = 6;
}

-- one step of a free string of 20 points after which every point lies half a unit from the unrounded scheme
abbrev halves : Instrument
halves = instrument 3 20 1 16384 0 0

abbrev still20 : List ℤ
still20 = level (0 ∷ 0 ∷ 0 ∷ 0 ∷ 0 ∷ 0 ∷ 0 ∷ 0 ∷ 0 ∷ 0 ∷ 0 ∷ 0 ∷ 0 ∷ 0 ∷ 0 ∷ 0 ∷ 0 ∷ 0 ∷ 0 ∷ 0 ∷ [])

abbrev zigzag20 : List ℤ
zigzag20 = level (0 ∷ 1 ∷ 0 ∷ 1 ∷ 0 ∷ 1 ∷ 0 ∷ 1 ∷ 0 ∷ 1 ∷ 0 ∷ 1 ∷ 0 ∷ 1 ∷ 0 ∷ 1 ∷ 0 ∷ 1 ∷ 0 ∷ 1 ∷ [])

abbrev after_halves : State
after_halves = (calls (block_call halves still20 (level (0 ∷ [])) 0 None ∷ []) (start still20 zigzag20)).state

-- two steps that leave a string where it is
abbrev faded : ℤ → AfterBlock
faded x = record {
  answer = record { steps = 2; inexact = 2; outcome = Ok tt };
  older = middle3 x;
  newer = middle3 x;
  work = middle3 (pos 0);
  samples = level (0 ∷ 0 ∷ []);
}

-- a block on two levels of a string of five points at rest, hit by 4
abbrev struck : List ℤ → AfterInPlace
struck places = block_in_place (instrument 1 5 1 16384 0 0) five five places 1 (hit_at 1 (pos 4))

-- what one of the string of four points is refused by
abbrev in_place_refused_by : (older newer : List ℤ) → ℕ
in_place_refused_by older newer = number_of (block_in_place string older newer (level (7 ∷ [])) 0 None).answer.outcome

-- the count of a step without a hit, from newer and older
abbrev count : Instrument → (newer older : List ℤ) → ℕ
count i newer older = inexact_in i None older newer

-- the count of a step where its settings are such that no point is ever inexact, else 0
abbrev where_never_rounded : Instrument → (newer older : List ℤ) → ℕ
where_never_rounded i newer older = cond (never_rounded i.settings) (count i newer older) 0

-- strings and a bar of four points, with and without what is rounded
abbrev settled : List Instrument
settled =
    instrument 1 4 1 65536 0 0 ∷ instrument 1 4 1 0 0 0 ∷ instrument 1 4 1 32768 0 0 ∷ instrument 1 4 1 65535 0 0 ∷ instrument 4 4 1 0 1 0
    ∷ instrument 1 4 1 65536 0 1 ∷ []

-- halves, a little more and less, multiples: over D, and over the odd D + 5
abbrev over_d : List ℤ
over_d = pos 32768 ∷ minus 32768 ∷ pos 32767 ∷ minus 98305 ∷ pos 65536 ∷ minus 131072 ∷ pos 0 ∷ []

abbrev over_odd : List ℤ
over_odd = pos 32770 ∷ pos 32771 ∷ minus 32770 ∷ minus 32771 ∷ pos 65541 ∷ []

pub record FurtherHold : Type 0 where
  -- ---- one step
  -- "there newer "0 4 0" over zeros must give "8 0 8""
  pub free_end_twice : next (instrument 3 3 1 65536 0 0) (middle3 (pos 4)) (middle3 (pos 0)) ≡ level (8 ∷ 0 ∷ 8 ∷ [])
  pub half_free :
      (next (instrument 2 3 1 65536 0 0) (middle3 (pos 4)) (middle3 (pos 0)) ≡ level (0 ∷ 0 ∷ 8 ∷ [])) ×
      (next (instrument 2 3 1 65536 0 0) (level (0 ∷ 0 ∷ 4 ∷ [])) (middle3 (pos 0)) ≡ middle3 (pos 4))
  pub bar_with_loss :
      next (instrument 4 6 1 30000 5000 100) (pos 0 ∷ pos 7 ∷ minus 3 ∷ pos 9 ∷ minus 11 ∷ pos 0 ∷ [])
      (pos 0 ∷ pos 1 ∷ minus 2 ∷ pos 3 ∷ pos 5 ∷ pos 0 ∷ [])
      ≡ pos 0 ∷ pos 1 ∷ pos 13 ∷ minus 9 ∷ minus 6 ∷ pos 0 ∷ []
  pub free_with_hit :
      next_level (instrument 3 4 1 40000 0 12345) (hit_at 3 (pos 7)) (level (1 ∷ 2 ∷ 3 ∷ 4 ∷ [])) (pos 10 ∷ minus 20 ∷ pos 30 ∷ minus 40 ∷ [])
      ≡ minus 15 ∷ pos 6 ∷ minus 13 ∷ pos 8 ∷ []
  -- with q, m and s 0 the next value is 2u − p: 2 at each moving point of a level of ones over zeros
  pub fixed_ring : next (instrument 5 4 3 0 0 0) (level (1 ∷ 1 ∷ 1 ∷ 1 ∷ 1 ∷ 1 ∷ 1 ∷ 1 ∷ 1 ∷ 1 ∷ 1 ∷ 1 ∷ [])) []
      ≡ level (0 ∷ 0 ∷ 0 ∷ 0 ∷ 0 ∷ 2 ∷ 2 ∷ 0 ∷ 0 ∷ 0 ∷ 0 ∷ 0 ∷ [])
  pub round_ring :
      next (instrument 6 5 5 0 0 0) (level (1 ∷ 1 ∷ 1 ∷ 1 ∷ 1 ∷ 1 ∷ 1 ∷ 1 ∷ 1 ∷ 1 ∷ 1 ∷ 1 ∷ 1 ∷ 1 ∷ 1 ∷ 1 ∷ 1 ∷ 1 ∷ 1 ∷ 1 ∷ 1 ∷ 1 ∷ 1 ∷ 1
      ∷ 1 ∷ [])) []
      ≡ level (0 ∷ 0 ∷ 0 ∷ 0 ∷ 0 ∷ 0 ∷ 2 ∷ 2 ∷ 2 ∷ 0 ∷ 0 ∷ 2 ∷ 2 ∷ 2 ∷ 0 ∷ 0 ∷ 2 ∷ 2 ∷ 2 ∷ 0 ∷ 0 ∷ 0 ∷ 0 ∷ 0 ∷ 0 ∷ [])
  pub membrane_step :
      next (instrument 5 4 4 20000 0 0) (pos 0 ∷ pos 0 ∷ pos 0 ∷ pos 0 ∷ pos 0 ∷ pos 5 ∷ pos 9 ∷ pos 0 ∷ pos 0 ∷ minus 7 ∷ pos 2 ∷ pos 0
      ∷ pos 0 ∷ pos 0 ∷ pos 0 ∷ pos 0 ∷ []) []
      ≡ pos 0 ∷ pos 0 ∷ pos 0 ∷ pos 0 ∷ pos 0 ∷ pos 5 ∷ pos 9 ∷ pos 0 ∷ pos 0 ∷ minus 3 ∷ pos 2 ∷ pos 0 ∷ pos 0 ∷ pos 0 ∷ pos 0 ∷ pos 0 ∷ []
  -- ---- remainders and counts
  pub wholes :
      (map (λ n. round_away n 65536) over_d ≡ pos 1 ∷ minus 1 ∷ pos 0 ∷ minus 2 ∷ pos 1 ∷ minus 2 ∷ pos 0 ∷ []) ×
      (map (λ n. round_away n 65541) over_odd ≡ pos 0 ∷ pos 1 ∷ pos 0 ∷ minus 1 ∷ pos 1 ∷ [])
  -- "numerator less whole number × (D+s)"
  pub remainders :
      (map (λ n. remainder_of n 65536) over_d ≡ minus 32768 ∷ pos 32768 ∷ pos 32767 ∷ pos 32767 ∷ pos 0 ∷ pos 0 ∷ pos 0 ∷ []) ×
      (map (λ n. remainder_of n 65541) over_odd ≡ pos 32770 ∷ minus 32770 ∷ minus 32770 ∷ pos 32770 ∷ pos 0 ∷ [])
  -- A to G
  pub counts_of_examples :
      count (instrument 1 3 1 65536 0 0) (middle3 (pos 1000)) (middle3 (pos 1000)) ∷
      count (instrument 5 3 3 32768 0 0) (middle9 (pos 1000)) (middle9 (pos 1000)) ∷
      count (instrument 1 3 1 16384 0 0) (middle3 (pos 1)) (middle3 (pos 1)) ∷
      count (instrument 1 3 1 16384 0 0) (middle3 (minus 1)) (middle3 (minus 1)) ∷
      count (instrument 1 3 1 0 0 65536) (middle3 (pos 3)) (middle3 (pos 7)) ∷
      count (instrument 3 3 1 65536 0 0) (level (4 ∷ 0 ∷ 0 ∷ [])) (level (0 ∷ 0 ∷ 0 ∷ [])) ∷
      count (instrument 4 5 1 0 16384 0) (level (0 ∷ 0 ∷ 8 ∷ 0 ∷ 0 ∷ [])) (level (0 ∷ 0 ∷ 0 ∷ 0 ∷ 0 ∷ [])) ∷ []
      ≡ 0 ∷ 0 ∷ 1 ∷ 1 ∷ 0 ∷ 0 ∷ 0 ∷ []
  -- "moving points": at the fixed ends the numerator would be 16384
  pub fixed_not_counted : count (instrument 1 4 1 16384 0 0) (level (0 ∷ 1 ∷ 1 ∷ 0 ∷ [])) rest ≡ 2
  -- remainders of −2 and 1, of 2 and −1
  pub small_remainders :
      count (instrument 1 4 1 1 0 0) (level (0 ∷ 1 ∷ 0 ∷ 0 ∷ [])) rest ∷
      count (instrument 1 4 1 1 0 0) (pos 0 ∷ minus 1 ∷ pos 0 ∷ pos 0 ∷ []) rest ∷ []
      ≡ 2 ∷ 2 ∷ []
  -- "a multiple of D+s", the force in it: a numerator of D over 2D, and one of D + 1 over D + 1
  pub by_divisor :
      inexact_in (instrument 1 3 1 0 0 65536) (hit_at 1 (pos 1)) (middle3 (pos 0)) (middle3 (pos 0)) ∷
      count (instrument 1 3 1 0 0 1) (middle3 (pos 1)) (middle3 (pos 1)) ∷ []
      ≡ 1 ∷ 0 ∷ []
  -- all points of a free string
  pub free_ends_counted : count halves zigzag20 still20 ≡ 20
  -- "the sum over its steps done": 0, 0, 2 and 3
  pub count_of_steps :
      block (instrument 1 5 1 16384 0 0) five five five (level (7 ∷ 7 ∷ 7 ∷ 7 ∷ [])) 1 (hit_at 1 (pos 4))
      ≡ record {
        answer = record { steps = 4; inexact = 5; outcome = Ok tt };
        older = level (0 ∷ 5 ∷ 3 ∷ 0 ∷ 0 ∷ []);
        newer = level (0 ∷ 2 ∷ 5 ∷ 1 ∷ 0 ∷ []);
        work = five;
        samples = level (0 ∷ 0 ∷ 0 ∷ 0 ∷ []);
      }
  -- 13 at the second step, in which two points would have been inexact as well; 13 at the first
  pub count_before_end :
      (block (instrument 1 4 1 1 0 0) (pos 0 ∷ minus 1 ∷ pos 6000000000000 ∷ pos 0 ∷ []) (level (0 ∷ 1 ∷ 7000000000000 ∷ 0 ∷ []))
      rest (level (7 ∷ 8 ∷ 9 ∷ [])) 2 None
      ≡ record {
        answer = record { steps = 1; inexact = 2; outcome = Err NextBeyond };
        older = level (0 ∷ 1 ∷ 7000000000000 ∷ 0 ∷ []);
        newer = level (0 ∷ 106811526 ∷ 7999786376953 ∷ 0 ∷ []);
        work = rest;
        samples = level (29802 ∷ 8 ∷ 9 ∷ []);
      }) ×
      ((block (instrument 1 4 1 1 0 0) (level (0 ∷ 1 ∷ 7000000000000 ∷ 0 ∷ [])) (level (0 ∷ 106811526 ∷ 7999786376953 ∷ 0 ∷ []))
      rest (level (7 ∷ 8 ∷ 9 ∷ [])) 2 None).answer
      ≡ record { steps = 0; inexact = 0; outcome = Err NextBeyond })
  -- "held at 2⁶⁴ − 1", and in a block's answer
  pub count_held :
      (map capped (0 ∷ 2 ^ 63 ∷ (2 ^ 64 - 1) ∷ 2 ^ 64 ∷ 2 ^ 65 ∷ [])
      ≡ 0 ∷ 9223372036854775808 ∷ 18446744073709551615 ∷ 18446744073709551615 ∷ 18446744073709551615 ∷ []) ×
      (reported (record { steps = 7; inexact = 2 ^ 64; outcome = Ok tt }) ≡ record {
        steps = 7;
        inexact = 18446744073709551615;
        outcome = Ok tt;
      })
  -- R = 1 and q 0; R of a half, q 65535, a stiffness and a loss, with which points are inexact
  pub never_inexact :
      (map (λ i. count i (level (0 ∷ 1 ∷ 0 ∷ 0 ∷ [])) rest) settled ≡ 0 ∷ 0 ∷ 1 ∷ 2 ∷ 2 ∷ 1 ∷ []) ×
      (map (λ i. where_never_rounded i (level (0 ∷ 1 ∷ 0 ∷ 0 ∷ [])) rest) settled ≡ 0 ∷ 0 ∷ 0 ∷ 0 ∷ 0 ∷ 0 ∷ [])
  -- ---- 1, 2, 4 and 5
  pub numbers :
      number_of (Ok tt) ∷ map number (UnknownKind ∷ WrongSize ∷ SheetNumber ∷ Coefficient ∷ Unstable ∷ WrongLength ∷ NotMoving ∷ TooStrong ∷ PickUp
      ∷ HalfWidth ∷ PointBeyond ∷ FixedNotZero ∷ NextBeyond ∷ BrokenTable ∷ [])
      ≡ 0 ∷ 1 ∷ 2 ∷ 3 ∷ 4 ∷ 5 ∷ 6 ∷ 7 ∷ 8 ∷ 9 ∷ 10 ∷ 11 ∷ 12 ∷ 13 ∷ 14 ∷ []
  pub kinds :
      instrument_numbers (instrument 0 3 1 0 0 0 ∷ instrument 1 3 1 0 0 0 ∷ instrument 2 3 1 0 0 0 ∷ instrument 3 3 1 0 0 0
      ∷ instrument 4 3 1 0 0 0 ∷ instrument 5 3 3 0 0 0 ∷ instrument 6 3 3 0 0 0 ∷ instrument 7 3 3 0 0 0
      ∷ instrument 8 3 3 0 0 0 ∷ [])
      ≡ 1 ∷ 0 ∷ 0 ∷ 0 ∷ 0 ∷ 0 ∷ 0 ∷ 0 ∷ 1 ∷ []
  pub line_sizes :
      instrument_numbers (instrument 1 2 1 0 0 0 ∷ instrument 1 1024 1 0 0 0 ∷ instrument 1 1025 1 0 0 0 ∷ instrument 1 3 0 0 0 0
      ∷ instrument 1 3 2 0 0 0 ∷
      instrument 2 2 1 0 0 0 ∷ instrument 2 1024 1 0 0 0 ∷ instrument 2 1025 1 0 0 0 ∷ instrument 2 3 0 0 0 0 ∷ instrument 2 3 2 0 0 0 ∷
      instrument 3 2 1 0 0 0 ∷ instrument 3 1024 1 0 0 0 ∷ instrument 3 1025 1 0 0 0 ∷ instrument 3 3 0 0 0 0 ∷ instrument 3 3 2 0 0 0 ∷
      instrument 4 2 1 0 0 0 ∷ instrument 4 1024 1 0 0 0 ∷ instrument 4 1025 1 0 0 0 ∷ instrument 4 3 0 0 0 0 ∷ instrument 4 3 2 0 0 0 ∷ [])
      ≡ 2 ∷ 0 ∷ 2 ∷ 2 ∷ 2 ∷ 2 ∷ 0 ∷ 2 ∷ 2 ∷ 2 ∷ 2 ∷ 0 ∷ 2 ∷ 2 ∷ 2 ∷ 2 ∷ 0 ∷ 2 ∷ 2 ∷ 2 ∷ []
  pub membrane_sizes :
      instrument_numbers (instrument 5 2 3 0 0 0 ∷ instrument 5 3 2 0 0 0 ∷ instrument 5 3 64 0 0 0 ∷ instrument 5 64 3 0 0 0
      ∷ instrument 5 64 64 0 0 0 ∷ instrument 5 65 64 0 0 0 ∷ instrument 5 64 65 0 0 0 ∷ [])
      ≡ 2 ∷ 2 ∷ 0 ∷ 0 ∷ 0 ∷ 2 ∷ 2 ∷ []
  pub round_sizes : instrument_numbers (instrument 6 2 2 0 0 0 ∷ instrument 6 64 64 0 0 0 ∷ instrument 6 65 65 0 0 0 ∷ instrument 6 5 6 0
      0 0
      ∷ instrument 6 6 5 0 0 0 ∷ []) ≡ 2 ∷ 0 ∷ 2 ∷ 2 ∷ 2 ∷ []
  pub coefficients :
      instrument_numbers (instrument 1 3 1 65536 0 65536 ∷ instrument 1 3 1 65537 0 0 ∷ instrument 4 3 1 0 65537 0
      ∷ instrument 1 3 1 0 0 65537 ∷ []) ≡ 0 ∷ 4 ∷ 4 ∷ 4 ∷ []
  pub stability :
      instrument_numbers (instrument 2 3 1 65536 0 0 ∷ instrument 3 3 1 65536 0 0 ∷ instrument 4 3 1 0 16384 0 ∷ instrument 4 3 1 0 16385 0
      ∷ instrument 4 3 1 1 16384 0 ∷ instrument 6 3 3 32768 0 0 ∷ instrument 6 3 3 32769 0 0 ∷ [])
      ≡ 0 ∷ 0 ∷ 0 ∷ 5 ∷ 5 ∷ 0 ∷ 5 ∷ []
  pub stiffness : instrument_numbers (instrument 1 3 1 0 1 0 ∷ instrument 2 3 1 0 1 0 ∷ instrument 3 3 1 0 1 0 ∷ instrument 4 3 1 0 1 0
      ∷ instrument 5 3 3 0 1 0 ∷ instrument 6 3 3 0 1 0 ∷ instrument 7 3 3 0 1 0 ∷ []) ≡ 5 ∷ 5 ∷ 5 ∷ 0 ∷ 5 ∷ 5 ∷ 0 ∷ []
  -- ---- the refusals of a block, a pluck and a reading
  pub lengths :
      refused_by rest rest rest 0 None ∷ refused_by five rest rest 0 None ∷ refused_by rest five rest 0 None
      ∷ refused_by rest rest five 0 None ∷ refused_by rest rest (middle3 (pos 0)) 0 None ∷ []
      ≡ 0 ∷ 6 ∷ 6 ∷ 6 ∷ 6 ∷ []
  pub hits : hit_refused_by 0 (pos 0) ∷ hit_refused_by 1 (pos 0) ∷ hit_refused_by 2 (pos 0) ∷ hit_refused_by 3 (pos 0) ∷ hit_refused_by 4
      (pos 0) ∷ []
      ≡ 7 ∷ 0 ∷ 0 ∷ 7 ∷ 7 ∷ []
  pub forces : hit_refused_by 1 (pos ceiling) ∷ hit_refused_by 1 (pos above) ∷ hit_refused_by 1 (minus ceiling) ∷ hit_refused_by 1
      (minus above)
      ∷ [] ≡ 0 ∷ 8 ∷ 0 ∷ 8 ∷ []
  pub pick_ups : refused_by rest rest rest 3 None ∷ refused_by rest rest rest 4 None ∷ [] ≡ 0 ∷ 9 ∷ []
  pub high_points :
      refused_by (level (0 ∷ ceiling ∷ 0 ∷ 0 ∷ [])) rest rest 0 None ∷ refused_by (level (0 ∷ above ∷ 0 ∷ 0 ∷ [])) rest rest 0 None ∷
      refused_by rest (pos 0 ∷ pos 0 ∷ minus ceiling ∷ pos 0 ∷ []) rest 0 None
      ∷ refused_by rest (pos 0 ∷ pos 0 ∷ minus above ∷ pos 0 ∷ []) rest 0 None ∷
      refused_by rest rest (level (above ∷ above ∷ above ∷ above ∷ [])) 0 None ∷ []
      ≡ 0 ∷ 11 ∷ 0 ∷ 11 ∷ 0 ∷ []
  pub fixed_points :
      refused_by (level (1 ∷ 0 ∷ 0 ∷ 0 ∷ [])) rest rest 0 None ∷ refused_by (level (0 ∷ 0 ∷ 0 ∷ 1 ∷ [])) rest rest 0 None ∷
      refused_by rest (minus 1 ∷ pos 0 ∷ pos 0 ∷ pos 0 ∷ []) rest 0 None ∷ refused_by rest (level (0 ∷ 0 ∷ 0 ∷ 1 ∷ [])) rest 0 None
      ∷ refused_by rest (level (0 ∷ 1 ∷ 1 ∷ 0 ∷ [])) rest 0 None ∷ []
      ≡ 12 ∷ 12 ∷ 12 ∷ 12 ∷ 0 ∷ []
  pub pluck_kinds :
      pluck_refused_by 0 five five 2 1 (pos 0) ∷ pluck_refused_by 1 five five 2 1 (pos 0) ∷ pluck_refused_by 2 five five 2 1 (pos 0)
      ∷ pluck_refused_by 3 five five 2 1 (pos 0) ∷ pluck_refused_by 4 five five 2 1 (pos 0) ∷
      pluck_refused_by 5 five five 2 1 (pos 0) ∷ pluck_refused_by 6 five five 2 1 (pos 0) ∷ pluck_refused_by 7 five five 2 1 (pos 0)
      ∷ number_of (pluck_refusal (grid 1 5 2) 5 5 2 1 (pos 0)) ∷ []
      ≡ 1 ∷ 0 ∷ 0 ∷ 0 ∷ 0 ∷ 1 ∷ 1 ∷ 1 ∷ 2 ∷ []
  pub pluck_lengths : pluck_refused_by 1 rest five 2 1 (pos 0) ∷ pluck_refused_by 1 five rest 2 1 (pos 0)
      ∷ pluck_refused_by 1 (level (above ∷ 1 ∷ 1 ∷ 1 ∷ 1 ∷ [])) five 2 1 (pos 0) ∷ [] ≡ 6 ∷ 6 ∷ 0 ∷ []
  pub pluck_centres :
      pluck_refused_by 1 five five 0 1 (pos 0) ∷ pluck_refused_by 1 five five 4 1 (pos 0) ∷ pluck_refused_by 2 five five 4 1 (pos 0) ∷
      pluck_refused_by 3 five five 0 1 (pos 0) ∷ pluck_refused_by 3 five five 5 1 (pos 0) ∷ []
      ≡ 7 ∷ 7 ∷ 0 ∷ 0 ∷ 7 ∷ []
  pub pluck_heights : pluck_refused_by 1 five five 2 1 (pos ceiling) ∷ pluck_refused_by 1 five five 2 1 (pos above)
      ∷ pluck_refused_by 1 five five 2 1 (minus ceiling) ∷ pluck_refused_by 1 five five 2 1 (minus above) ∷ [] ≡ 0 ∷ 8 ∷ 0 ∷ 8 ∷ []
  pub widths : pluck_refused_by 1 five five 2 0 (pos 0) ∷ pluck_refused_by 1 five five 2 4 (pos 0) ∷ pluck_refused_by 1 five five 2 5
      (pos 0) ∷ []
      ≡ 10 ∷ 0 ∷ 10 ∷ []
  pub reading_refusals :
      number_of (reading_refusal (grid 0 4 1) rest 0) ∷ number_of (reading_refusal (grid 5 4 1) rest 0)
      ∷ number_of (reading_refusal (grid 1 4 1) five 0) ∷ number_of (reading_refusal (grid 1 4 1) rest 4) ∷
      number_of (reading_refusal (grid 1 4 1) (level (0 ∷ above ∷ 0 ∷ 0 ∷ [])) 0)
      ∷ number_of (reading_refusal (grid 1 4 1) (level (1 ∷ 0 ∷ 0 ∷ 0 ∷ [])) 0) ∷ number_of (reading_refusal (grid 1 4 1) rest 3) ∷ []
      ≡ 1 ∷ 2 ∷ 6 ∷ 9 ∷ 11 ∷ 12 ∷ 0 ∷ []
  -- where several apply
  pub lowest_first :
      number_of (block_refusal (instrument 9 1 9 65537 1 0) five rest false 9 (hit_at 9 (pos above)))
      ∷ number_of (block_refusal (instrument 1 2 1 65537 1 0) five rest false 9 (hit_at 9 (pos above))) ∷
      number_of (block_refusal (instrument 1 4 1 65537 1 0) five rest false 9 (hit_at 9 (pos above)))
      ∷ number_of (block_refusal (instrument 1 4 1 0 1 0) five rest false 9 (hit_at 9 (pos above))) ∷
      refused_by five (level (1 ∷ above ∷ 0 ∷ 0 ∷ [])) rest 9 (hit_at 9 (pos above))
      ∷ refused_by rest (level (1 ∷ above ∷ 0 ∷ 0 ∷ [])) rest 9 (hit_at 9 (pos above)) ∷
      refused_by rest (level (1 ∷ above ∷ 0 ∷ 0 ∷ [])) rest 9 (hit_at 1 (pos above))
      ∷ refused_by rest (level (1 ∷ above ∷ 0 ∷ 0 ∷ [])) rest 9 (hit_at 1 (pos 1))
      ∷ refused_by rest (level (1 ∷ above ∷ 0 ∷ 0 ∷ [])) rest 0 None ∷ []
      ≡ 1 ∷ 2 ∷ 4 ∷ 5 ∷ 6 ∷ 7 ∷ 8 ∷ 9 ∷ 11 ∷ []
  -- ---- samples, readings, plucks, blocks
  -- a few units from zero, both sides of a half and of three halves, the ceiling
  pub samples :
      map sample_of
      (pos 3 ∷ pos 134217727 ∷ pos 134217728 ∷ pos 402653183 ∷ pos 402653184 ∷ pos 8000000000000 ∷ pos ceiling ∷ pos 0 ∷ minus 3 ∷
      minus 134217727 ∷ minus 134217728 ∷ minus 402653183 ∷ minus 402653184 ∷ minus 8000000000000 ∷ minus ceiling ∷ [])
      ≡ pos 0 ∷ pos 0 ∷ pos 1 ∷ pos 1 ∷ pos 2 ∷ pos 29802 ∷ pos 32767 ∷ pos 0 ∷ pos 0 ∷ pos 0 ∷ minus 1 ∷ minus 1 ∷ minus 2 ∷
      minus 29802 ∷ minus 32767 ∷ []
  -- 2⁴² reads 0.5, −2⁴¹ reads −0.25, and a refused reading 0
  pub readings :
      (reading (grid 1 4 1) (level (0 ∷ 2 ^ 42 ∷ 0 ∷ 0 ∷ [])) 1
      ≡ Ok (of_bits binary64 0x3fe0_0000_0000_0000)) ×
      (reading (grid 1 4 1) (pos 0 ∷ pos 0 ∷ minus (2 ^ 41) ∷ pos 0 ∷ []) 2
      ≡ Ok (of_bits binary64 0xbfd0_0000_0000_0000)) ×
      (reading (grid 1 4 1) (level (0 ∷ 2 ^ 42 ∷ 0 ∷ 0 ∷ [])) 4 ≡ Err PickUp) × (reading_value (Err PickUp) ≡ of_bits binary64 0)
  pub plucked : pluck_level table (grid 1 5 1) 2 3 (pos 1000) ≡ level (0 ∷ 749 ∷ 1000 ∷ 749 ∷ 0 ∷ [])
  pub plucked_down : pluck_level table (grid 1 5 1) 2 2 (minus 3) ≡ pos 0 ∷ minus 1 ∷ minus 3 ∷ minus 1 ∷ pos 0 ∷ []
  pub plucked_free : (pluck_level table (grid 3 5 1) 0 4 (pos 65536) ≡ level (65536 ∷ 55938 ∷ 32768 ∷ 9598 ∷ 0 ∷ []))
      × (pluck_level table (grid 2 5 1) 4 3 (pos 7000) ≡ level (0 ∷ 0 ∷ 1746 ∷ 5243 ∷ 7000 ∷ []))
  pub plucked_both :
      (pluck (grid 4 5 1) (level (7 ∷ 7 ∷ 7 ∷ 7 ∷ 7 ∷ [])) five 1 1 (pos 9)
      ≡ record { outcome = Ok tt; older = level (0 ∷ 9 ∷ 0 ∷ 0 ∷ 0 ∷ []); newer = level (0 ∷ 9 ∷ 0 ∷ 0 ∷ 0 ∷ []) }) ×
      (pluck (grid 4 5 1) (level (7 ∷ [])) five 1 1 (pos 9) ≡ record { outcome = Err WrongLength; older = level (7 ∷ []); newer = five })
  -- the listing of the program `ring`: `1 3 1 65536 0 0 1 4 1 268435456`, from rest
  pub ring_listing :
      block (instrument 1 3 1 65536 0 0) (middle3 (pos 0)) (middle3 (pos 0)) (middle3 (pos 5)) (level (7 ∷ 7 ∷ 7 ∷ 7 ∷ [])) 1
      (hit_at 1 (pos 268435456))
      ≡ record {
        answer = record { steps = 4; inexact = 0; outcome = Ok tt };
        older = middle3 (minus 268435456);
        newer = middle3 (pos 0);
        work = middle3 (pos 0);
        samples = pos 1 ∷ pos 0 ∷ minus 1 ∷ pos 0 ∷ [];
      }
  -- "A fading voice sits a few units below zero", or above, and reads 0
  pub silence :
      (block (instrument 1 3 1 8192 0 12000) (middle3 (minus 2)) (middle3 (minus 2)) (middle3 (pos 5)) (level (7 ∷ 8 ∷ [])) 1 None
      ≡ faded (minus 2)) ×
      (block (instrument 1 3 1 8192 0 12000) (middle3 (pos 2)) (middle3 (pos 2)) (middle3 (pos 5)) (level (7 ∷ 8 ∷ [])) 1 None
      ≡ faded (pos 2))
  -- 13 at the second step: point 1 would have become 5, point 2 would have passed the ceiling
  pub ended_block :
      block (instrument 1 4 1 0 0 0) (pos 0 ∷ minus 1 ∷ pos 6000000000000 ∷ pos 0 ∷ []) (level (0 ∷ 1 ∷ 7000000000000 ∷ 0 ∷ []))
      (level (1 ∷ 2 ∷ 3 ∷ 4 ∷ [])) (level (7 ∷ 8 ∷ 9 ∷ [])) 2 None
      ≡ record {
        answer = record { steps = 1; inexact = 0; outcome = Err NextBeyond };
        older = level (0 ∷ 1 ∷ 7000000000000 ∷ 0 ∷ []);
        newer = level (0 ∷ 3 ∷ 8000000000000 ∷ 0 ∷ []);
        work = rest;
        samples = level (29802 ∷ 8 ∷ 9 ∷ []);
      }
  -- the next point at the ceiling, and one above it: 13 at the first step
  pub at_once :
      (block (instrument 1 3 1 0 0 0) (middle3 (minus 1)) (middle3 (pos 4397912293375)) (middle3 (pos 5)) (level (7 ∷ [])) 1 (hit_at 1 (pos 1))
      ≡ record {
        answer = record { steps = 1; inexact = 0; outcome = Ok tt };
        older = middle3 (pos 4397912293375);
        newer = middle3 (pos ceiling);
        work = middle3 (pos 0);
        samples = level (32767 ∷ []);
      }) ×
      (block (instrument 1 3 1 0 0 0) (middle3 (minus 1)) (middle3 (pos 4397912293375)) (middle3 (pos 5)) (level (7 ∷ [])) 1 (hit_at 1 (pos 2))
      ≡ record {
        answer = record { steps = 0; inexact = 0; outcome = Err NextBeyond };
        older = middle3 (minus 1);
        newer = middle3 (pos 4397912293375);
        work = middle3 (pos 0);
        samples = level (7 ∷ []);
      })
  pub block_turned_down :
      block string rest (level (0 ∷ 1 ∷ 2 ∷ 0 ∷ [])) (level (1 ∷ 2 ∷ 3 ∷ 4 ∷ [])) (level (7 ∷ 8 ∷ [])) 4 None
      ≡ record {
        answer = record { steps = 0; inexact = 0; outcome = Err PickUp };
        older = rest;
        newer = level (0 ∷ 1 ∷ 2 ∷ 0 ∷ []);
        work = level (1 ∷ 2 ∷ 3 ∷ 4 ∷ []);
        samples = level (7 ∷ 8 ∷ []);
      }
  -- "A block of length 0 passes the same checks, answers 0 steps and drops its hit."
  pub empty_block :
      block string rest (level (0 ∷ 1 ∷ 2 ∷ 0 ∷ [])) (level (1 ∷ 2 ∷ 3 ∷ 4 ∷ [])) [] 0 (hit_at 1 (pos 5))
      ≡ record {
        answer = record { steps = 0; inexact = 0; outcome = Ok tt };
        older = rest;
        newer = level (0 ∷ 1 ∷ 2 ∷ 0 ∷ []);
        work = rest;
        samples = [];
      }
  -- ---- blocks on two levels
  -- "A step that would exceed the ceiling must be found before any point is overwritten": point 1 would have become 5
  pub in_place_ended :
      block_in_place (instrument 1 4 1 0 0 0) (pos 0 ∷ minus 1 ∷ pos 6000000000000 ∷ pos 0 ∷ []) (level (0 ∷ 1 ∷ 7000000000000 ∷ 0 ∷ []))
      (level (7 ∷ 8 ∷ 9 ∷ [])) 2 None
      ≡ in_place_left (record { steps = 1; inexact = 0; outcome = Err NextBeyond }) (level (0 ∷ 1 ∷ 7000000000000 ∷ 0 ∷ []))
      (level (0 ∷ 3 ∷ 8000000000000 ∷ 0 ∷ [])) (level (29802 ∷ 8 ∷ 9 ∷ []))
  -- 13 at the first step
  pub in_place_at_once :
      block_in_place (instrument 1 3 1 0 0 0) (middle3 (minus 1)) (middle3 (pos 4397912293375)) (level (7 ∷ [])) 1 (hit_at 1 (pos 2))
      ≡ in_place_left (record { steps = 0; inexact = 0; outcome = Err NextBeyond }) (middle3 (minus 1)) (middle3 (pos 4397912293375))
      (level (7 ∷ []))
  -- an odd and an even number of steps
  pub in_place_steps :
      (struck (level (7 ∷ 7 ∷ 7 ∷ [])) ≡ in_place_left (record { steps = 3; inexact = 2; outcome = Ok tt })
      (level (0 ∷ 6 ∷ 1 ∷ 0 ∷ 0 ∷ []))
      (level (0 ∷ 5 ∷ 3 ∷ 0 ∷ 0 ∷ [])) (level (0 ∷ 0 ∷ 0 ∷ []))) ×
      (struck (level (7 ∷ 7 ∷ 7 ∷ 7 ∷ [])) ≡ in_place_left (record { steps = 4; inexact = 5; outcome = Ok tt })
      (level (0 ∷ 5 ∷ 3 ∷ 0 ∷ 0 ∷ [])) (level (0 ∷ 2 ∷ 5 ∷ 1 ∷ 0 ∷ [])) (level (0 ∷ 0 ∷ 0 ∷ 0 ∷ [])))
  -- "Refusal 6 looks at the two lengths only."
  pub in_place_lengths :
      in_place_refused_by rest rest ∷ in_place_refused_by five rest ∷ in_place_refused_by rest five ∷ in_place_refused_by five five ∷ []
      ≡ 0 ∷ 6 ∷ 6 ∷ 6 ∷ []
  pub in_place_turned_down :
      block_in_place string rest (level (0 ∷ 1 ∷ 2 ∷ 0 ∷ [])) (level (7 ∷ 8 ∷ [])) 4 None
      ≡ in_place_left (record { steps = 0; inexact = 0; outcome = Err PickUp }) rest (level (0 ∷ 1 ∷ 2 ∷ 0 ∷ [])) (level (7 ∷ 8 ∷ []))
  pub in_place_empty :
      block_in_place string rest (level (0 ∷ 1 ∷ 2 ∷ 0 ∷ [])) [] 0 (hit_at 1 (pos 5))
      ≡ in_place_left (record { steps = 0; inexact = 0; outcome = Ok tt }) rest (level (0 ∷ 1 ∷ 2 ∷ 0 ∷ [])) []
  -- ---- energy, distance and book
  -- times 2D
  pub energies :
      (energy (instrument 3 3 1 65536 0 0) (point (level (4 ∷ 0 ∷ 0 ∷ []))) (point (middle3 (pos 1))) ≡ pos 655360) ×
      (energy (instrument 4 5 1 20000 3000 7) (point (pos 0 ∷ pos 1 ∷ pos 8 ∷ minus 2 ∷ pos 0 ∷ []))
      (point (level (0 ∷ 3 ∷ 4 ∷ 5 ∷ 0 ∷ []))) ≡ pos 8139968) ×
      (energy (instrument 5 4 3 20000 0 7) (point (pos 0 ∷ pos 0 ∷ pos 0 ∷ pos 0 ∷ pos 0 ∷ pos 5 ∷ minus 3 ∷ pos 0 ∷ pos 0 ∷ pos 0 ∷ pos 0
      ∷ pos 0 ∷ [])) (point (level (0 ∷ 0 ∷ 0 ∷ 0 ∷ 0 ∷ 2 ∷ 9 ∷ 0 ∷ 0 ∷ 0 ∷ 0 ∷ 0 ∷ []))) ≡ pos 15774016)
  pub book_goes_on : after (two_steps ∷ refused ∷ pluck_turned_down ∷ no_steps ∷ one_step ∷ []) ≡ three_on
  -- on two levels, and on two levels after a block
  pub book_in_place :
      (after (map on_two (two_steps ∷ refused ∷ pluck_turned_down ∷ no_steps ∷ one_step ∷ [])) ≡ three_on) ×
      (after (two_steps ∷ on_two one_step ∷ []) ≡ three_on)
  pub book_starts_anew : after (two_steps ∷ refused ∷ one_step ∷ pluck_turned_down ∷ no_steps ∷ other_step ∷ []) ≡ record {
    older = level (0 ∷ 22 ∷ 16 ∷ 0 ∷ []);
    newer = level (0 ∷ 21 ∷ 17 ∷ 0 ∷ []);
    book = record {
      n = 1;
      older = level (0 ∷ 1441924 ∷ 1048672 ∷ 0 ∷ []);
      newer = level (0 ∷ 1358514 ∷ 1145262 ∷ 0 ∷ []);
      last = step_of (voice 6);
    };
    inexact = 2;
  }
  pub plucked_book : after (two_steps ∷ plucks ∷ []) ≡ record {
    older = level (0 ∷ 4 ∷ 9 ∷ 0 ∷ []);
    newer = level (0 ∷ 4 ∷ 9 ∷ 0 ∷ []);
    book = record { n = 0; older = level (0 ∷ 4 ∷ 9 ∷ 0 ∷ []); newer = level (0 ∷ 4 ∷ 9 ∷ 0 ∷ []); last = step_of (voice 5) };
    inexact = 0;
  }
  pub pluck_then_step : after (two_steps ∷ plucks ∷ one_step ∷ []) ≡ record {
    older = level (0 ∷ 4 ∷ 9 ∷ 0 ∷ []);
    newer = level (0 ∷ 4 ∷ 7 ∷ 0 ∷ []);
    book = record {
      n = 1;
      older = level (0 ∷ 262164 ∷ 589869 ∷ 0 ∷ []);
      newer = level (0 ∷ 272164 ∷ 449869 ∷ 0 ∷ []);
      last = step_of (voice 5);
    };
    inexact = 2;
  }
  pub outcomes : outcomes_of (from_here (two_steps ∷ refused ∷ no_steps ∷ plucks ∷ pluck_turned_down ∷ [])) ≡
      block_outcome (record { steps = 2; inexact = 4; outcome = Ok tt }) rest (level (0 ∷ 0 ∷ [])) ∷
      block_outcome (record { steps = 0; inexact = 0; outcome = Err PickUp }) nines (level (0 ∷ 0 ∷ [])) ∷
      block_outcome (record { steps = 0; inexact = 0; outcome = Ok tt }) rest [] ∷
      pluck_outcome (Ok tt) ∷
      pluck_outcome (Err NotMoving) ∷ []
  pub in_place_outcomes : outcomes_of (from_here (map on_two (two_steps ∷ refused ∷ no_steps ∷ []))) ≡
      in_place_outcome (record { steps = 2; inexact = 4; outcome = Ok tt }) (level (0 ∷ 0 ∷ [])) ∷
      in_place_outcome (record { steps = 0; inexact = 0; outcome = Err PickUp }) (level (0 ∷ 0 ∷ [])) ∷
      in_place_outcome (record { steps = 0; inexact = 0; outcome = Ok tt }) [] ∷ []
  -- the distance of `book_goes_on`, times 2 × (D+s)⁶, and its bound times 32 × (D+s)⁶
  pub distances :
      (distance (voice 5) 3 (level (0 ∷ 22 ∷ 16 ∷ 0 ∷ [])) (level (0 ∷ 5982145047920445 ∷ 4594315337286502 ∷ 0 ∷ []))
      ≡ pos 105739055655369542657018668490) ×
      (bound (voice 5) 3 ≡ pos 91312631662562532654555856021632)
  -- 152 × D² of 160 × D²: with 17 for 16 the bound would not hold
  pub half_off : Near after_halves.newer 1 after_halves.book.newer after_halves.book.last
