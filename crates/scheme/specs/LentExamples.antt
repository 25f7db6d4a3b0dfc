-- A table for plucks by a lent table (request 7): the order of refusals, the filling, list and book. `LoadingExamples` of crate pluck_table
-- has each break of a table's rule. The numbers come by hand, or from the reference in another language under host/.
use Rattle.std.specs.Prelude.{◌≡◌, List, [], ◌∷◌, map, ℕ, ℤ, pos, length, Ok, Err}
use Rattle.types.specs.declared.Refusal.TheVariants.{BrokenTable}
use Rattle.types.specs.Numbers.{number_of}
use Rattle.pluck_table.specs.Table.{table}
use Rattle.pluck_table.specs.LoadingExamples.{straight, late, early, joined}
use Rattle.scheme.specs.Refusals.{pluck_with_refusal}
use Rattle.scheme.specs.Calls.{AfterPluck, pluck_left, overwritten, pluck_with}
use Rattle.scheme.specs.Book.{step_of, Call, pluck_with_call, pluck_outcome}
use Rattle.scheme.specs.Examples.{grid, level, minus}
use Rattle.scheme.specs.FurtherExamples.{five, above, voice, two_steps, one_step, after, from_here, outcomes_of, three_on}

-- what a pluck of a line of five points by a lent table is refused by
abbrev refused_by : ℕ → (older newer : List ℤ) → ℕ → ℕ → ℤ → List ℕ → ℕ
refused_by k older newer c w a lent = number_of (pluck_with_refusal (grid k 5 1) (length older) (length newer) c w a lent)

-- a pluck of five points that hold 7 and 8
abbrev sevens : List ℤ
sevens = level (7 ∷ 7 ∷ 7 ∷ 7 ∷ 7 ∷ [])

abbrev eights : List ℤ
eights = level (8 ∷ 8 ∷ 8 ∷ 8 ∷ 8 ∷ [])

abbrev plucks : ℕ → ℕ → ℕ → ℤ → List ℕ → AfterPluck
plucks k c w a lent = pluck_with (grid k 5 1) sevens eights c w a lent

-- in a list
abbrev of_four : List ℕ → Call
of_four lent = pluck_with_call (grid 1 4 1) 2 3 (pos 9) lent

pub record LentHold : Type 0 where
  -- "checked after 10": every other refusal of a pluck, with a broken table; then 14
  pub ordered :
      refused_by 9 five five 2 3 (pos 1000) [] ∷ refused_by 5 five five 2 3 (pos 1000) [] ∷
      number_of (pluck_with_refusal (grid 1 5 2) 5 5 2 3 (pos 1000) []) ∷ refused_by 1 five [] 2 3 (pos 1000) [] ∷
      refused_by 1 five five 0 3 (pos 1000) [] ∷ refused_by 1 five five 2 3 (minus above) [] ∷
      refused_by 1 five five 2 0 (pos 1000) (1 ∷ 2 ∷ 3 ∷ []) ∷ refused_by 1 five five 2 5 (pos 1000) [] ∷
      refused_by 1 five five 2 3 (pos 1000) (1 ∷ 2 ∷ 3 ∷ []) ∷ [] ≡ 1 ∷ 1 ∷ 2 ∷ 6 ∷ 7 ∷ 8 ∷ 10 ∷ 10 ∷ 14 ∷ []
  -- each break of the rule, then tables that keep it
  pub tables : map (refused_by 1 five five 2 3 (pos 1000))
      (joined 1 [] 1022 65536 ∷ joined 1 [] 1024 65536 ∷ joined 0 (1 ∷ []) 1023 65536 ∷ joined 1024 [] 0 65535 ∷
      joined 512 (300 ∷ 299 ∷ []) 510 65536 ∷ table ∷ straight ∷ late ∷ early ∷ []) ≡ 14 ∷ 14 ∷ 14 ∷ 14 ∷ 14 ∷ 0 ∷ 0 ∷ 0 ∷ 0 ∷ []
  -- entries 1024 and 682 of T, and of the straight table
  pub copy_of_t : plucks 1 2 3 (pos 1000) table ≡ overwritten (level (0 ∷ 749 ∷ 1000 ∷ 749 ∷ 0 ∷ []))
  pub straight_line : plucks 1 2 3 (pos 1000) straight ≡ overwritten (level (0 ∷ 666 ∷ 1000 ∷ 666 ∷ 0 ∷ []))
  -- the centre has the height whatever the table, and a point at distance w has 0
  pub late_rise : plucks 3 0 4 (minus 7) late ≡ overwritten (minus 7 ∷ pos 0 ∷ pos 0 ∷ pos 0 ∷ pos 0 ∷ [])
  pub early_rise : plucks 2 4 3 (pos 7) early ≡ overwritten (level (0 ∷ 0 ∷ 7 ∷ 7 ∷ 7 ∷ []))
  -- "it returns and leaves what 1 to 12 do"
  pub turned_down : plucks 1 2 3 (pos 1000) [] ≡ pluck_left (Err BrokenTable) sevens eights
  -- "An accepted pluck puts the levels its rule gives into the book, with n 0. A refused one changes nothing."
  pub book : after (two_steps ∷ of_four straight ∷ []) ≡ record {
    older = level (0 ∷ 5 ∷ 9 ∷ 0 ∷ []);
    newer = level (0 ∷ 5 ∷ 9 ∷ 0 ∷ []);
    book = record { n = 0; older = level (0 ∷ 5 ∷ 9 ∷ 0 ∷ []); newer = level (0 ∷ 5 ∷ 9 ∷ 0 ∷ []); last = step_of (voice 5) };
    inexact = 0;
  }
  pub book_of_refused : after (two_steps ∷ of_four [] ∷ one_step ∷ []) ≡ three_on
  pub outcomes : outcomes_of (from_here (of_four straight ∷ of_four [] ∷ [])) ≡ pluck_outcome (Ok tt) ∷ pluck_outcome (Err BrokenTable) ∷ []
