-- A row's moving columns, as a run from column to column. Vocabulary between the engine's crates: no call that a maker embeds cites it.
use Rattle.std.specs.Prelude.{Bool, true, false, not, ◌&&◌, cond, ℕ, ◌+◌, ◌-◌, leb, ltb}
use Rattle.types.specs.declared.Grid.{Grid}
use Rattle.types.specs.declared.Kind.{Kind}
use Rattle.types.specs.declared.Kind.TheVariants.{Unknown, StringFixed, StringFixedFree, StringFree, Bar, MembraneRectangular}
use Rattle.types.specs.declared.Kind.TheVariants.{MembraneRound, Plate}
use Rattle.scheme.specs.Instruments.{kind, in_table, at_edge, round_edge}
use Rattle.kinds.specs.declared.runs.Run.{Run}
use Rattle.kinds.specs.Search.{leading}

abbrev pub run : ℕ → ℕ → Run
run a b = record { from = a; to = b }

-- column a is in the run
abbrev pub in_run : Run → ℕ → Bool
in_run r a = leb r.from a && ltb a r.to

-- "the outer ring of kind 5" is fixed, and a plate's: what moves in row b of c columns and r rows
unfoldable pub inner_run : ℕ → ℕ → ℕ → Run
inner_run c r b = cond (at_edge r b) (run 0 0) (run 1 (c - 1))

-- a membrane of c columns and rows, of 64 at most, has column a and row b
abbrev pub on_square : ℕ → ℕ → ℕ → Bool
on_square c a b = leb c 64 && (ltb a c && ltb b c)

-- "in kind 6 with G columns each point whose column a and row b satisfy .." is fixed:
-- what moves in row b, from the first column that does, and as far from the right
unfoldable pub round_run : ℕ → ℕ → Run
round_run G b =
    let first = leading G (λ a. round_edge G a b) in
    cond (ltb first G) (run first (G - first)) (run 0 0)

-- "Fixed points are the ends named above .. The rest move": in row b of c columns and r rows
unfoldable pub run_in : Kind → ℕ → ℕ → ℕ → Run
run_in Unknown c r b = run 0 0
run_in StringFixed c r b = run 1 (c - 1)
run_in StringFixedFree c r b = run 1 c
run_in StringFree c r b = run 0 c
run_in Bar c r b = run 1 (c - 1)
run_in MembraneRectangular c r b = inner_run c r b
run_in MembraneRound c r b = round_run c b
run_in Plate c r b = inner_run c r b

-- a round membrane
abbrev pub is_round : Kind → Bool
is_round Unknown = false
is_round StringFixed = false
is_round StringFixedFree = false
is_round StringFree = false
is_round Bar = false
is_round MembraneRectangular = false
is_round MembraneRound = true
is_round Plate = false

-- the same of a grid: none in a round membrane, in no columns, or in a row that the grid does not have
unfoldable pub straight_run : Grid → ℕ → Run
straight_run g b =
    cond (ltb 0 g.columns && (ltb b g.rows && not (is_round (kind g)))) (run_in (kind g) g.columns g.rows b) (run 0 0)

-- the same of every kind: in a round membrane of 64 columns at most, and a row of it (`row_is`: of a grid of the table, its moving columns)
abbrev pub row_run : Grid → ℕ → Run
row_run g b = cond (is_round (kind g)) (cond (on_square g.columns 0 b) (round_run g.columns b) (run 0 0)) (straight_run g b)

-- the moving columns of a row (`moving-run`): none in a grid whose size the table does not have, or in a row that the grid does not have
unfoldable pub run_of : Grid → ℕ → Run
run_of g b = cond (in_table g && ltb b g.rows) (run_in (kind g) g.columns g.rows b) (run 0 0)

-- the distance of two numbers
abbrev pub apart : ℕ → ℕ → ℕ
apart x y = x - y + (y - x)
