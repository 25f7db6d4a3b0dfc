-- `is_moving` meets its contract: the run of a point's row has the point's column where it moves.
use mathlib.Core.Path.{◌≡◌, sym, ap, ◌∙◌}
use mathlib.Core.Bool.{true, ◌&&◌}
use Prim.Native.Nat.{ℕ, ◌/◌, ◌%◌, ◌<◌}
use native.Mathlib.Omega.{arith}
use borrow.Author.Tests.{le-ltb}
use Rattle.types.specs.declared.Grid.{Grid}
use Rattle.scheme.specs.Instruments.{in_table, moving}
use Rattle.scheme.proofs.Laws.Bools.{and_yes}
use Rattle.scheme.proofs.Laws.Kinds.{sized}
use Rattle.kinds.specs.declared.runs.Run.{Run}
use Rattle.kinds.specs.Runs.{in_run, run_of}
use Rattle.kinds.proofs.RunLaws.{none_in, run_past, moving-at, row_is}
use Rattle.runs.proofs.is_moving.Goals as goal

-- a grid of the table has a column
some : (g : Grid) → in_table g ≡ true → 0 < g.columns
some g size = omega (arith, (sized _ _ _ size).columns_low)

-- whether a point moves, by the run of its row
by-run : (g : Grid) (i : ℕ) {r : Run} → in_table g ≡ true → run_of g (i / g.columns) ≡ r
    → in_run r (i % g.columns) ≡ (in_table g && moving g i)
by-run g i size e = sym (and_yes size ∙ moving-at g i size ∙ ap (λ (r : Run). in_run r (i % g.columns)) e)

pub nonzero_div-row : goal.nonzero_div-row
nonzero_div-row c = some _ (sym c.has_size.ensures ∙ c.if-not-has_size.false)

pub nonzero_rem-column : goal.nonzero_rem-column
nonzero_rem-column c = some _ (sym c.has_size.ensures ∙ c.if-not-has_size.false)

pub returns-then-row-g : goal.returns-then-row-g
returns-then-row-g c =
    let size = sym c.has_size.ensures ∙ c.if-not-has_size.false in
    c.is_in.ensures ∙ by-run c.args.g c.args.point size (sym (c.row_run.ensures ∙ row_is _ _ size c.if-row-g.true))

pub returns-else-row-g : goal.returns-else-row-g
returns-else-row-g c =
    let size = sym c.has_size.ensures ∙ c.if-not-has_size.false in
    le-ltb _ _ c.if-row-g.false ∙ sym (none_in (c.args.point % c.args.g.columns)) ∙
    by-run c.args.g c.args.point size (run_past _ _ c.if-row-g.false)
