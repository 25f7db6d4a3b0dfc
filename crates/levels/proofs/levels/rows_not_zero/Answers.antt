-- `rows_not_zero` meets its contract: each row of the level is looked at.
use Rattle.std.proofs.Common.{sym, ◌∙◌, arith}
use Rattle.scheme.proofs.Laws.Lists.{some_at}
use Rattle.kinds.proofs.SearchLaws.{some_none}
use Rattle.levels.proofs.LevelLaws.{rows_test}
use Rattle.levels.proofs.levels.rows_not_zero.Goals as goal

pub returns-then-is_row_unfixed : goal.returns-then-is_row_unfixed
returns-then-is_row_unfixed c =
    sym (rows_test _ _ c.requires.1 ∙ some_at _ _ c.loop-row.row (omega arith) (sym c.is_row_unfixed.ensures ∙ c.if-is_row_unfixed.true))

pub returns : goal.returns
returns c = sym (rows_test _ _ c.requires.1 ∙ some_none _ _ c.loop-row.invariant (omega arith))
