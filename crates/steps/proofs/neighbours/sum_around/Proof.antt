-- `sum_around` meets its contract.
use mathlib.Core.Path.{◌∙◌}
use Prim.Native.Nat.{◌+◌, ◌-◌}
use borrow.Author.Rules.{rules}
use Rattle.bounded.proofs.Num.{back}
use Rattle.bounded.proofs.Expr.{E, ◌⊞◌, fits, is}
use Rattle.steps.proofs.BesideLaws.{at#, two#}
use Rattle.steps.proofs.neighbours.sum_around.Statement.{statement}
use Rattle.steps.proofs.neighbours.sum_around.Tie as tie

-- the sum, as the machine adds it
module _ (c : tie.After-sum_beside) where
  abbrev three# : E
  three# =
      let s = c.before in
      two# s.args.xs.now s.requires.3 s.args.k (back c.sum_beside.result c.sum_beside.type_inv ∙ c.sum_beside.ensures)
      ⊞ at# s.args.xs.now s.requires.3 (s.args.k - s.args.columns)

  abbrev four# : E
  four# = let s = c.before in three# ⊞ at# s.args.xs.now s.requires.3 (s.args.k + s.args.columns)

sum_beside-requires : tie.Need-sum_beside-requires
sum_beside-requires c κs = search rules

overflow_sub-result : tie.Need-overflow_sub-result
overflow_sub-result c = search rules

offset_bounds-xs-k : tie.Need-offset_bounds-xs-k
offset_bounds-xs-k c = search rules

bounds-xs-k : tie.Need-bounds-xs-k
bounds-xs-k c = search rules

overflow_add-result : tie.Need-overflow_add-result
overflow_add-result c = fits (three# c.before) tt

overflow_add-result-2 : tie.Need-overflow_add-result-2
overflow_add-result-2 c = search rules

offset_bounds-xs-k-2 : tie.Need-offset_bounds-xs-k-2
offset_bounds-xs-k-2 c = search rules

bounds-xs-k-2 : tie.Need-bounds-xs-k-2
bounds-xs-k-2 c = search rules

overflow_add-result-3 : tie.Need-overflow_add-result-3
overflow_add-result-3 c = fits (four# c.before.before) tt

returns : tie.Need-returns
returns c = is (four# c.before.before) tt

pub sum_around_spec : {M : Type 1} → statement M
sum_around_spec =
    tie.close
    (tie.spec
    sum_beside-requires
    overflow_sub-result
    offset_bounds-xs-k
    bounds-xs-k
    overflow_add-result
    overflow_add-result-2
    offset_bounds-xs-k-2
    bounds-xs-k-2
    overflow_add-result-3
    returns)
