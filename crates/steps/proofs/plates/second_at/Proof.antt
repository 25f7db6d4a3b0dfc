-- `second_at` meets its contract.
use Prim.Native.Nat.{ℕ, ◌+◌, ◌-◌, ◌*◌}
use borrow.Author.Rules.{rules}
use Rattle.bounded.proofs.Expr.{E, at, ◌⊞◌, fits, is}
use Rattle.types.specs.Numbers.{ceiling}
use Rattle.scheme.specs.Lists.{point}
use Rattle.steps.proofs.plates.second_at.Statement.{statement}
use Rattle.steps.proofs.plates.second_at.Tie as tie

-- the sum, as the machine adds it
module _ (s : tie.Start) where
  abbrev sum# : ℕ → E
  sum# j = at (point s.args.sums.now j) (4 * ceiling) (s.requires.low j)

  abbrev here : ℕ
  here = s.args.rows.here + s.args.c

  abbrev two# : E
  two# = sum# (here - 1) ⊞ sum# (here + 1)

  abbrev three# : E
  three# = two# ⊞ sum# (s.args.rows.other + s.args.c)

  abbrev four# : E
  four# = three# ⊞ at s.args.below (4 * ceiling) s.requires.below_low

overflow_add-here : tie.Need-overflow_add-here
overflow_add-here c = search rules

overflow_add-above : tie.Need-overflow_add-above
overflow_add-above c = search rules

overflow_sub-result : tie.Need-overflow_sub-result
overflow_sub-result c = search rules

offset_bounds-sums-here : tie.Need-offset_bounds-sums-here
offset_bounds-sums-here c = search rules

bounds-sums-here : tie.Need-bounds-sums-here
bounds-sums-here c = search rules

overflow_add-result : tie.Need-overflow_add-result
overflow_add-result c = search rules

offset_bounds-sums-here-2 : tie.Need-offset_bounds-sums-here-2
offset_bounds-sums-here-2 c = search rules

bounds-sums-here-2 : tie.Need-bounds-sums-here-2
bounds-sums-here-2 c = search rules

overflow_add-result-2 : tie.Need-overflow_add-result-2
overflow_add-result-2 c = fits (two# c.before.before.before.before) tt

offset_bounds-sums-above : tie.Need-offset_bounds-sums-above
offset_bounds-sums-above c = search rules

bounds-sums-above : tie.Need-bounds-sums-above
bounds-sums-above c = search rules

overflow_add-result-3 : tie.Need-overflow_add-result-3
overflow_add-result-3 c = fits (three# c.before.before.before.before.before) tt

overflow_add-result-4 : tie.Need-overflow_add-result-4
overflow_add-result-4 c = fits (four# c.before.before.before.before.before) tt

returns : tie.Need-returns
returns c = is (four# c.before.before.before.before.before) tt

pub second_at_spec : {M : Type 1} → statement M
second_at_spec =
    tie.close
    (tie.spec
    overflow_add-here
    overflow_add-above
    overflow_sub-result
    offset_bounds-sums-here
    bounds-sums-here
    overflow_add-result
    offset_bounds-sums-here-2
    bounds-sums-here-2
    overflow_add-result-2
    offset_bounds-sums-above
    bounds-sums-above
    overflow_add-result-3
    overflow_add-result-4
    returns)
