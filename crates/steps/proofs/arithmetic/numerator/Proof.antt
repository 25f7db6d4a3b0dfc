-- `numerator` meets its contract: its arithmetic, written once, fits at every step.
use mathlib.Core.Path.{◌∙◌}
use Rattle.bounded.proofs.Num as Num
use Rattle.bounded.proofs.Num.{Num}
use Rattle.bounded.proofs.Expr.{fits, is}
use Rattle.steps.proofs.NumeratorLaws as N
use Rattle.steps.proofs.arithmetic.numerator.Statement.{statement}
use Rattle.steps.proofs.arithmetic.numerator.Tie as tie

-- where near and D − s are read
abbrev at-near : tie.After-struct_told-2-1 → tie.Start
at-near c = c.before.before.before.before

abbrev at-kept : tie.After-struct_told-3-1 → tie.Start
at-kept c = at-near c.before.before

overflow_mul-own_last : tie.Need-overflow_mul-own_last
overflow_mul-own_last c = let s = c.before.before in fits (N.own_last# s.requires.0 s.requires.1) tt

overflow_mul-neighbours : tie.Need-overflow_mul-neighbours
overflow_mul-neighbours c = let s = at-near c in Num.fits (N.neighbours s.requires.0 s.requires.1) tt

overflow_mul-before_last : tie.Need-overflow_mul-before_last
overflow_mul-before_last c = let s = at-kept c in fits (N.before_last# s.requires.0 s.requires.1) tt

overflow_mul-force : tie.Need-overflow_mul-force
overflow_mul-force c = let s = at-kept c in fits (N.force# s.requires.0 s.requires.1) tt

overflow_add-result : tie.Need-overflow_add-result
overflow_add-result c = let s = at-kept c in fits (N.two# s.requires.0 s.requires.1) tt

overflow_sub-result : tie.Need-overflow_sub-result
overflow_sub-result c = let s = at-kept c in fits (N.three# s.requires.0 s.requires.1) tt

overflow_add-result-2 : tie.Need-overflow_add-result-2
overflow_add-result-2 c = let s = at-kept c in fits (N.with_force# s.requires.0 s.requires.1) tt

overflow_sub-result-2 : tie.Need-overflow_sub-result-2
overflow_sub-result-2 c = let s = at-kept c in fits (N.n# s.requires.0 s.requires.1) tt

returns : tie.Need-returns
returns c = let s = at-kept c in is (N.n# s.requires.0 s.requires.1) tt ∙ N.numerator_is s.requires.0 s.requires.1

pub numerator_spec : {M : Type 1} → statement M
numerator_spec =
    tie.close
    (tie.spec
    overflow_mul-own_last
    overflow_mul-neighbours
    overflow_mul-before_last
    overflow_mul-force
    overflow_add-result
    overflow_sub-result
    overflow_add-result-2
    overflow_sub-result-2
    returns)
