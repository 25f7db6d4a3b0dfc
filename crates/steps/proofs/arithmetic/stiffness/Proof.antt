-- `stiffness` meets its contract: its arithmetic, written once, fits at every step.
use mathlib.Core.Path.{◌∙◌}
use Rattle.bounded.proofs.Num as Num
use Rattle.bounded.proofs.Expr.{fits, is}
use Rattle.steps.proofs.NumeratorLaws as N
use Rattle.steps.proofs.arithmetic.stiffness.Statement.{statement}
use Rattle.steps.proofs.arithmetic.stiffness.Tie as tie

-- where the factors are read
abbrev at-bend : tie.After-struct_told-2-1 → tie.Start
at-bend c = c.before.before.before.before

abbrev at-stiff : tie.After-struct_told-3-1 → tie.Start
at-stiff c = at-bend c.before.before

overflow_mul-result : tie.Need-overflow_mul-result
overflow_mul-result c = let s = c.before.before in Num.fits (N.by_second s.requires.0 s.requires.1) tt

overflow_mul-result-2 : tie.Need-overflow_mul-result-2
overflow_mul-result-2 c = let s = at-bend c in Num.fits (N.by_sum s.requires.0 s.requires.1) tt

overflow_sub-result : tie.Need-overflow_sub-result
overflow_sub-result c = let s = at-bend c in fits (N.less# s.requires.0 s.requires.1) tt

overflow_mul-result-3 : tie.Need-overflow_mul-result-3
overflow_mul-result-3 c = let s = at-stiff c in fits (N.own# s.requires.0 s.requires.1) tt

overflow_add-result : tie.Need-overflow_add-result
overflow_add-result c = let s = at-stiff c in fits (N.stiff# s.requires.0 s.requires.1) tt

returns : tie.Need-returns
returns c = let s = at-stiff c in is (N.stiff# s.requires.0 s.requires.1) tt ∙ N.stiffness_is s.requires.0 s.requires.1

pub stiffness_spec : {M : Type 1} → statement M
stiffness_spec = tie.close (tie.spec overflow_mul-result overflow_mul-result-2 overflow_sub-result overflow_mul-result-3
    overflow_add-result returns)
