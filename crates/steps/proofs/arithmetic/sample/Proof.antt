-- `sample` meets its contract: what is read out of a value within the ceiling fits in 16 bits.
use mathlib.Core.Path.{◌≡◌, sym, ap, ◌∙◌, subst}
use lib.IntN.{ℤ}
use borrow.Author.Rules.{rules}
use mir.Syntax.{w16, w64}
use mir.Val.{SFits, to_z, of_z}
use Rattle.bounded.proofs.Num.{back, fits16, back16}
use Rattle.scheme.specs.Step.{sample_of}
use Rattle.scheme.proofs.Laws.Rounding.{sample_rule}
use Rattle.steps.proofs.Held.{held}
use Rattle.steps.proofs.arithmetic.sample.Statement.{statement}
use Rattle.steps.proofs.arithmetic.sample.Tie as tie

read : (c : tie.After-read_out) → to_z w64 (of_z w64 c.read_out.result) ≡ sample_of c.args.v
read c = back c.read_out.result c.read_out.type_inv ∙ c.read_out.ensures ∙ ap sample_of (held c.requires)

read_out-requires : tie.Need-read_out-requires
read_out-requires c κs = search rules

overflow_cast-result : tie.Need-overflow_cast-result
overflow_cast-result c =
    let v = c.args.v in
    subst (SFits w16) (sym (read c)) (fits16 (sample_of v) (sample_rule.fits v c.requires) tt)

returns : tie.Need-returns
returns c =
    let v = c.args.v in
    ap (λ (z : ℤ). to_z w16 (of_z w16 z)) (read c) ∙ back16 (sample_of v) (sample_rule.fits v c.requires) tt

pub sample_spec : {M : Type 1} → statement M
sample_spec = tie.close (tie.spec read_out-requires overflow_cast-result returns)
