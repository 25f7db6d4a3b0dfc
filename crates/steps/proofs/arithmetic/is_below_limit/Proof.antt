-- `is_below_limit` meets its contract: by the limit that the raised size may not reach.
use mathlib.Core.Path.{◌≡◌, ◌∙◌}
use Prim.Native.Nat.{◌+◌}
use lib.Dec.{ltb}
use lib.IntN.{nat_abs}
use borrow.Author.Rules.{rules}
use mir.Syntax.{w64}
use mir.Val.{to_z, of_z}
use Rattle.bounded.proofs.Num.{back}
use Rattle.types.specs.Numbers.{ceiling}
use Rattle.scheme.specs.Step.{divisor}
use Rattle.scheme.proofs.Laws.Rounding.{round_limit}
use Rattle.steps.proofs.PlanLaws.{divisor_some, half_is, limit_is}
use Rattle.steps.proofs.arithmetic.is_below_limit.Statement.{statement}
use Rattle.steps.proofs.arithmetic.is_below_limit.Tie as tie

-- the number as it was passed
n_is : (s : tie.Start) → to_z w64 (of_z w64 s.args.n) ≡ s.args.n
n_is s = back s.args.n s.ranges.n.sfits

raised-requires : tie.Need-raised-requires
raised-requires c κs = search rules

returns : tie.Need-returns
returns c =
    let s = c.before.before in
    let h = s.requires in
    let d = divisor s.args.plan.instrument.settings in
    (λ j. ltb ((c.raised.ensures ∙ (λ k. nat_abs (n_is s k) + half_is h k)) j) (limit_is h j)) ∙
    round_limit s.args.n d ceiling (divisor_some h)

pub is_below_limit_spec : {M : Type 1} → statement M
is_below_limit_spec = tie.close (tie.spec raised-requires returns)
