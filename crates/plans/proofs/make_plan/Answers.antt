-- `make_plan` meets its contract: the settings are small, so that no cast, no sum and no product changes them.
use mathlib.Core.Path.{sym, ◌∙◌}
use lib.IntN.{pos, nat_abs}
use Rattle.bounded.proofs.Num.{back}
use Rattle.bounded.proofs.Expr.{E, at, num, via, ◌⊞◌, ◌⊟◌, ◌⊠◌, ◌÷◌, is}
use Rattle.types.specs.Numbers.{D}
use Rattle.scheme.proofs.Laws.Refusals.{coefficients_small}
use Rattle.plans.proofs.PlanLaws.{count_few, plan_passed}
use Rattle.plans.proofs.make_plan.Goals as goal

pub returns : goal.returns
returns c =
    let i = c.args.i in
    let passes = sym c.wrong_coefficient.ensures ∙ c.if-wrong_coefficient.false in
    let low = coefficients_small i.settings passes in
    let count : E = via {B = 4} (record {
      is = back c.count_in-count.result c.count_in-count.type_inv ∙ c.count_in-count.ensures;
      size = count_few i.grid;
    }) in
    let q : E = at (pos i.settings.q) D low.0 in
    let m : E = at (pos i.settings.m) D low.1 in
    let s : E = at (pos i.settings.s) D low.2 in
    let divisor : E = num 65536 ⊞ s in
    (λ j. record {
      instrument = i;
      own = is (num 2 ⊠ num 65536 ⊟ count ⊠ q) tt j;
      near = is q tt j;
      kept = is (num 65536 ⊟ s) tt j;
      m = is m tt j;
      bend = is (num 2 ⊠ count ⊠ m) tt j;
      stiff = is (count ⊠ count ⊠ m) tt j;
      divisor = nat_abs (is divisor tt j);
      half = nat_abs (is (divisor ÷ num 2) tt j);
      limit = nat_abs (is (num 8795824586753 ⊠ divisor) tt j);
    }) ∙ sym (plan_passed i passes)
