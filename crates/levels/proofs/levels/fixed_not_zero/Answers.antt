-- `fixed_not_zero` meets its contract: a line's fixed points are the ends that its kind names.
use Rattle.std.proofs.Common.{sym, ◌∙◌, arith}
use Rattle.scheme.proofs.Laws.Bools.{or_yes, or_no}
use Rattle.scheme.proofs.Laws.Kinds.{sized}
use Rattle.levels.proofs.LineLaws.{line-points, line_test, both_ends}
use Rattle.levels.proofs.levels.fixed_not_zero.Goals as goal

pub bounds-xs-0 : goal.bounds-xs-0
bounds-xs-0 c =
    let p = line-points c.args.g (sym c.from.ensures ∙ c.in-StringFixedFree.is) (omega arith) c.requires.0 in
    omega (arith, p.0, p.1, c.requires.1)

pub bounds-xs-0-in-StringFixed : goal.bounds-xs-0-in-StringFixed
bounds-xs-0-in-StringFixed c =
    let p = both_ends c.args.xs.now c.args.g c.in-StringFixed.is c.from.ensures c.requires.0 c.requires.1 in omega (arith, p.0, p.1)

pub overflow_sub-g : goal.overflow_sub-g
overflow_sub-g c = omega (arith, (sized _ _ _ c.requires.0).columns_low)

pub offset_bounds-xs-g : goal.offset_bounds-xs-g
offset_bounds-xs-g c = omega (arith, (sized _ _ _ c.requires.0).columns_high)

pub bounds-xs-g : goal.bounds-xs-g
bounds-xs-g c =
    let p = both_ends c.args.xs.now c.args.g c.in-StringFixed.is c.from.ensures c.requires.0 c.requires.1 in omega (arith, p.0, p.1)

pub returns-in-StringFree : goal.returns-in-StringFree
returns-in-StringFree c = line_test c.args.xs.now c.args.g (sym c.from.ensures ∙ c.in-StringFree.is) (omega arith) c.requires.0 c.requires.1

pub returns-in-StringFixedFree : goal.returns-in-StringFixedFree
returns-in-StringFixedFree c = c.is_not_zero.ensures ∙
    line_test c.args.xs.now c.args.g (sym c.from.ensures ∙ c.in-StringFixedFree.is) (omega arith) c.requires.0 c.requires.1

pub returns-then-is_not_zero : goal.returns-then-is_not_zero
returns-then-is_not_zero c =
    let p = both_ends c.args.xs.now c.args.g c.in-StringFixed.is c.from.ensures c.requires.0 c.requires.1 in
    c.if-is_not_zero.true ∙ sym (or_yes _ (sym c.is_not_zero-in-StringFixed.ensures ∙ c.if-is_not_zero.true)) ∙ p.2

pub returns-else-is_not_zero : goal.returns-else-is_not_zero
returns-else-is_not_zero c =
    let p = both_ends c.args.xs.now c.args.g c.in-StringFixed.is c.from.ensures c.requires.0 c.requires.1 in
    c.is_not_zero-else-is_not_zero.ensures ∙
    sym (or_no (sym c.is_not_zero-in-StringFixed.ensures ∙ c.if-is_not_zero.false)) ∙ p.2
