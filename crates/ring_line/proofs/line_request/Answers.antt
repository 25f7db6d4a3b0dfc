-- Nine numbers, then the force, then the limit of the steps.
use Rattle.std.proofs.Common.{rules, arith, ◌≡◌, ◌∙◌, sym, ap, w64, to_z, of_z}
use Rattle.std.specs.Prelude.{Some}
use Rattle.ring_decimals.proofs.DecimalLaws.{wrong_read, right_read}
use Rattle.std.proofs.lemmas.List.Sorted.{answers_always}
use Rattle.ring_line.specs.Reading.{ten}
use Rattle.ring_line.proofs.RequestLaws.{turned_down, force_turned_down, steps_turned_down, taken}
use Rattle.ring_line.proofs.SplitLaws.{all_left, none_left, last_left, wrong_left, more_left}
use Rattle.ring_line.proofs.line_request.Goals as goal

pub loop-value-init : goal.loop-value-init
loop-value-init c = all_left _ _ _ c.splitn-fields.ensures.count c.splitn-fields.ensures.done c.splitn-fields.ensures.rest

pub returns-in_err-next : goal.returns-in_err-next
returns-in_err-next c =
    let few = none_left _ _ _ _ c.loop-value.invariant (omega arith) c.in_err-next.ensures.steps.1 in
    c.from_residual.ensures ∙ turned_down _ few

pub returns-in_err-value : goal.returns-in_err-value
returns-in_err-value c =
    let none = wrong_read _ _ (sym c.in_err-value.ensures) in
    let next = c.in_ok-next in
    let wrong = wrong_left _ c.loop-value.fields c.next.new.self _ _ _ c.loop-value.invariant next.field-0 next.ensures.steps (omega arith)
    (answers_always _ _ _ (search rules)) none in
    c.from_residual-in_err-value.ensures ∙ turned_down _ wrong

pub loop-value-preserved : goal.loop-value-preserved
loop-value-preserved c =
    let w = right_read _ _ (sym c.in_ok-value.ensures) in
    let next = c.in_ok-next in
    more_left _ c.loop-value.fields c.next.new.self _ _ _ c.loop-value.invariant next.field-0 next.ensures.steps (omega arith)
    (answers_always _ _ _ (search rules)) _ (omega arith) w.0 w.1

pub returns-in_err-next-2 : goal.returns-in_err-next-2
returns-in_err-next-2 c =
    let few = none_left _ _ _ _ c.loop-value.invariant (omega arith) c.in_err-next-2.ensures.steps.1 in
    c.from_residual-in_err-next-2.ensures ∙ turned_down _ few

pub returns-in_err-force : goal.returns-in_err-force
returns-in_err-force c =
    let next = c.in_ok-next-2 in
    let r = last_left _ c.loop-value.fields c.next-2.new.self _ _ _ c.loop-value.invariant next.field-0 next.ensures.steps (omega arith) in
    c.from_residual-in_err-force.ensures ∙ force_turned_down _ _ _ r (sym c.in_err-force.ensures)

pub returns-then-values-gt8192 : goal.returns-then-values-gt8192
returns-then-values-gt8192 c =
    let next = c.in_ok-next-2 in
    let r = last_left _ c.loop-value.fields c.next-2.new.self _ _ _ c.loop-value.invariant next.field-0 next.ensures.steps (omega arith) in
    steps_turned_down _ _ _ r (omega arith)

pub returns : goal.returns
returns c =
    let next = c.in_ok-next-2 in
    let r = last_left _ c.loop-value.fields c.next-2.new.self _ _ _ c.loop-value.invariant next.field-0 next.ensures.steps (omega arith) in
    let whole : to_z w64 (of_z w64 c.in_ok-force.force) ≡ c.in_ok-force.force = search rules in
    ap Some (c.numbers_of.ensures ∙ ap (ten c.loop-value.value-items) whole) ∙ taken _ _ _ r _ (sym c.in_ok-force.ensures) (omega arith)
