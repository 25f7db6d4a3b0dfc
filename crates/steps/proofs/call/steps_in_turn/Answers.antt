-- Work is compared with older: what is tested refuses the same as the definition.
use Rattle.std.proofs.Common.{◌≡◌, ℕ, List, ℤ, Option, sym, ◌∙◌, rules, length, not, nat_eq}
use Rattle.types.specs.declared.Hit.{Hit}
use Rattle.types.specs.declared.Instrument.{Instrument}
use Rattle.scheme.specs.Refusals.{wrong_length, block_refusal}
use Rattle.block_checks.proofs.BlockLaws.{block_same, other_length}
use Rattle.steps.specs.Left.{three}
use Rattle.steps.proofs.CallLaws.{work_right, left_in_turn}
use Rattle.steps.proofs.call.steps_in_turn.Goals as goal

same : (i : Instrument) (older newer work : List ℤ) (pick : ℕ) (h : Option Hit)
    → block_refusal i older newer (not (nat_eq (length work) (length older))) pick h
    ≡ block_refusal i older newer (wrong_length i.grid (length work)) pick h
same i older newer work pick h =
    block_same i older newer (not (nat_eq (length work) (length older))) (wrong_length i.grid (length work)) pick h
    (λ right. other_length i.grid (length older) (length work) right)

pub steps_from-requires : goal.steps_from-requires
steps_from-requires c = λ none.
    let a = c.args in
    three (work_right a.i _ _ a.work.now _ _ (sym (same a.i a.older.now a.newer.now a.work.now a.pick a.hit) ∙ none))

pub returns : goal.returns
returns c =
    let a = c.args in
    left_in_turn a.i a.older.now a.newer.now a.work.now a.samples.now a.pick a.hit
    (same a.i a.older.now a.newer.now a.work.now a.pick a.hit) (search rules) (search rules) (search rules) c.steps_from.ensures
