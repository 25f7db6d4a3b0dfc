-- What the checks answer refuses the call, and what they let pass is carried out.
use Rattle.std.proofs.Common.{sym}
use Rattle.std.proofs.lemmas.Result.{err_from_is_err_and}
use Rattle.steps.specs.Left.{refused, carried}
use Rattle.steps.proofs.CallLaws.{rest_right}
use Rattle.steps.proofs.call.steps_from.Goals as goal

pub returns-in_err-block_refusal : goal.returns-in_err-block_refusal
returns-in_err-block_refusal c =
    let p = err_from_is_err_and c.from_residual.result c.from_residual.ensures.1 in
    rw (p.1, p.2) (refused _ (sym c.in_err-block_refusal.ensures))

pub begin-steps-requires : goal.begin-steps-requires
begin-steps-requires c =
    let a = c.args in
    let passes = sym c.in_ok-block_refusal.ensures in
    (rest_right a.i a.older.now a.newer.now a.wrong a.pick a.hit passes, c.requires passes)

pub returns : goal.returns
returns c =
    carried _ _ _ _ _ _ (sym c.in_ok-block_refusal.ensures) c.begin-steps.ensures.1 c.begin-steps.ensures.0 c.ending.ensures
