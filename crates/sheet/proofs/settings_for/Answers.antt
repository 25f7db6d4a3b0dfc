-- `settings_for` meets its contract: where 1 and 2 let pass, the columns are in the table.
use Rattle.std.proofs.Common.{◌∙◌, sym}
use Rattle.std.proofs.lemmas.Result.{err_from_is_err_and}
use Rattle.sheet.proofs.CallLaws.{grid_refused, columns_in}
use Rattle.sheet.proofs.settings_for.Goals as goal

pub of_sheet-coefficients-requires : goal.of_sheet-coefficients-requires
of_sheet-coefficients-requires c = columns_in _ c.args.grid (sym c.grid_refusal.ensures ∙ c.in_ok-grid_refusal.was)

pub returns-in_err-grid_refusal : goal.returns-in_err-grid_refusal
returns-in_err-grid_refusal c =
    let p = err_from_is_err_and c.from_residual.result c.from_residual.ensures.1 in
    rw (p.1, p.2) (sym (grid_refused c.args.grid c.args.sheet c.grid_refusal.ensures c.in_err-grid_refusal.was))
