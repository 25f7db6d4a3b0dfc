-- `pluck` meets its contract: the constant is the definition's table, entry by entry.
use Rattle.std.proofs.Common.{refl, sym, ap, ap₂, ◌∙◌, List, length, ℤ, Ok}
use Rattle.bounded.proofs.Num.{back}
use Rattle.pluck_table.specs.Table.{table}
use Rattle.pluck_table.specs.Loading.{keeps_rule, loaded_table}
use Rattle.pluck_table.proofs.LoadingLaws.{kept}
use Rattle.scheme.specs.Refusals.{pluck_refusal}
use Rattle.scheme.specs.Pluck.{pluck_level}
use Rattle.scheme.specs.Calls.{pluck_left}
use Rattle.scheme.proofs.Laws.Calls.{pluck-done}
use Rattle.pluck.proofs.call.pluck.Goals as goal

-- of the constant as it stands: its values are looked at in the promise alone
pub invariant_of-table : goal.invariant_of-table
unfolding keeps_rule loaded_table
invariant_of-table c = record { rule = kept _ refl; at_end = refl }

pub returns : goal.returns
unfolding table
returns c =
    let a = c.args in
    let stored = back a.height c.ranges.height.sfits in
    let refuses = λ (z : ℤ). pluck_refusal a.g (length a.older.now) (length a.newer.now) a.centre a.half_width z in
    let level = λ (z : ℤ). pluck_level table a.g a.centre a.half_width z in
    let done = c.carry_out.ensures in
    ap₂ (λ (x y : List ℤ). pluck_left (Ok tt) x y) (done.0 ∙ ap level stored) (done.1 ∙ ap level stored) ∙
    sym (pluck-done a.g a.older.now a.newer.now a.centre a.half_width a.height
    (ap refuses (sym stored) ∙ sym c.refusal.ensures ∙ c.in_ok-refusal.was))
