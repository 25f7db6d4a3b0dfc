-- `pluck_with` meets its contract: a table that was loaded keeps the rule, and its last place is 1024.
use Rattle.std.proofs.Common.{sym, ap, ◌∙◌}
use Rattle.pluck_table.specs.Loading.{loaded_number}
use Rattle.pluck_table.proofs.LoadingLaws.{kept, last_is}
use Rattle.pluck.proofs.lent.pluck_with.Goals as goal

pub invariant_of-table : goal.invariant_of-table
invariant_of-table c =
    let loaded = sym c.load_table.ensures ∙ c.in-Some.is in
    record { rule = kept _ (ap loaded_number loaded); at_end = last_is _ _ loaded }
