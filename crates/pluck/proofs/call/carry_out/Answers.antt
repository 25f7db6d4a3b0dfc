-- `carry_out` meets its contract: the run of the line's moving points, and the older level's shape copied to the newer.
use Rattle.std.proofs.Common.{ap, ◌∙◌, length, refl, arith}
use Rattle.scheme.proofs.Laws.Lists.{length-tabulate}
use Rattle.slices.proofs.SliceLaws.{copied-whole}
use Rattle.pluck.proofs.CallLaws.{some, narrow, stored, stored_low, as_long, starts, ends, inside, level_is}
use Rattle.pluck.proofs.call.carry_out.Goals as goal

pub invariant_of-shape : goal.invariant_of-shape
invariant_of-shape c =
    let none = c.requires in
    let run = c.straight_run-run in
    record {
      some = some _ _ _ _ _ _ none;
      narrow = narrow _ _ _ _ _ _ none;
      low = stored_low _ _ _ _ _ _ none;
      starts = starts _ _ _ _ _ _ none run.result run.ensures;
      ends = ends _ _ _ _ _ _ none run.result run.ensures;
    }

pub fill-requires : goal.fill-requires
fill-requires c = inside _ _ _ _ _ _ c.requires c.straight_run-run.result c.straight_run-run.ensures

pub returns : goal.returns
returns c =
    let filled = c.fill.ensures ∙ level_is _ _ _ _ _ _ c.requires _ c.straight_run-run.ensures refl refl (stored _ _ _ _ _ _ c.requires) in
    let copied = copied-whole _ _ (omega (arith, as_long _ _ _ _ _ _ c.requires, ap length c.fill.ensures ∙ length-tabulate _ _)) in
    (filled, c.copy.ensures ∙ copied ∙ filled)
