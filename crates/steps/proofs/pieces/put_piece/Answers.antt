-- `put_piece` meets its contract: both parts are of one length, so all of the piece is copied.
use Rattle.std.proofs.Common.{arith, ◌∙◌}
use Rattle.std.proofs.lemmas.Grind.{common_steps}
use Rattle.slices.proofs.SliceLaws.{copied-whole}
use Rattle.steps.proofs.pieces.put_piece.Goals as goal

pub returns-then-s : goal.returns-then-s
returns-then-s g c =
    let whole = c.copy.ensures ∙ copied-whole _ _ (omega arith) in
    grind (arith, common_steps, whole)
