-- Its base by the test that the code makes.
use Rattle.std.proofs.Common.{◌≡◌, ◌+◌, ◌-◌, Bool, pos, sym, ap, ◌∙◌}
use mathlib.Core.Bool.{not}
use borrow.Author.Tests.{eq-eqb, ne_eqb}
use lib.Dec.{eqb}
use Rattle.stretches.specs.Pieces.{base_of}
use Rattle.steps.proofs.plates.moving_in.Goals as goal
use Rattle.steps.proofs.plates.moving_in.Goals.{then-this-ne0, else-this-ne0}

pub returns : goal.returns
returns g c =
    let a = c.args in
    -- in place the first point, else 0
    let base : c.if-this-ne0.base ≡ base_of (not (eqb g.row.IN_PLACE 0)) (a.start + 1) =
    elim c.if-this-ne0.branch [
      | then-this-ne0 w ↦ w.base-is ∙ sym (ap (λ (t : Bool). base_of (not t) (a.start + 1)) (ne_eqb g.row.IN_PLACE 0 w.if-this-ne0.true))
      | else-this-ne0 w ↦ w.base-is ∙ sym (ap (λ (t : Bool). base_of (not t) (a.start + 1)) (eq-eqb g.row.IN_PLACE 0 w.if-this-ne0.false))
    ] in
    λ j. record {
      from = a.start + 1;
      to = a.start + (a.columns - 1);
      force = pos 0;
      base = base j;
      write = not (eqb g.row.WRITE 0);
    }
