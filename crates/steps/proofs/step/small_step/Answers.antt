-- The next level is copied where no value of it lies beyond the ceiling.
use Rattle.std.proofs.Common.{refl, sym, ◌∙◌}
use Rattle.slices.proofs.SliceLaws.{copied-whole}
use Rattle.steps.proofs.StepLaws.{small_given, small_copied}
use Rattle.steps.proofs.step.small_step.Goals as goal

pub next_level-requires : goal.next_level-requires
next_level-requires c = small_given c.requires.0 (c.copy.ensures ∙ copied-whole _ _ (sym c.requires.1))

pub returns : goal.returns
returns c =
    let p = c.in_ok-inexact.ensures in
    small_copied p refl
    (c.copy-2.ensures ∙ copied-whole _ _ (p.stepped.long ∙ sym c.requires.0.older_passes.long ∙ sym p.passing.older_long))
