-- A level's fixed points as the code asks for them.
use mathlib.Core.Path.{◌≡◌, sym, ◌∙◌}
use mathlib.Core.Bool.{true, false}
use mathlib.Core.List.{List}
use lib.IntN.{ℤ}
use lib.ListN.{length}
use Rattle.types.specs.declared.Grid.{Grid}
use Rattle.scheme.specs.Instruments.{in_table}
use Rattle.scheme.specs.Refusals.{fixed_not_zero}
use Rattle.scheme.proofs.Laws.Refusals.{right-length}
use Rattle.levels.specs.Levels.{unfixed}
use Rattle.levels.proofs.LevelLaws.{unfixed_is}
use Rattle.instruments.specs.Refused.{not_long}
use Rattle.instruments.proofs.RefusalLaws.{long_is}

-- where 2 and 6 have passed they are the definition's
pub unfixed_same : (g : Grid) (xs : List ℤ) → in_table g ≡ true → not_long g (length xs) ≡ false → unfixed g xs ≡ fixed_not_zero g xs
unfixed_same g xs size l =
    unfixed_is g xs size (right-length g (length xs) (sym (long_is g (length xs) size) ∙ l))
