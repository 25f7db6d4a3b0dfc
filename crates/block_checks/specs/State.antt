-- Vocabulary of private functions: what the state of two levels of any length is refused for.
use Rattle.std.specs.Prelude.{◌||◌, List, ℤ, Result}
use Rattle.types.specs.declared.Grid.{Grid}
use Rattle.types.specs.declared.Refusal.{Refusal}
use Rattle.scheme.specs.Step.{some_beyond}
use Rattle.scheme.specs.Refusals.{lowest, state_checks}
use Rattle.levels.specs.Levels.{unfixed}

-- "Refusals from the state" of two levels, 11 and 12: where 6 has passed, the last part of a block's checks (`by_parts`)
unfoldable pub state_refusal : Grid → (older newer : List ℤ) → Result Unit Refusal
state_refusal g older newer = lowest (state_checks (some_beyond older || some_beyond newer) (unfixed g older || unfixed g newer))
