-- What is claimed of the call. The proofs are `checks_in_order` and `accepted_playable`.
use Rattle.std.specs.Prelude.{◌≡◌, T, Ok}
use Rattle.types.specs.declared.Grid.{Grid}
use Rattle.types.specs.declared.Settings.{Settings}
use Rattle.scheme.specs.Refusals.{stands_in, order, instrument_refusal}
use Rattle.sheet.specs.declared.Sheet.{Sheet}
use Rattle.sheet.specs.Call.{sheet_checks, sheet_call}

-- the checks stand in `order`, so that `lowest` answers the lowest that applies
abbrev pub SheetChecksInOrder : Type 0
SheetChecksInOrder = (g : Grid) (s : Sheet) → T (stands_in order (sheet_checks g s))

-- an accepted answer's settings are ones that a block accepts for that kind and grid
abbrev pub AcceptedPlayable : Type 0
AcceptedPlayable = (g : Grid) (s : Sheet) (c : Settings) → sheet_call g s ≡ Ok c
    → instrument_refusal (record { grid = g; settings = c }) ≡ Ok tt
