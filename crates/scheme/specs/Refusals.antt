-- "Refusals from the input", "Refusals from the state": a test for each number, their order, and the checks of each call.
use Rattle.std.specs.Prelude.{◌≡◌, Bool, true, false, not, ◌&&◌, ◌||◌, cond, List, [], ◌∷◌, ◌++◌, ℕ, ◌-◌, T, leb, ltb, eqb, ℤ, nat_abs}
use Rattle.std.specs.Prelude.{length, Option, Some, None, Result, Ok, Err}
use Rattle.types.specs.declared.Settings.{Settings}
use Rattle.types.specs.declared.Grid.{Grid}
use Rattle.types.specs.declared.Instrument.{Instrument}
use Rattle.types.specs.declared.Hit.{Hit}
use Rattle.types.specs.declared.Refusal.{Refusal}
use Rattle.types.specs.declared.Refusal.TheVariants.{UnknownKind, WrongSize, Coefficient, Unstable, WrongLength, NotMoving}
use Rattle.types.specs.declared.Refusal.TheVariants.{TooStrong, PickUp, HalfWidth, PointBeyond, FixedNotZero, BrokenTable}
use Rattle.types.specs.Numbers.{D, number, hit_at, number_of}
use Rattle.pluck_table.specs.Loading.{loaded_table, loaded_number}
use Rattle.scheme.specs.Lists.{point, some_below}
use Rattle.scheme.specs.Instruments.{kind, beyond, points, within, in_table, stable_in, fixed, moving}
use Rattle.scheme.specs.Step.{some_beyond}

-- the paper's number of each is `number` of crate types, that of an outcome, 0 for none, `number_of`

-- the last kind, and the last that a pluck admits
abbrev pub last_kind : ℕ
last_kind = 7

abbrev pub last_plucked : ℕ
last_plucked = 4

-- 1 "Kind not 1..6; for a pluck not 1..4"; "1 now admits kind 7 except for plucks"
abbrev pub unknown_kind : (last : ℕ) → Grid → Bool
unknown_kind last g = not (within 1 last g.kind)

-- 2 "Columns or rows outside the table"
abbrev pub wrong_size : Grid → Bool
wrong_size g = not (in_table g)

-- 4 "A coefficient that .. is not in 0..65536"
abbrev pub wrong_coefficient : Settings → Bool
wrong_coefficient c = ltb D c.q || ltb D c.m || ltb D c.s

-- 5 "Not stable, or m above 0 outside kind 4", for a plate by its own limit
abbrev pub unstable : Instrument → Bool
unstable i = not (stable_in (kind i.grid) i.settings.q i.settings.m)

-- 6 "A lent level (work too) whose length is not columns × rows": of n points
abbrev pub wrong_length : Grid → ℕ → Bool
wrong_length g n = not (eqb n (points g))

-- 7 "Hit or pluck centre not a moving point"
abbrev pub not_moving : Grid → Option Hit → Bool
not_moving g None = false
not_moving g (Some h) = not (moving g h.point)

-- 8 "Force or height beyond the ceiling"
abbrev pub too_strong : Option Hit → Bool
too_strong None = false
too_strong (Some h) = beyond h.force

-- 9 "Pick-up not a grid point"
abbrev pub not_grid_point : Grid → ℕ → Bool
not_grid_point g p = not (ltb p (points g))

-- 10 "Pluck half width not 1..columns − 1"
abbrev pub wrong_width : Grid → ℕ → Bool
wrong_width g w = not (leb 1 w && leb w (g.columns - 1))

-- 11 "A point of older or newer beyond the ceiling" is `some_beyond` of "One step"

-- 12 "A fixed point of older or newer not 0"
unfoldable pub fixed_not_zero : Grid → List ℤ → Bool
fixed_not_zero g xs = some_below (length xs) (λ i. fixed g i && ltb 0 (nat_abs (point xs i)))

-- 14 "the table breaks a rule or has another length": what loading it answers
abbrev pub broken_table : List ℕ → Bool
broken_table t = ltb 0 (loaded_number (loaded_table t))

-- ---- the lowest that applies

-- a test, and what it answers
infix 70 ◌⇒◌
pub data Check : Type 0 where
  ◌⇒◌ : Bool → Refusal → Check

-- the first that applies of checks in order
abbrev pub lowest : List Check → Result Unit Refusal
lowest [] = Ok tt
lowest ((true ⇒ r) ∷ cs) = Err r
lowest ((false ⇒ r) ∷ cs) = lowest cs

-- "The lowest number that applies answers": the order of all numbers; 14 is "checked after 10"
abbrev pub order : List ℕ
order = 1 ∷ 2 ∷ 3 ∷ 4 ∷ 5 ∷ 6 ∷ 7 ∷ 8 ∷ 9 ∷ 10 ∷ 14 ∷ 11 ∷ 12 ∷ 13 ∷ []

-- the checks stand in this order, one after the other
abbrev pub stands_in : List ℕ → List Check → Bool
stands_in ns [] = true
stands_in [] ((b ⇒ r) ∷ cs) = false
stands_in (n ∷ ns) ((b ⇒ r) ∷ cs) = cond (eqb n (number r)) (stands_in ns cs) (stands_in ns ((b ⇒ r) ∷ cs))

-- ---- checks that calls share

-- 1 and 2, of a call that admits kinds 1..last
abbrev pub grid_checks : (last : ℕ) → Grid → List Check
grid_checks last g = unknown_kind last g ⇒ UnknownKind ∷ wrong_size g ⇒ WrongSize ∷ []

-- 4 and 5
abbrev pub settings_checks : Instrument → List Check
settings_checks i = wrong_coefficient i.settings ⇒ Coefficient ∷ unstable i ⇒ Unstable ∷ []

-- 1, 2, 4 and 5
abbrev pub instrument_checks : Instrument → List Check
instrument_checks i = grid_checks last_kind i.grid ++ settings_checks i

-- 6, of a test of all that is lent
abbrev pub length_checks : (wrong : Bool) → List Check
length_checks wrong = wrong ⇒ WrongLength ∷ []

-- 7 and 8
abbrev pub hit_checks : Grid → Option Hit → List Check
hit_checks g h = not_moving g h ⇒ NotMoving ∷ too_strong h ⇒ TooStrong ∷ []

-- 9
abbrev pub pick_checks : Grid → ℕ → List Check
pick_checks g pick = not_grid_point g pick ⇒ PickUp ∷ []

-- 10
abbrev pub width_checks : Grid → ℕ → List Check
width_checks g w = wrong_width g w ⇒ HalfWidth ∷ []

-- 14
abbrev pub table_checks : List ℕ → List Check
table_checks lent = broken_table lent ⇒ BrokenTable ∷ []

-- 11 and 12, of tests of all levels that are lent
abbrev pub state_checks : (high unfixed : Bool) → List Check
state_checks high unfixed = high ⇒ PointBeyond ∷ unfixed ⇒ FixedNotZero ∷ []

-- ---- the checks of each call

-- "Refusals from the input" of a block: 1, 2 and 4 to 9
abbrev pub input_checks : Instrument → (wrong : Bool) → ℕ → Option Hit → List Check
input_checks i wrong pick h = instrument_checks i ++ (length_checks wrong ++ (hit_checks i.grid h ++ pick_checks i.grid pick))

-- "A block meets 1, 2, 4 to 9 and 11 to 13, with 7 and 8 only if a hit is given": all but 13; `wrong` is 6's test of what else is lent
abbrev pub block_checks : Instrument → (older newer : List ℤ) → (wrong : Bool) → ℕ → Option Hit → List Check
block_checks i older newer wrong pick h =
    let g = i.grid in
    input_checks i (wrong_length g (length older) || wrong_length g (length newer) || wrong) pick h ++
    state_checks (some_beyond older || some_beyond newer) (fixed_not_zero g older || fixed_not_zero g newer)

unfoldable pub block_refusal : Instrument → (older newer : List ℤ) → (wrong : Bool) → ℕ → Option Hit → Result Unit Refusal
block_refusal i older newer wrong pick h = lowest (block_checks i older newer wrong pick h)

-- "A pluck (kind, columns, rows, two levels, centre, half width, height) meets 1, 2, 6, 7, 8 and 10": centre c, half width w, height a
abbrev pub pluck_checks : Grid → (wrong : Bool) → ℕ → ℕ → ℤ → List Check
pluck_checks g wrong c w a = grid_checks last_plucked g ++ (length_checks wrong ++ (hit_checks g (hit_at c a) ++ width_checks g w))

-- "A pluck looks at lent lengths, not at old contents."
unfoldable pub pluck_refusal : Grid → (older newer : ℕ) → ℕ → ℕ → ℤ → Result Unit Refusal
pluck_refusal g older newer c w a = lowest (pluck_checks g (wrong_length g older || wrong_length g newer) c w a)

-- a pluck by a lent table: "14 .. checked after 10"
abbrev pub pluck_with_checks : Grid → (wrong : Bool) → ℕ → ℕ → ℤ → (lent : List ℕ) → List Check
pluck_with_checks g wrong c w a lent = pluck_checks g wrong c w a ++ table_checks lent

unfoldable pub pluck_with_refusal : Grid → (older newer : ℕ) → ℕ → ℕ → ℤ → (lent : List ℕ) → Result Unit Refusal
pluck_with_refusal g older newer c w a lent = lowest (pluck_with_checks g (wrong_length g older || wrong_length g newer) c w a lent)

-- "The float reading (kind, columns, rows, newer, pick-up) meets 1, 2, 6, 9, 11 and 12"
abbrev pub reading_checks : Grid → List ℤ → ℕ → List Check
reading_checks g newer pick =
    grid_checks last_kind g ++ (length_checks (wrong_length g (length newer)) ++
    (pick_checks g pick ++ state_checks (some_beyond newer) (fixed_not_zero g newer)))

unfoldable pub reading_refusal : Grid → List ℤ → ℕ → Result Unit Refusal
reading_refusal g newer pick = lowest (reading_checks g newer pick)

-- "any kind, grid and settings that 1, 2, 4 and 5 let pass"
unfoldable pub instrument_refusal : Instrument → Result Unit Refusal
instrument_refusal i = lowest (instrument_checks i)

-- what 14's check answers has the number that loading has. Proved as `number_of_loading`.
abbrev pub NumberOfLoading : Type 0
NumberOfLoading = (lent : List ℕ) → number_of (lowest (table_checks lent)) ≡ loaded_number (loaded_table lent)

-- each call's checks stand in `order`, so that `lowest` answers the lowest that applies
pub record ChecksInOrder : Type 0 where
  pub block : (i : Instrument) (older newer : List ℤ) (wrong : Bool) (pick : ℕ) (h : Option Hit)
      → T (stands_in order (block_checks i older newer wrong pick h))
  pub pluck : (g : Grid) (wrong : Bool) (c w : ℕ) (a : ℤ) → T (stands_in order (pluck_checks g wrong c w a))
  pub pluck_with : (g : Grid) (wrong : Bool) (c w : ℕ) (a : ℤ) (lent : List ℕ) → T (stands_in order (pluck_with_checks g wrong c w a lent))
  pub reading : (g : Grid) (newer : List ℤ) (pick : ℕ) → T (stands_in order (reading_checks g newer pick))
