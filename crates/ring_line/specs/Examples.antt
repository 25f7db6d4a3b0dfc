-- The paper's line, and both sides of each border, as one table: proved by computation (`examples_hold`).
use Rattle.std.specs.Prelude.{◌≡◌, Option, Some, None, List, [], ◌∷◌, ◌++◌, map, ℕ, ℤ, pos, neg_ℤ, replicate}
use Prim.Native.String.{String}
use Rattle.ring_line.specs.declared.asked.Numbers.{Numbers}
use Rattle.ring_line.specs.Lists.{text}
use Rattle.ring_line.specs.Requests.{request_of}

-- what was read, and what it asks for
pub record Example : Type 0 where
  pub bytes : List ℕ
  pub request : Option Numbers

-- ---- how a row is written

infix 5 ◌gives◌
abbrev ◌gives◌ : List ℕ → Option Numbers → Example
bs gives r = record { bytes = bs; request = r }

abbrev zeros : ℕ → List ℕ
zeros n = replicate n 48

-- the paper's line but for its last number
abbrev line : String → List ℕ
line force = text "1 3 1 65536 0 0 1 4 1 " ++ text force

-- it with other steps, and another force
abbrev steps_run : ℕ → ℤ → Option Numbers
steps_run n z = Some (record { kind = 1; columns = 3; rows = 1; q = 65536; m = 0; s = 0; pick = 1; steps = n; point = 1; force = z })

abbrev line_run : ℤ → Option Numbers
line_run z = steps_run 4 z

-- ten numbers that all differ
abbrev nine_to_nought : Option Numbers
nine_to_nought = Some (record { kind = 9; columns = 8; rows = 7; q = 6; m = 5; s = 4; pick = 3; steps = 2; point = 1; force = pos 0 })

-- ---- the table

unfoldable pub table : List Example
table =
    -- the paper's line, with and without more after it
    (text "1 3 1 65536 0 0 1 4 1 268435456" gives line_run (pos 268435456)) ∷
    (line "268435456\n" gives line_run (pos 268435456)) ∷
    (line "2\n5 5 5" gives line_run (pos 2)) ∷
    (text "9 8 7 6 5 4 3 2 1 0" gives nine_to_nought) ∷
    -- "only force may be negative, by one leading minus"
    (line "-7" gives line_run (neg_ℤ (pos 7))) ∷
    (line "-0" gives line_run (pos 0)) ∷
    (line "-" gives None) ∷
    (line "--7" gives None) ∷
    (line "7-" gives None) ∷
    (line "+7" gives None) ∷
    (text "-1 3 1 65536 0 0 1 4 1 0" gives None) ∷
    (text "1 3 1 65536 0 0 1 4 -1 0" gives None) ∷
    -- "ten decimals"
    ([] gives None) ∷
    (text "\n1 3 1 65536 0 0 1 4 1 0" gives None) ∷
    (text "1 3 1 65536 0 0 1 4 1" gives None) ∷
    (text "1 3 1 65536 0 0 1 4 1\n0" gives None) ∷
    (line "0 0" gives None) ∷
    -- "single spaces between"
    (line " 0" gives None) ∷
    (line "0 " gives None) ∷
    (line "" gives None) ∷
    (text " 1 3 1 65536 0 0 1 4 1 0" gives None) ∷
    (text "1\t3 1 65536 0 0 1 4 1 0" gives None) ∷
    -- "digits only"
    (line "x" gives None) ∷
    (line "0x7" gives None) ∷
    (line "1/0" gives None) ∷
    (line "1:0" gives None) ∷
    (line "7\r\n" gives None) ∷
    (line "7\0" gives None) ∷
    -- "steps above 8192"
    (text "1 3 1 65536 0 0 1 8192 1 0" gives steps_run 8192 (pos 0)) ∷
    (text "1 3 1 65536 0 0 1 8193 1 0" gives None) ∷
    -- "a number outside signed 64 bits"
    (line "9223372036854775807" gives line_run (pos 9223372036854775807)) ∷
    (line "9223372036854775808" gives None) ∷
    (line "-9223372036854775808" gives line_run (neg_ℤ (pos 9223372036854775808))) ∷
    (line "-9223372036854775809" gives None) ∷
    (text "9223372036854775808 3 1 65536 0 0 1 4 1 0" gives None) ∷
    (text "1 3 1 65536 0 0 1 4 18446744073709551617 0" gives None) ∷
    -- "at most 255 bytes": the line has 31, and leading zeros are digits
    (zeros 224 ++ line "268435456" gives line_run (pos 268435456)) ∷
    (zeros 224 ++ line "268435456\n" gives line_run (pos 268435456)) ∷
    (zeros 225 ++ line "268435456" gives None) ∷ []

abbrev pub ExamplesHold : Type 0
ExamplesHold = map (λ e. request_of e.bytes) table ≡ map (λ e. e.request) table
