-- "Table of examples": A to J, one table, one statement.
use Rattle.std.specs.Prelude.{◌≡◌, true, List, [], ◌∷◌, map, ℕ, ℤ, pos, neg_ℤ, None}
use Rattle.types.specs.declared.Grid.{Grid}
use Rattle.types.specs.declared.Instrument.{Instrument}
use Rattle.types.specs.Numbers.{number_of}
use Rattle.scheme.specs.Lists.{count_below}
use Rattle.types.specs.Numbers.{kind_of}
use Rattle.scheme.specs.Instruments.{size_in, moving}
use Rattle.scheme.specs.Step.{next_level}
use Rattle.scheme.specs.Refusals.{instrument_refusal}

-- kind, columns, rows
abbrev pub grid : ℕ → ℕ → ℕ → Grid
grid k c r = record { kind = k; columns = c; rows = r }

-- kind, columns, rows, and q, m, s
abbrev pub instrument : ℕ → ℕ → ℕ → ℕ → ℕ → ℕ → Instrument
instrument k c r q m s = record { grid = grid k c r; settings = record { q = q; m = m; s = s } }

-- a level with no negative point
abbrev pub level : List ℕ → List ℤ
level xs = map pos xs

-- −n
abbrev pub minus : ℕ → ℤ
minus n = neg_ℤ (pos n)

-- the next level without a hit, from newer and older
abbrev pub next : Instrument → (newer older : List ℤ) → List ℤ
next i newer older = next_level i None older newer

-- three points with fixed ends, and nine with a fixed ring: the middle
abbrev pub middle3 : ℤ → List ℤ
middle3 x = pos 0 ∷ x ∷ pos 0 ∷ []

abbrev pub middle9 : ℤ → List ℤ
middle9 x = pos 0 ∷ pos 0 ∷ pos 0 ∷ pos 0 ∷ x ∷ pos 0 ∷ pos 0 ∷ pos 0 ∷ pos 0 ∷ []

-- the number of the refusal of 1, 2, 4 and 5 at every size that the table admits
abbrev pub AtEverySize : ℕ → ℕ → ℕ → ℕ → Type 0
AtEverySize k q m n = (c r : ℕ) → size_in (kind_of k) c r ≡ true → number_of (instrument_refusal (instrument k c r q m 0)) ≡ n

-- "Proved together, as one statement over one table"
pub record ExamplesHold : Type 0 where
  pub A : next (instrument 1 3 1 65536 0 0) (middle3 (pos 1000)) (middle3 (pos 1000)) ≡ middle3 (minus 1000)
  pub B : next (instrument 5 3 3 32768 0 0) (middle9 (pos 1000)) (middle9 (pos 1000)) ≡ middle9 (minus 1000)
  pub C : next (instrument 1 3 1 16384 0 0) (middle3 (pos 1)) (middle3 (pos 1)) ≡ middle3 (pos 1)
  pub D : next (instrument 1 3 1 16384 0 0) (middle3 (minus 1)) (middle3 (minus 1)) ≡ middle3 (minus 1)
  pub E : next (instrument 1 3 1 0 0 65536) (middle3 (pos 3)) (middle3 (pos 7)) ≡ middle3 (pos 3)
  pub F : next (instrument 3 3 1 65536 0 0) (level (4 ∷ 0 ∷ 0 ∷ [])) (level (0 ∷ 0 ∷ 0 ∷ [])) ≡ level (0 ∷ 4 ∷ 0 ∷ [])
  pub G : next (instrument 4 5 1 0 16384 0) (level (0 ∷ 0 ∷ 8 ∷ 0 ∷ 0 ∷ [])) (level (0 ∷ 0 ∷ 0 ∷ 0 ∷ 0 ∷ []))
      ≡ level (0 ∷ 8 ∷ 4 ∷ 8 ∷ 0 ∷ [])
  pub H : AtEverySize 4 65532 1 0 × AtEverySize 4 65533 1 5
  pub I : AtEverySize 5 32768 0 0 × AtEverySize 5 32769 0 5
  pub J : (count_below 49 (moving (grid 6 7 7)) ≡ 25) × (count_below 64 (moving (grid 6 8 8)) ≡ 32)
