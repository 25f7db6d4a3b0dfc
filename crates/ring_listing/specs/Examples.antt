-- Listings as one table: proved by computation (`examples_hold`).
use Rattle.std.specs.Prelude.{◌≡◌, List, [], ◌∷◌, map, ℕ, ℤ, pos, neg_ℤ, length}
use Prim.Native.String.{String}
use Rattle.ring_line.specs.Lists.{text}
use Rattle.ring_listing.specs.Text.{listing}

-- samples and a refusal number, and what is printed of them
pub record Example : Type 0 where
  pub samples : List ℤ
  pub refusal : ℕ
  pub output : String

infix 5 ◌ending◌prints◌
abbrev ◌ending◌prints◌ : List ℤ → ℕ → String → Example
l ending r prints o = record { samples = l; refusal = r; output = o }

abbrev minus : ℕ → ℤ
minus n = neg_ℤ (pos n)

unfoldable pub table : List Example
table =
    ((pos 1 ∷ pos 0 ∷ minus 1 ∷ pos 0 ∷ []) ending 0 prints "1 1\n2 0\n3 -1\n4 0\ndone 4 0\n") ∷
    ((minus 16384 ∷ minus 32767 ∷ []) ending 13 prints "1 -16384\n2 -32767\ndone 2 13\n") ∷
    ([] ending 7 prints "done 0 7\n") ∷ []

abbrev pub ExamplesHold : Type 0
ExamplesHold = map (λ e. listing (length e.samples) e.samples e.refusal) table ≡ map (λ e. text e.output) table
