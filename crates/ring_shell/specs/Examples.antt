-- The paper's line with its listing, and a line for each special rule, as one table: proved by computation (`examples_hold`).
use Rattle.std.specs.Prelude.{◌≡◌, List, [], ◌∷◌, map}
use Prim.Native.String.{String}
use Rattle.ring_line.specs.Lists.{text}
use Rattle.ring_shell.specs.Answer.{answer}

-- what is read, and what is printed
pub record Example : Type 0 where
  pub input : String
  pub output : String

infix 5 ◌prints◌
abbrev ◌prints◌ : String → String → Example
i prints o = record { input = i; output = o }

unfoldable pub table : List Example
table =
    ("1 3 1 65536 0 0 1 4 1 268435456\n" prints "1 1\n2 0\n3 -1\n4 0\ndone 4 0\n") ∷
    ("input" prints "input\n") ∷
    -- "always gives the hit, force 0 too": point 0 is fixed
    ("1 3 1 65536 0 0 1 4 0 0\n" prints "done 0 7\n") ∷
    ("1 3 1 65536 0 0 1 2 1 0\n" prints "1 0\n2 0\ndone 2 0\n") ∷
    -- "A known kind with more than 1024 points"
    ("5 41 25 0 0 0 0 1 42 0\n" prints "done 0 2\n") ∷
    ("7 41 25 0 0 0 0 1 42 0\n" prints "done 0 2\n") ∷
    ("8 41 25 0 0 0 0 1 42 0\n" prints "done 0 1\n") ∷
    -- a plate, hit in its middle
    ("7 5 5 0 4096 0 12 2 12 4294967296\n" prints "1 16\n2 12\ndone 2 0\n") ∷
    -- the middle grows by the force until it would pass the ceiling
    ("1 3 1 0 0 0 1 8 1 -4397912293376\n" prints "1 -16384\n2 -32767\ndone 2 13\n") ∷ []

abbrev pub ExamplesHold : Type 0
ExamplesHold = map (λ e. answer (text e.input)) table ≡ map (λ e. text e.output) table
