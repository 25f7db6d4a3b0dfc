-- What the program `ring` is asked for: "ten decimals, digits only, single spaces between".
use Rattle.std.specs.Prelude.{Bool, ◌&&◌, cond, Option, Some, None, List, [], ℕ, leb, eqb, length, take, get_or}
use Rattle.ring_decimals.specs.Decimals.{all, digits_value, is_unsigned, is_signed, signed_value}
use Rattle.ring_line.specs.declared.asked.Numbers.{Numbers}
use Rattle.ring_line.specs.Lists.{before, split_on}

-- ---- bytes

abbrev pub line_feed : ℕ
line_feed = 10

abbrev pub space : ℕ
space = 32

-- ---- a line

-- "single spaces between": where two spaces meet, or one stands at an end, a field is empty
abbrev pub fields : List ℕ → List (List ℕ)
fields line = split_on space line

-- field k, from 0
abbrev pub field : List (List ℕ) → ℕ → List ℕ
field fs k = get_or fs k []

-- "ten decimals", nine and the force, without "steps above 8192, or a number outside signed 64 bits"
unfoldable pub well_formed : List (List ℕ) → Bool
well_formed fs = eqb (length fs) 10 && (all is_unsigned (take 9 fs) && (is_signed (field fs 9) && leb (digits_value (field fs 7)) 8192))

-- "kind, columns, rows, q, m, s, pick-up, steps, hit point, force"
abbrev pub numbers : List (List ℕ) → Numbers
numbers fs =
    record {
      kind = digits_value (field fs 0);
      columns = digits_value (field fs 1);
      rows = digits_value (field fs 2);
      q = digits_value (field fs 3);
      m = digits_value (field fs 4);
      s = digits_value (field fs 5);
      pick = digits_value (field fs 6);
      steps = digits_value (field fs 7);
      point = digits_value (field fs 8);
      force = signed_value (field fs 9);
    }

-- the ten numbers; none of "Other lines .. print `input`, decided before all else"
unfoldable pub line_request : List ℕ → Option Numbers
line_request line = cond (well_formed (fields line)) (Some (numbers (fields line))) None

-- "the first line of standard input, at most 255 bytes up to a line feed or the end"
abbrev pub first_line : List ℕ → List ℕ
first_line bytes = before line_feed bytes

-- what the first line of these bytes asks for
unfoldable pub request_of : List ℕ → Option Numbers
request_of bytes = cond (leb (length (first_line bytes)) 255) (line_request (first_line bytes)) None
