-- The listing of a run: numbers and lines as bytes.
use Rattle.std.specs.Prelude.{Bool, ◌&&◌, cond, List, [], ◌∷◌, ◌++◌, ℕ, zero, suc, ◌+◌, ◌/◌, ◌%◌, ltb, leb, ℤ, pos, negsuc, length, drop}
use Rattle.scheme.specs.Lists.{point}
use Rattle.ring_line.specs.Lists.{text}

-- ---- numbers

-- the byte of a digit
abbrev pub digit : ℕ → ℕ
digit d = 48 + d

-- the digits of n, of which at most k stand before the last
unfoldable pub digits_in : ℕ → ℕ → List ℕ
digits_in zero n = digit (n % 10) ∷ []
digits_in (suc k) n =
    let more = digits_in k (n / 10) ++ (digit (n % 10) ∷ []) in
    cond (ltb n 10) (digit (n % 10) ∷ []) more

-- n in decimal: no more than n digits stand before the last
unfoldable pub decimal : ℕ → List ℕ
decimal n = digits_in n n

unfoldable pub signed_decimal : ℤ → List ℕ
signed_decimal (pos n) = decimal n
signed_decimal (negsuc n) = text "-" ++ decimal (suc n)

-- ---- lines

-- two numbers, a single space between
unfoldable pub pair_line : ℕ → ℤ → List ℕ
pair_line number value = decimal number ++ (text " " ++ (signed_decimal value ++ text "\n"))

-- the lines of the first i samples: "the step's number from 1 and its sample"
unfoldable pub step_lines : ℕ → List ℤ → List ℕ
step_lines zero samples = []
step_lines (suc i) samples = step_lines i samples ++ pair_line (suc i) (point samples i)

-- "then `done`, the count and the refusal number"
unfoldable pub done_line : ℕ → ℕ → List ℕ
done_line count refusal = text "done " ++ pair_line count (pos refusal)

-- "prints the step's number from 1 and its sample for each step done, then `done`, the count and the refusal number (0 for none)"
abbrev pub listing : (count : ℕ) → List ℤ → (refusal : ℕ) → List ℕ
listing count samples refusal = step_lines count samples ++ done_line count refusal

-- ---- in a buffer

-- room for every listing: 8192 lines of at most 12 bytes, and a last line
abbrev pub room : ℕ
room = 98320

-- a buffer with a text written at its start: the bytes after the text stay as they were
abbrev pub over : (written buffer : List ℕ) → List ℕ
over written buffer = written ++ drop (length written) buffer

-- there is room, and no number is larger than it is made for
abbrev pub is_listed : (places samples count refusal : ℕ) → Bool
is_listed places samples count refusal = leb room places && (leb count 8192 && (leb count samples && ltb refusal 100))

-- what is written to a buffer: the listing, or nothing
unfoldable pub listed_to : (buffer : List ℕ) (count : ℕ) (samples : List ℤ) (refusal : ℕ) → List ℕ
listed_to buffer count samples refusal = cond (is_listed (length buffer) (length samples) count refusal) (listing count samples refusal) []
