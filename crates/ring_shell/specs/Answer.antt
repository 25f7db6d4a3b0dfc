-- What `ring` prints for the bytes of its standard input: `answer`.
use Rattle.std.specs.Prelude.{cond, Option, Some, None, List, [], ℕ, leb, pos, length, replicate}
use Rattle.types.specs.Numbers.{number_of}
use Rattle.ring_line.specs.declared.asked.Numbers.{Numbers}
use Rattle.ring_line.specs.Lists.{text}
use Rattle.ring_line.specs.Requests.{request_of}
use Rattle.ring_playing.specs.Play.{Heard, played}
use Rattle.ring_listing.specs.Text.{listing, room}

-- what is printed of what is heard: the lines of the steps done, and the last line
abbrev pub played_text : Heard → List ℕ
played_text h = listing h.answer.steps h.samples (number_of h.answer.outcome)

-- as many steps as the line asks for
unfoldable pub run_text : Numbers → List ℕ
run_text n = played_text (played n (replicate n.steps (pos 0)))

-- what is printed for each: "Other lines .. print `input`"
abbrev pub text_for : Option Numbers → List ℕ
text_for None = text "input\n"
text_for (Some n) = run_text n

unfoldable pub answer : List ℕ → List ℕ
answer bytes = text_for (request_of bytes)

-- ---- in a buffer

-- what is written to a buffer: the answer, or nothing where the buffer has no room
unfoldable pub written_to : (buffer bytes : List ℕ) → List ℕ
written_to buffer bytes = cond (leb room (length buffer)) (answer bytes) []
