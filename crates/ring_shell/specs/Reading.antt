-- What was read of a reader. Vocabulary of private functions.
use Rattle.std.specs.Prelude.{◌≡◌, List, ℕ, take}
use Rattle.ring_line.specs.Requests.{first_line}

-- the first line of what was read is that of what was there to read, as far as there is room
abbrev pub SameLine : (room : ℕ) (read there : List ℕ) → Type 0
SameLine room read there = first_line read ≡ first_line (take room there)
