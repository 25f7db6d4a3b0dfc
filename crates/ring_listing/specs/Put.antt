-- Text in a buffer. Vocabulary of private functions.
use Rattle.std.specs.Prelude.{◌≡◌, List, [], ◌∷◌, ◌++◌, ℕ, ◌+◌, ◌≤◌, ℤ, pos, negsuc, length, take, drop}
use Rattle.ring_listing.specs.declared.written.Text.{Text}

-- there is room for the bytes after what is written
abbrev pub Room : Text → List ℕ → Type 0
Room t bytes = t.length + length bytes ≤ length t.buffer.now

-- the bytes were written after what stood there, and no byte elsewhere; the buffer is the same that was lent
pub record Put (before : Text) (bytes : List ℕ) (after : Text) : Type 0 where
  pub ends : after.length ≡ before.length + length bytes
  pub holds : take after.length after.buffer.now ≡ take before.length before.buffer.now ++ bytes
  pub kept : drop after.length after.buffer.now ≡ drop after.length before.buffer.now
  pub same : after.buffer.ghost_name ≡ before.buffer.ghost_name
  pub long : length after.buffer.now ≡ length before.buffer.now

-- a minus before a negative number
abbrev pub sign : ℤ → List ℕ
sign (pos n) = []
sign (negsuc n) = 45 ∷ []
