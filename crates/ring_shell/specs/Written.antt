-- A text at the start of a buffer. Vocabulary of private functions.
use Rattle.std.specs.Prelude.{◌≡◌, List, ℕ, length}
use Rattle.ring_listing.specs.Text.{over}

-- the text was written up to `end`, and no byte after it
pub record Written (before text : List ℕ) (end : ℕ) (after : List ℕ) : Type 0 where
  pub ends : end ≡ length text
  pub holds : after ≡ over text before
