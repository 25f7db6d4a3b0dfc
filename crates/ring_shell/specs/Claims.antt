-- What is claimed of the definition, proved as `first_bytes_tell`. Vocabulary of proofs: no promise of a public function cites it.
use Rattle.std.specs.Prelude.{◌≡◌, List, ℕ, take}
use Rattle.ring_shell.specs.Answer.{answer}

-- the first 256 bytes of the input are enough
abbrev pub FirstBytesTell : Type 0
FirstBytesTell = (bytes : List ℕ) → answer (take 256 bytes) ≡ answer bytes
