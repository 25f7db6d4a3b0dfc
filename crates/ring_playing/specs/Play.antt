-- What `ring` plays: its rule as one definition, `played`.
use Rattle.std.specs.Prelude.{cond, List, ℕ, ℤ, pos, replicate, Option, Err}
use Rattle.types.specs.declared.Instrument.{Instrument}
use Rattle.types.specs.declared.Hit.{Hit}
use Rattle.types.specs.declared.BlockAnswer.{BlockAnswer}
use Rattle.types.specs.declared.Refusal.TheVariants.{WrongSize}
use Rattle.scheme.specs.Instruments.{points}
use Rattle.scheme.specs.Calls.{AfterBlock, block}
use Rattle.ring_line.specs.declared.asked.Numbers.{Numbers}
use Rattle.ring_setup.specs.Numbers.{grid_of, asked_instrument, asked_hit, is_too_large}

-- what is heard of a block: its answer, and the samples afterwards
pub record Heard : Type 0 where
  pub answer : BlockAnswer
  pub samples : List ℤ

abbrev pub heard : BlockAnswer → List ℤ → Heard
heard answer samples = record { answer = answer; samples = samples }

abbrev pub heard_of : AfterBlock → Heard
heard_of a = heard a.answer a.samples

-- "It starts at rest": over levels of zeros
abbrev pub block_at_rest : Instrument → (length : ℕ) → (samples : List ℤ) → (pick : ℕ) → Option Hit → AfterBlock
block_at_rest i length samples pick h =
    block i (replicate length (pos 0)) (replicate length (pos 0)) (replicate length (pos 0)) samples pick h

abbrev pub from_rest : Numbers → List ℤ → AfterBlock
from_rest n samples = block_at_rest (asked_instrument n) (points (grid_of n)) samples n.pick (asked_hit n)

-- "A known kind with more than 1024 points answers `done 0 2`."
unfoldable pub played : Numbers → List ℤ → Heard
played n samples =
    let block = heard_of (from_rest n samples) in
    cond (is_too_large (grid_of n)) (heard (record { steps = 0; inexact = 0; outcome = Err WrongSize }) samples) block
