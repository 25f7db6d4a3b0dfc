-- What is heard: every sample that a block writes, beside the unrounded scheme after as many steps.
-- Proofs: `sample_bound`, `voice_samples`, `sample_bounds`, `program_samples` in proofs/Samples.
use Rattle.std.specs.Prelude.{◌≡◌, List, ℕ, suc, ◌-◌, ◌*◌, ◌^◌, ◌≤◌, ◌<◌, ℤ, pos, nat_abs, ◌-ℤ◌, ◌*ℤ◌, ◌≤ℤ◌, Option}
use Rattle.types.specs.declared.Instrument.{Instrument}
use Rattle.types.specs.declared.Hit.{Hit}
use Rattle.scheme.specs.Lists.{point, square}
use Rattle.scheme.specs.Step.{divisor}
use Rattle.scheme.specs.Energy.{weight}
use Rattle.scheme.specs.Book.{scale, book_block, Call, block_call, in_place_call, pluck_call, pluck_with_call, Outcome, steps_of}
use Rattle.scheme.specs.Book.{samples_of, State}
use Rattle.scheme.specs.Book.{start, EachCall}
use Rattle.scheme.specs.Program.{Made, AllKept, EachMade}
use Rattle.tighter.specs.Bounds.{Bound, limit, Row, demanded, numbers}
use Rattle.tighter.specs.Claims.{voice}

-- ---- claims about samples

-- a claim about sample x of the n-th step of an instrument, v the book's newer at the pick-up
abbrev pub OfSamples : Type 1
OfSamples = Instrument → (n pick : ℕ) (x v : ℤ) → Type 0

-- each sample of a block's steps done, beside the book after as many of them
abbrev pub OfBlock : OfSamples → State → Instrument → ℕ → Option Hit → Outcome → Type 0
OfBlock P t i pick h o = (j : ℕ) → j < steps_of o →
    let b = book_block i h t.older t.newer (suc j) t.book in P i b.n pick (point (samples_of o) j) (point b.newer pick)

-- each sample that a call writes
abbrev pub EachSample : OfSamples → State → Call → Outcome → Type 0
EachSample P t (block_call i work samples pick h) o = OfBlock P t i pick h o
EachSample P t (in_place_call i samples pick h) o = OfBlock P t i pick h o
EachSample P t (pluck_call g c w a) o = Unit {0}
EachSample P t (pluck_with_call g c w a lent) o = Unit {0}

-- any two starting levels, any list of blocks and plucks, refused ones included
abbrev pub OfEverySample : OfSamples → Type 0
OfEverySample P = (older newer : List ℤ) (ks : List Call) → EachCall (EachSample P) ks (start older newer)

-- the same of the samples that a program was given
abbrev pub OfProgramSamples : OfSamples → Type 0
OfProgramSamples P = (older newer : List ℤ) (ms : List Made) → AllKept ms (start older newer) →
    EachMade (EachSample P) ms (start older newer)

-- ---- how far a sample lies from the unrounded scheme

-- (D+s)ⁿ × |2²⁸ × sample − the unrounded value|
abbrev pub sample_error : Instrument → (n : ℕ) (x v : ℤ) → ℕ
sample_error i n x v = nat_abs (pos (2 ^ 28) *ℤ (scale i.settings n *ℤ x) -ℤ v)

-- what of it goes beyond half a sample unit; 0 where nothing does
abbrev pub beyond_half : Instrument → (n : ℕ) (x v : ℤ) → ℕ
beyond_half i n x v = sample_error i n x v - 2 ^ 27 * divisor i.settings ^ n

-- within half a sample unit and what a bound allows at one point: there its square, at a free end twice that
abbrev pub SampleWithin : Bound → OfSamples
SampleWithin b i n pick x v = b.Covers i →
    (pos (b.k i n * weight i.grid pick) *ℤ square (pos (beyond_half i n x v))) ≤ℤ limit b i n

-- demand 3's: 16 × beyond_half² ≤ N × n² × (n+1)², at a free end twice that
abbrev pub SampleBound : Type 0
SampleBound = OfEverySample (SampleWithin (numbers demanded))

-- the paper's example voice: within 26/50 of a sample unit
abbrev pub VoiceSampleWithin : OfSamples
VoiceSampleWithin i n pick x v = i ≡ voice → 50 * sample_error i n x v ≤ 26 * (2 ^ 28 * divisor i.settings ^ n)

abbrev pub VoiceSamples : Type 0
VoiceSamples = OfEverySample VoiceSampleWithin

-- ---- by every bound, of lists and of programs

abbrev pub SampleBounds : (OfSamples → Type 0) → Type 0
SampleBounds Every = (b : Row) → Every (SampleWithin (numbers b))

pub record ProgramSamples : Type 0 where
  pub sample_bounds : SampleBounds OfProgramSamples
  pub voice_samples : OfProgramSamples VoiceSampleWithin
