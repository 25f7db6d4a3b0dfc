-- Every sample lies within half a sample unit, and what a bound allows at one point, of the unrounded scheme.
use mathlib.Core.Path.{◌≡◌, refl, sym, ap, ◌∙◌, subst, subst₂}
use mathlib.Core.Bool.{Bool, true, false, cond}
use mathlib.Core.List.{List, [], ◌∷◌}
use Prim.Native.Nat.{ℕ, suc, ◌+◌, ◌*◌, ◌^◌, ◌≤◌, ◌<◌}
use native.Mathlib.Nat as N
use native.Mathlib.Omega.{arith}
use lib.IntN.{ℤ, pos, nat_abs, ◌+ℤ◌, ◌-ℤ◌, ◌*ℤ◌}
use lib.ListN.{length, replicate}
use Rattle.integers.proofs.Ring.{#◌, ◌⊕◌, ◌⊖◌, ◌⊗◌, ◌≈◌, ring}
use Rattle.integers.proofs.Order.{◌⩽◌, 0≤pos, pos≤, ≤pos, *ℤ_mono_l, ≡-≤ℤ, ≤ℤ-≡, ≤ℤ_trans, root_mono}
use Rattle.integers.proofs.Size.{size-add, size-mul, square-size}
use Rattle.types.specs.declared.Instrument.{Instrument}
use Rattle.types.specs.declared.Hit.{Hit}
use Rattle.types.specs.declared.Refusal.{Refusal}
use Rattle.scheme.specs.Lists.{point, square}
use Rattle.scheme.specs.Instruments.{points}
use Rattle.scheme.specs.Step.{sample_of, divisor}
use Rattle.scheme.specs.Refusals.{wrong_length, block_refusal}
use Rattle.scheme.specs.Calls.{accepted, AfterBlock, play, block, block_in_place}
use Rattle.scheme.specs.Book.{LastStep, step_of, Book, fresh, scale, goes_on, book_block, Call, block_call, in_place_call, pluck_call}
use Rattle.scheme.specs.Book.{pluck_with_call, leaves, State, start, called, calls}
use Rattle.scheme.specs.Program.{calls_of}
use Rattle.scheme.proofs.Laws.Rounding.{sample_rule}
use Rattle.scheme.proofs.Laws.Refusals.{accepted_is, block_passes}
use Rattle.scheme.proofs.Laws.Calls.{stands_behind, block-done, block_refused_lem}
use Rattle.scheme.proofs.Theorems.Distance.{steps_last, steps-count}
use Rattle.scheme.proofs.Theorems.Effects.{stepped, after_call, block_cut, each_call}
use Rattle.scheme.proofs.Theorems.Program.{each_made}
use Rattle.tighter.specs.Bounds.{demanded, numbers}
use Rattle.tighter.specs.Claims.{OfSteps, After, OfEveryList, difference, OfPoints, VoiceWithin}
use Rattle.tighter.specs.Samples.{OfSamples, EachSample, OfEverySample, OfProgramSamples, sample_error, beyond_half, SampleWithin}
use Rattle.tighter.specs.Samples.{SampleBound, VoiceSampleWithin, VoiceSamples, SampleBounds, ProgramSamples}
use Rattle.tighter.proofs.Points as P
use Rattle.std.specs.Prelude.{Option, Result}

-- ---- the read-out: half a sample unit

-- of a point z beside the unrounded value v
module _ (i : Instrument) (n : ℕ) (z v : ℤ) where
  abbrev p : ℕ
  p = divisor i.settings ^ n

  abbrev off : ℤ
  off = pos (2 ^ 28) *ℤ sample_of z -ℤ z

  -- the read-out's own part, and the point's
  parts : pos (2 ^ 28) *ℤ (pos p *ℤ sample_of z) -ℤ v ≡ pos p *ℤ off +ℤ (pos p *ℤ z -ℤ v)
  parts = ring 5 (λ u p x z v. u ⊗ (p ⊗ x) ⊖ v ≈ p ⊗ (u ⊗ x ⊖ z) ⊕ (p ⊗ z ⊖ v)) refl (pos (2 ^ 28)) (pos p) (sample_of z) z v

  half : nat_abs (pos p *ℤ off) ≤ 2 ^ 27 * p
  half = subst (λ (x : ℕ). x ≤ 2 ^ 27 * p) (sym (size-mul (pos p) off))
      (N.le_trans (N.mul-le-mul_left p (omega (arith, sample_rule.near z))) (N.le_of_eq (N.mul_comm p (2 ^ 27))))

  sample_near : sample_error i n (sample_of z) v ≤ 2 ^ 27 * p + nat_abs (pos p *ℤ z -ℤ v)
  sample_near = subst (λ (x : ℤ). nat_abs x ≤ 2 ^ 27 * p + nat_abs (pos p *ℤ z -ℤ v)) (sym parts)
      (omega (arith, size-add (pos p *ℤ off) (pos p *ℤ z -ℤ v), half))

beyond-square : (i : Instrument) (n : ℕ) (z v : ℤ)
    → square (pos (beyond_half i n (sample_of z) v)) ⩽ square (scale i.settings n *ℤ z -ℤ v)
beyond-square i n z v =
    let l : beyond_half i n (sample_of z) v ≤ nat_abs (scale i.settings n *ℤ z -ℤ v) = omega (arith, sample_near i n z v) in
    ≤ℤ-≡ (pos≤ (N.mul-le-mul l l)) (sym (square-size (scale i.settings n *ℤ z -ℤ v)))

-- ---- from what holds of the levels of every list to what holds of every sample

-- the claim about the levels, where the book's last step is known
at-step : (C : OfSteps) (i : Instrument) (newer unrounded : List ℤ) (n : ℕ) (last : LastStep) → (m : ℕ) × (n ≡ suc m) → last ≡ step_of i
    → After C newer n unrounded last → C i n newer unrounded
at-step C i newer unrounded n last (m, e) l a =
    subst (λ (n : ℕ). C i n newer unrounded) (sym e)
    (subst₂ (λ (n : ℕ) (last : LastStep). After C newer n unrounded last) e l a).1

module _ (C : OfSteps) (S : OfSamples)
    (each : (i : Instrument) (n : ℕ) (newer unrounded : List ℤ) (pick : ℕ) → pick < points i.grid → C i n newer unrounded
    → S i n pick (sample_of (point newer pick)) (point unrounded pick)) where
  abbrev AfterHere : State → Type 0
  AfterHere t = After C t.newer t.book.n t.book.newer t.book.last

  -- the claim holds of the levels whatever is called next
  abbrev Whatever : State → Type 0
  Whatever t = (ks : List Call) → AfterHere (calls ks t).state

  whatever_next : (k : Call) (t : State) → Whatever t → Whatever (after_call k t)
  unfolding calls
  whatever_next k t w ks = w (k ∷ ks)

  block_samples : (i : Instrument) (work samples : List ℤ) (pick : ℕ) (h : Option Hit) (t : State) → Whatever t
      → EachSample S t (block_call i work samples pick h) (called (block_call i work samples pick h) t).outcome
  unfolding calls leaves book_block
  block_samples i work samples pick h t w = go (accepted refused) refl
    where
      refused : Result Unit Refusal
      refused = block_refusal i t.older t.newer (wrong_length i.grid (length work)) pick h

      done : AfterBlock
      done = block i t.older t.newer work samples pick h

      go : (x : Bool) → accepted refused ≡ x → (j : ℕ) → j < done.answer.steps
          → let b : Book = book_block i h t.older t.newer (suc j) t.book in
          S i b.n pick (point done.samples j) (point b.newer pick)
      go false e j l =
          absurd (omega (arith, l, ap (λ (a : AfterBlock). a.answer.steps) (block_refused_lem i t.older t.newer work samples pick h e)))
      go true e j l =
          let z = accepted_is _ e in
          let d = block-done i t.older t.newer work samples pick h z in
          let l' : j < (play i pick h t.older t.newer samples).answer.steps =
          subst (λ (a : AfterBlock). j < a.answer.steps) d l in
          let now : State = stepped i h (suc j) t in
          let from : Book = cond (goes_on i t.book.last) t.book (fresh t.book.last t.older t.newer) in
          subst (λ (x : ℤ). S i now.book.n pick x (point now.book.newer pick))
          (sym (ap (λ (a : AfterBlock). point a.samples j) d ∙ (stands_behind i pick h t.older t.newer samples).sampled j l'))
          (each i now.book.n now.newer now.book.newer pick
          (block_passes i t.older t.newer (wrong_length i.grid (length work)) pick h z).pick_in
          (at-step C i now.newer now.book.newer now.book.n now.book.last (steps-count i h j from) (steps_last i h j from)
          (subst AfterHere (block_cut i work samples pick h t z j l') (w (block_call i work (replicate (suc j) (pos 0)) pick h ∷ [])))))

  -- on two levels: those of a block with a work level of zeros
  in_place_samples : (i : Instrument) (samples : List ℤ) (pick : ℕ) (h : Option Hit) (t : State) → Whatever t
      → EachSample S t (in_place_call i samples pick h) (called (in_place_call i samples pick h) t).outcome
  unfolding leaves block_in_place
  in_place_samples i samples pick h t w = block_samples i (replicate (points i.grid) (pos 0)) samples pick h t w

  call_samples : (k : Call) (t : State) → Whatever t → EachSample S t k (called k t).outcome
  call_samples (block_call i work samples pick h) t w = block_samples i work samples pick h t w
  call_samples (in_place_call i samples pick h) t w = in_place_samples i samples pick h t w
  call_samples (pluck_call g c a x) t w = tt
  call_samples (pluck_with_call g c a x lent) t w = tt

  every_sample : OfEveryList C → OfEverySample S
  every_sample all older newer ks = each_call Whatever (EachSample S) whatever_next call_samples ks (start older newer) (all older newer)

-- ---- the bounds

pub sample_bounds : SampleBounds OfEverySample
sample_bounds b = every_sample (OfPoints (numbers b)) (SampleWithin (numbers b)) within (P.point_bounds b)
  where
    within : (i : Instrument) (n : ℕ) (newer unrounded : List ℤ) (pick : ℕ) → pick < points i.grid
        → OfPoints (numbers b) i n newer unrounded → SampleWithin (numbers b) i n pick (sample_of (point newer pick)) (point unrounded pick)
    within i n newer unrounded pick l h c =
        ≤ℤ_trans (*ℤ_mono_l _ (0≤pos _) (beyond-square i n (point newer pick) (point unrounded pick))) (h c pick l)

pub sample_bound : SampleBound
sample_bound = sample_bounds demanded

-- ---- the voice

-- from 50·|x| ≤ 2²⁸·p, squared
fraction : (x : ℤ) (p : ℕ) → pos 2500 *ℤ square x ⩽ pos (2 ^ 56) *ℤ square (pos p) → 50 * nat_abs x ≤ 2 ^ 28 * p
fraction x p h = root_mono (50 * nat_abs x) (2 ^ 28 * p) (≤pos (
    ≡-≤ℤ (ring 1 (λ a. (# 50 ⊗ a) ⊗ (# 50 ⊗ a) ≈ # 2500 ⊗ (a ⊗ a)) refl (pos (nat_abs x)) ∙
    ap (λ (s : ℤ). pos 2500 *ℤ s) (sym (square-size x)))
    (≤ℤ-≡ h (ring 1 (λ b. # (2 ^ 56) ⊗ (b ⊗ b) ≈ (# (2 ^ 28) ⊗ b) ⊗ (# (2 ^ 28) ⊗ b)) refl (pos p)))))

pub voice_samples : VoiceSamples
voice_samples = every_sample VoiceWithin VoiceSampleWithin within P.voice_for_ever
  where
    within : (i : Instrument) (n : ℕ) (newer unrounded : List ℤ) (pick : ℕ) → pick < points i.grid → VoiceWithin i n newer unrounded
        → VoiceSampleWithin i n pick (sample_of (point newer pick)) (point unrounded pick)
    within i n newer unrounded pick l h e =
        omega (
          arith,
          sample_near i n (point newer pick) (point unrounded pick),
          fraction (difference i n newer unrounded pick) (divisor i.settings ^ n) (h e pick l),
        )

-- ---- of programs

carried : (S : OfSamples) → OfEverySample S → OfProgramSamples S
carried S all older newer ms kept = each_made (EachSample S) ms (start older newer) kept (all older newer (calls_of ms))

pub program_samples : ProgramSamples
program_samples = record {
  sample_bounds = λ b. carried (SampleWithin (numbers b)) (sample_bounds b);
  voice_samples = carried
      VoiceSampleWithin voice_samples;
}
