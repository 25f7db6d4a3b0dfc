-- What a sample buffer and a work level held before a call plays no part in what the call answers, in the levels that it leaves and in the
-- samples of its steps done.
use mathlib.Core.Path.{◌≡◌, refl, sym, ap, ◌∙◌}
use mathlib.Core.Bool.{Bool, true, false}
use mathlib.Core.List.{List, [], ◌∷◌}
use Prim.Native.Nat.{ℕ}
use native.Mathlib.Omega.{arith}
use lib.IntN.{ℤ, pos}
use lib.ListN.{length, take, replicate, length-replicate}
use Rattle.types.specs.declared.Instrument.{Instrument}
use Rattle.types.specs.declared.Hit.{Hit}
use Rattle.types.specs.declared.Refusal.{Refusal}
use Rattle.scheme.specs.Lists.{point}
use Rattle.scheme.specs.Instruments.{points}
use Rattle.scheme.specs.Step.{next_level, inexact_in, some_beyond, sample_of}
use Rattle.scheme.specs.Refusals.{wrong_length, block_refusal}
use Rattle.scheme.specs.Calls.{accepted, AfterSteps, one_more, play, AfterBlock, reported, block_refused, block, AfterInPlace}
use Rattle.scheme.specs.Calls.{in_place_left, block_in_place}
use Rattle.scheme.specs.Book.{Call, block_call, in_place_call, pluck_call, pluck_with_call, Outcome, block_outcome, in_place_outcome, Left}
use Rattle.scheme.specs.Book.{leaves}
use Rattle.scheme.specs.Mirror.{blank, heard_left}
use Rattle.scheme.proofs.Laws.Refusals.{accepted_is}
use Rattle.scheme.proofs.Laws.Calls.{play-ends, play_goes, block-done, block_refused_lem}
use Rattle.std.specs.Prelude.{Option, None, Result}

-- what the steps of a block leave, with the samples of the steps done alone
abbrev done : AfterSteps → AfterSteps
done p = record { answer = p.answer; older = p.older; newer = p.newer; samples = take p.answer.steps p.samples }

play_content : (i : Instrument) (pick : ℕ) (h : Option Hit) (older newer xs ys : List ℤ) → length xs ≡ length ys
    → done (play i pick h older newer xs) ≡ done (play i pick h older newer ys)
unfolding play
play_content i pick h older newer [] [] e = refl
play_content i pick h older newer [] (y ∷ ys) e = absurd (omega (arith, e))
play_content i pick h older newer (x ∷ xs) [] e = absurd (omega (arith, e))
play_content i pick h older newer (x ∷ xs) (y ∷ ys) e = go (some_beyond next) refl
    (play_content i pick None newer next xs ys (omega (arith, e)))
  where
    next : List ℤ
    next = next_level i h older newer

    more : AfterSteps → AfterSteps
    more p = one_more (sample_of (point next pick)) (inexact_in i h older newer) p

    go : (t : Bool) → some_beyond next ≡ t → done (play i pick None newer next xs) ≡ done (play i pick None newer next ys)
        → done (play i pick h older newer (x ∷ xs)) ≡ done (play i pick h older newer (y ∷ ys))
    go true q on = ap (λ (p : AfterSteps). done p) (play-ends i pick h older newer x xs q) ∙
        sym (ap (λ (p : AfterSteps). done p) (play-ends i pick h older newer y ys q))
    go false q on = ap (λ (p : AfterSteps). done p) (play_goes i pick h older newer x xs q) ∙ ap more on ∙
        sym (ap (λ (p : AfterSteps). done p) (play_goes i pick h older newer y ys q))

-- an outcome and two levels
abbrev left : Outcome → (older newer : List ℤ) → Left
left o older newer = record { outcome = o; older = older; newer = newer }

-- what a block leaves, with the samples of the steps done alone and without work
abbrev done_block : AfterBlock → AfterInPlace
done_block a = in_place_left a.answer a.older a.newer (take a.answer.steps a.samples)

-- with any work level and any sample buffer of the same lengths
block_content : (i : Instrument) (older newer work samples : List ℤ) (pick : ℕ) (h : Option Hit) (work' samples' : List ℤ)
    → length work' ≡ length work → length samples' ≡ length samples
    → done_block (block i older newer work' samples' pick h) ≡ done_block (block i older newer work samples pick h)
block_content i older newer work samples pick h work' samples' w s = go (accepted refusal) refl
  where
    refusal : Result Unit Refusal
    refusal = block_refusal i older newer (wrong_length i.grid (length work)) pick h

    same : block_refusal i older newer (wrong_length i.grid (length work')) pick h ≡ refusal
    same = ap (λ (n : ℕ). block_refusal i older newer (wrong_length i.grid n) pick h) w

    go : (t : Bool) → accepted refusal ≡ t
        → done_block (block i older newer work' samples' pick h) ≡ done_block (block i older newer work samples pick h)
    go true e =
        let z = accepted_is refusal e in
        ap (λ (a : AfterBlock). done_block a) (block-done i older newer work' samples' pick h (same ∙ z)) ∙
        ap (λ (p : AfterSteps). in_place_left (reported p.answer) p.older p.newer p.samples)
        (play_content i pick h older newer samples' samples s) ∙
        sym (ap (λ (a : AfterBlock). done_block a) (block-done i older newer work samples pick h z))
    go false e =
        ap (λ (a : AfterBlock). done_block a)
        (block_refused_lem i older newer work' samples' pick h (ap (λ (r : Result Unit Refusal). accepted r) same ∙ e)) ∙
        ap (λ (r : Result Unit Refusal). done_block (block_refused r older newer work samples)) same ∙
        sym (ap (λ (a : AfterBlock). done_block a) (block_refused_lem i older newer work samples pick h e))

pub content_left : (k : Call) (older newer : List ℤ) → heard_left (leaves (blank k) older newer) ≡ heard_left (leaves k older newer)
unfolding leaves block_in_place
content_left (block_call i work samples pick h) older newer =
    ap (λ (a : AfterInPlace). left (block_outcome a.answer [] a.samples) a.older a.newer)
    (block_content i older newer work samples pick h _ _ (length-replicate (length work) _) (length-replicate (length samples) _))
content_left (in_place_call i samples pick h) older newer =
    let work = replicate (points i.grid) (pos 0) in
    ap (λ (a : AfterInPlace). left (in_place_outcome a.answer a.samples) a.older a.newer)
    (block_content i older newer work samples pick h work _ refl (length-replicate (length samples) _))
content_left (pluck_call g c w a) older newer = refl
content_left (pluck_with_call g c w a lent) older newer = refl
