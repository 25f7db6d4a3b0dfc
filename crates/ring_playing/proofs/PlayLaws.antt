-- What is played: sizes, unknown kinds, and the block at rest.
use mathlib.Core.Path.{◌≡◌, refl, sym, ap, ◌∙◌, subst⁻¹}
use mathlib.Core.Logic.{⊎_elim}
use mathlib.Core.Bool.{Bool, true, false, cond}
use mathlib.Core.List.{List, ◌∷◌}
use Prim.Native.Nat.{ℕ, zero, suc, ◌≤◌}
use native.Mathlib.Omega.{arith}
use borrow.Author.Tests.{ltb-false}
use lib.Dec.{ltb}
use lib.IntN.{ℤ, pos}
use lib.ListN.{length, take, replicate}
use Rattle.types.specs.declared.Instrument.{Instrument}
use Rattle.types.specs.declared.Hit.{Hit}
use Rattle.types.specs.declared.Refusal.{Refusal}
use Rattle.types.specs.declared.Refusal.TheVariants.{UnknownKind, WrongSize}
use Rattle.scheme.specs.Instruments.{within, points}
use Rattle.scheme.specs.Refusals.{last_kind, wrong_length, block_refusal}
use Rattle.scheme.specs.Calls.{AfterBlock, accepted, block, block_refused}
use Rattle.scheme.proofs.Laws.Bools.{and_yes}
use Rattle.scheme.proofs.Laws.Refusals.{accepted_is}
use Rattle.scheme.proofs.Laws.Calls.{block-done, block_refused_lem, stands_behind}
use Rattle.ring_line.specs.declared.asked.Numbers.{Numbers}
use Rattle.ring_setup.specs.declared.Setup.{Setup}
use Rattle.ring_setup.specs.Numbers.{grid_of, asked_instrument, asked_hit, is_too_large, level_length, setup_of}
use Rattle.ring_playing.specs.Play.{heard, heard_of, block_at_rest, from_rest, played}
use Rattle.std.specs.Prelude.{Option, Result, Ok, Err}

pub take-replicate : (k n : ℕ) (z : ℤ) → k ≤ n → take k (replicate n z) ≡ replicate k z
take-replicate zero n z h = refl
take-replicate (suc k) zero z h = absurd (omega arith)
take-replicate (suc k) (suc n) z h = ap (λ (l : List ℤ). z ∷ l) (take-replicate k n z (omega arith))

-- a block over the first points of levels at rest
pub over-rest : (i : Instrument) (k : ℕ) (samples : List ℤ) (pick : ℕ) (h : Option Hit) → k ≤ 1024 →
    let level = take k (replicate 1024 (pos 0)) in block i level level level samples pick h ≡ block_at_rest i k samples pick h
over-rest i k samples pick h low = simp (take-replicate k 1024 (pos 0) low)

-- an unknown kind is refused whatever else is asked or lent
module _ (i : Instrument) (unknown : within 1 last_kind i.grid.kind ≡ false)
    (older newer work samples : List ℤ) (pick : ℕ) (h : Option Hit) where
  first : block_refusal i older newer (wrong_length i.grid (length work)) pick h ≡ Err UnknownKind
  unfolding block_refusal
  first = simp unknown

  pub unknown_refused : block i older newer work samples pick h ≡ block_refused (Err UnknownKind) older newer work samples
  unknown_refused =
      block_refused_lem i older newer work samples pick h (ap accepted first)
      ∙ ap (λ (r : Result Unit Refusal). block_refused r older newer work samples) first

-- the levels are lent no more than 1024 points
pub length-low : (n : Numbers) → level_length (grid_of n) ≤ 1024
length-low n = go (ltb 1024 (points (grid_of n))) refl
  where
    go : (t : Bool) → ltb 1024 (points (grid_of n)) ≡ t → level_length (grid_of n) ≤ 1024
    go true e = simp e (omega arith)
    go false e = simp e (ltb-false _ _ e)

err_is : {A : Type 0} {r s : Refusal} → ◌≡◌ {A = Result A Refusal} (Err r) (Err s) → r ≡ s
err_is e = cc

ok_is : {E : Type 0} {k l : ℕ} → ◌≡◌ {A = Result ℕ E} (Ok k) (Ok l) → k ≡ l
ok_is e = cc

-- the block that the code plays
abbrev code : Setup → (length : ℕ) → List ℤ → (pick : ℕ) → AfterBlock
code s length samples pick = block_at_rest s.instrument length samples pick s.hit

module _ (n : Numbers) (samples : List ℤ) where
  abbrev played_so : ℕ → Type 0
  played_so length = heard_of (code (setup_of n) length samples n.pick) ≡ heard_of (from_rest n samples)

  same_heard : is_too_large (grid_of n) ≡ false → played_so (level_length (grid_of n))
  same_heard e = go (within 1 last_kind n.kind) refl
    where
      go : (b : Bool) → within 1 last_kind n.kind ≡ b → played_so (level_length (grid_of n))
      go true k = simp (sym (and_yes k) ∙ e)
      go false k =
          ap heard_of (unknown_refused (asked_instrument n) k _ _ _ samples _ _)
          ∙ sym (ap heard_of (unknown_refused (asked_instrument n) k _ _ _ samples _ _))

  pub refused : (s : Setup) (r : Refusal) → s ≡ setup_of n → s.length ≡ Err r →
      heard (record { steps = 0; inexact = 0; outcome = Err r }) samples ≡ played n samples
  unfolding played
  refused s r is e = go (is_too_large (grid_of n)) refl (sym e ∙ ap (λ (s : Setup). s.length) is)
    where
      go : (t : Bool) → is_too_large (grid_of n) ≡ t → Err r ≡ cond t (Err WrongSize) (Ok (level_length (grid_of n))) →
          heard (record { steps = 0; inexact = 0; outcome = Err r }) samples ≡ played n samples
      go true k e = simp (k, err_is e)
      go false k e = absurd (cc)

  pub plays : (s : Setup) (length : ℕ) → s ≡ setup_of n → s.length ≡ Ok length →
      heard_of (code s length samples n.pick) ≡ played n samples
  unfolding played
  plays s length is e =
      ap (λ (s : Setup). heard_of (code s length samples n.pick)) is
      ∙ go (is_too_large (grid_of n)) refl (sym e ∙ ap (λ (s : Setup). s.length) is)
    where
      go : (t : Bool) → is_too_large (grid_of n) ≡ t → Ok length ≡ cond t (Err WrongSize) (Ok (level_length (grid_of n))) →
          heard_of (code (setup_of n) length samples n.pick) ≡ played n samples
      go true k e = absurd (cc)
      go false k e =
          ap (λ (length : ℕ). heard_of (code (setup_of n) length samples n.pick)) (ok_is e) ∙ same_heard k ∙ simp k

-- ---- no more steps than places

module _ (n : Numbers) (samples : List ℤ) where
  abbrev level : List ℤ
  level = replicate (points (grid_of n)) (pos 0)

  abbrev refusal : Result Unit Refusal
  refusal = block_refusal (asked_instrument n) level level (wrong_length (grid_of n) (length level)) n.pick (asked_hit n)

  block-steps : (from_rest n samples).answer.steps ≤ length samples
  block-steps = go (accepted refusal) refl
    where
      go : (t : Bool) → accepted refusal ≡ t → (from_rest n samples).answer.steps ≤ length samples
      go true e =
          let b = stands_behind (asked_instrument n) n.pick (asked_hit n) level level samples in
          subst⁻¹ (λ (a : AfterBlock). a.answer.steps ≤ length samples)
          (block-done (asked_instrument n) level level level samples _ _ (accepted_is _ e))
          (⊎_elim (λ u. omega (arith, u.1)) (λ u. omega (arith, u.1)) b.ends)
      go false e =
          subst⁻¹ (λ (a : AfterBlock). a.answer.steps ≤ length samples)
          (block_refused_lem (asked_instrument n) level level level samples _ _ e)
          (omega arith)

  pub played-steps : (played n samples).answer.steps ≤ length samples
  unfolding played
  played-steps = go (is_too_large (grid_of n)) refl
    where
      go : (t : Bool) → is_too_large (grid_of n) ≡ t → (played n samples).answer.steps ≤ length samples
      go true e = simp e (omega arith)
      go false e = simp e block-steps
