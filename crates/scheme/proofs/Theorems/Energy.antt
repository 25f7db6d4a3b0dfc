-- Demand 3, energy: never negative, never raised by a step without a hit,
-- kept where there is no loss. Of every book that the unrounded scheme reaches.
use mathlib.Core.Path.{◌≡◌, refl, sym, ap, ap₂, ◌∙◌, fun_ext}
use mathlib.Core.Bool.{false, cond}
use mathlib.Core.List.{List, [], ◌∷◌}
use Prim.Native.Nat.{ℕ}
use lib.IntN.{ℤ, pos, ◌*ℤ◌, *ℤ-zero}
use Rattle.integers.proofs.Ring.{#◌, ⊝◌, ◌⊕◌, ◌⊗◌, ◌≈◌}
use Rattle.integers.proofs.Order.{◌⩽◌, ≡-≤ℤ, ≤ℤ-≡}
use Rattle.integers.proofs.Lin.{◌*≈◌, ◌⇒◌, ⊩≈◌, lin}
use Rattle.forms.proofs.Level.{Level, ◌⊡◌, Still, still-scale}
use Rattle.forms.proofs.Energy as Forms
use Rattle.types.specs.declared.Grid.{Grid}
use Rattle.types.specs.declared.Instrument.{Instrument}
use Rattle.types.specs.declared.Hit.{Hit}
use Rattle.types.specs.Numbers.{D}
use Rattle.scheme.specs.Lists.{point, square}
use Rattle.scheme.specs.Instruments.{moving}
use Rattle.scheme.specs.Step.{numerator, divisor}
use Rattle.scheme.specs.Energy.{energy}
use Rattle.scheme.specs.Book.{no_step, Book, fresh, scale, unrounded_at, unrounded_step}
use Rattle.scheme.specs.Claims.{Passes, unrounded_run, book_energy, EnergyNeverNegative, EnergyNeverRaised, EnergyKept}
use Rattle.scheme.proofs.Laws.Lists.{point_scaled}
use Rattle.scheme.proofs.Laws.Step.{tabulated}
use Rattle.scheme.specs.Passing.{InstrumentPasses}
use Rattle.scheme.proofs.Laws.Refusals.{instrument_passes, passes_still}
use Rattle.scheme.proofs.Theorems.Forms.{weighed, held, energy_is}
use Rattle.scheme.proofs.Theorems.Bounds.{energy_nonneg}
use Rattle.scheme.proofs.Theorems.Instance.{free_step, scheme}
use Rattle.std.specs.Prelude.{Option, None}

-- ---- the book's step, as functions of the points

module _ (i : Instrument) (h : Option Hit) (b : Book) where
  pub unrounded_still : (k : ℕ) → moving i.grid k ≡ false → unrounded_at i h b k ≡ pos 0
  unfolding unrounded_at
  unrounded_still k e = simp e

  pub unrounded_newer : (k : ℕ) → point (unrounded_step i h b).newer k ≡ unrounded_at i h b k
  unfolding unrounded_step
  unrounded_newer = tabulated i.grid (unrounded_at i h b) unrounded_still

  pub unrounded_older : (k : ℕ) → point (unrounded_step i h b).older k ≡ pos (divisor i.settings) *ℤ point b.newer k
  unfolding unrounded_step
  unrounded_older k = point_scaled (pos (divisor i.settings)) b.newer k

-- without a hit it is the free step
pub unrounded_free : (i : Instrument) (b : Book) → point (unrounded_step i None b).newer
    ≡ free_step i (point b.newer) (point b.older)
unfolding unrounded_at free_step
unrounded_free i b = fun_ext (λ k. unrounded_newer i None b k ∙
    ap (λ (f : Level). cond (moving i.grid k) (numerator i (point b.newer) (point b.older) f k) (pos 0))
    (fun_ext (λ j. *ℤ-zero (scale i.settings b.n))))

-- ---- every reached book is still

pub record StillBook (g : Grid) (b : Book) : Type 0 where
  pub newer_still : Still (moving g) (point b.newer)
  pub older_still : Still (moving g) (point b.older)

start-still : (i : Instrument) (older newer : List ℤ) → Passes i older newer → StillBook i.grid (fresh no_step older newer)
start-still i older newer p = record {
  newer_still = passes_still i.grid newer p.newer_passes;
  older_still = passes_still i.grid older p.older_passes;
}

step-still : (i : Instrument) (h : Option Hit) (b : Book) → StillBook i.grid b → StillBook i.grid (unrounded_step i h b)
step-still i h b v = record {
  newer_still = record { still = λ k e. unrounded_newer i h b k ∙ unrounded_still i h b k e };
  older_still = record { still = λ k e. unrounded_older i h b k ∙ (still-scale (pos (divisor i.settings)) v.newer_still).still k e };
}

run-still : (i : Instrument) (hs : List (Option Hit)) (b : Book) → StillBook i.grid b → StillBook i.grid (unrounded_run i hs b)
unfolding unrounded_run
run-still i [] b v = v
run-still i (h ∷ hs) b v = run-still i hs (unrounded_step i h b) (step-still i h b v)

-- ---- the claims

module _ (i : Instrument) (ok : InstrumentPasses i) (b : Book) (v : StillBook i.grid b) where
  abbrev d : ℤ
  d = pos (divisor i.settings)

  -- the energy after a step without a hit, and before, by the forms
  after : book_energy i (unrounded_step i None b)
      ≡ Forms.E (scheme i ok) (free_step i (point b.newer) (point b.older)) (d ⊡ point b.newer)
  after = ap₂ (energy i) (unrounded_free i b) (fun_ext (unrounded_older i None b)) ∙ energy_is i _ _

  before : d *ℤ d *ℤ Forms.E (scheme i ok) (point b.newer) (point b.older) ≡ square d *ℤ book_energy i b
  before = ap (λ z. d *ℤ d *ℤ z) (sym (energy_is i (point b.newer) (point b.older)))

  not_raised : book_energy i (unrounded_step i None b) ⩽ square d *ℤ book_energy i b
  not_raised = ≡-≤ℤ after (≤ℤ-≡ (Forms.never_raised (scheme i ok) (point b.newer) (point b.older) v.older_still) before)

  same : i.settings.s ≡ 0 → book_energy i (unrounded_step i None b) ≡ square d *ℤ book_energy i b
  same e = after ∙ Forms.kept (scheme i ok) lossless (point b.newer) (point b.older) v.older_still ∙ before
    where
      lossless : (c : Level) → held i c c ≡ d *ℤ weighed i.grid c c
      lossless c = lin 3 (λ D s g. (⊝ g) *≈ s ≈ # 0 ⇒ ⊩≈ D ⊗ g ≈ (D ⊕ s) ⊗ g) refl (pos D) (pos i.settings.s) (weighed i.grid c c)
          (ap pos e)

pub energy_never_negative : EnergyNeverNegative
energy_never_negative i older newer hs p q = energy_nonneg i (instrument_passes i p.instrument) _ _

pub energy_never_raised : EnergyNeverRaised
energy_never_raised i older newer hs p q = not_raised i (instrument_passes i p.instrument) _
    (run-still i hs (fresh no_step older newer) (start-still i older newer p))

pub energy-kept : EnergyKept
energy-kept i older newer hs p q = same i (instrument_passes i p.instrument) _
    (run-still i hs (fresh no_step older newer) (start-still i older newer p))
