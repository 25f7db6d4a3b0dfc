-- What the passes of a step of two levels leave.
use Rattle.std.proofs.Common.{Option}
use mathlib.Core.Path.{◌≡◌, refl, sym, ap, ◌∙◌, subst}
use mathlib.Core.Bool.{true, false, true≢false}
use mathlib.Core.List.{List}
use Prim.Native.Nat.{ℕ}
use native.Mathlib.Omega.{arith}
use lib.IntN.{ℤ}
use lib.ListN.{length}
use Rattle.types.specs.declared.Instrument.{Instrument}
use Rattle.types.specs.declared.Hit.{Hit}
use Rattle.plans.specs.declared.Plan.{Plan}
use Rattle.scheme.specs.Instruments.{points}
use Rattle.steps.specs.Run.{all_within}
use Rattle.steps.specs.Steps.{Steppable, Stepped, SteppedInPlace}
use Rattle.steps.specs.Pass.{Passable, Passed}

-- ---- a step of two levels: a pass that only tests, then one that writes

module _ {i : Instrument} {h : Option Hit} {older₀ newer room₀ older₁ room₁ : List ℤ} {x : Option ℕ}
    (p : Passed i h false true older₀ newer room₀ older₁ room₁ x) where
  -- a value lies beyond the ceiling: nothing was written
  pub tested_not : all_within x ≡ false → SteppedInPlace i h older₀ newer older₁ x
  tested_not e = record {
    stepped = record {
      within_is = p.stepped.within_is;
      next_is = λ w t. absurd (true≢false (sym t ∙ e));
      inexact_is = λ w t. absurd (true≢false (sym t ∙ e));
      long = p.stepped.long;
    };
    kept = λ t. p.passing.kept refl;
  }

  -- none does: the second pass writes them all
  pub tested_written : {room₂ older₂ : List ℤ} {y : Option ℕ} → all_within x ≡ true → Passed i h true true older₁ newer room₁ older₂ room₂ y
      → SteppedInPlace i h older₀ newer older₂ y
  tested_written {older₂ = older₂} {y} e q =
      let s : Stepped i h true older₀ newer older₂ y =
      subst (λ (xs : List ℤ). Stepped i h true xs newer older₂ y) (p.passing.kept refl) q.stepped in
      record {
        stepped = s;
        kept = λ t. absurd (true≢false (sym e ∙ p.stepped.within_is ∙ sym s.within_is ∙ t));
      }

-- ---- a step of small levels: a pass beside them, then a copy

pub small_given : {p : Plan} {h : Option Hit} {older newer room : List ℤ} → Steppable p h older newer older → room ≡ older
    → Passable p h false older newer room
small_given {p} {h} {older} {newer} s e = record {
  given = subst (Steppable p h older newer) (sym e) s;
  room = record { for_piece = λ t. absurd (true≢false (sym t)); for_all = λ t. omega (arith, ap length e, s.older_passes.long) };
}

module _ {i : Instrument} {h : Option Hit} {older₀ newer room₀ older₁ room₁ : List ℤ} {x : Option ℕ}
    (p : Passed i h true false older₀ newer room₀ older₁ room₁ x) where
  -- a value lies beyond the ceiling: nothing was copied
  pub small_not : length older₀ ≡ points i.grid → all_within x ≡ false → SteppedInPlace i h older₀ newer older₁ x
  small_not l e = record {
    stepped = record {
      within_is = p.stepped.within_is;
      next_is = λ w t. absurd (true≢false (sym t ∙ e));
      inexact_is = λ w t. absurd (true≢false (sym t ∙ e));
      long = p.passing.older_long ∙ l;
    };
    kept = λ t. p.passing.kept refl;
  }

  pub small_copied : {older₂ : List ℤ} → all_within x ≡ true → older₂ ≡ room₁ → SteppedInPlace i h older₀ newer older₂ x
  small_copied {older₂} e f = record {
    stepped = subst (λ (xs : List ℤ). Stepped i h true older₀ newer xs x) (sym f) p.stepped;
    kept = λ t. absurd (true≢false (sym e ∙ t));
  }
