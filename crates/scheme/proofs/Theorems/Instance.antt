-- The unrounded step without a hit, as a scheme over the forms of its grid.
use mathlib.Core.Path.{◌≡◌, refl, sym, ap, ap₂, ◌∙◌}
use mathlib.Core.Bool.{Bool, true, false, cond}
use Prim.Native.Nat.{ℕ, ◌*◌}
use lib.IntN.{ℤ, pos, neg_ℤ, ◌+ℤ◌, ◌-ℤ◌, ◌*ℤ◌, *ℤ-zero, zero-*ℤ}
use Rattle.integers.proofs.Ring.{#◌, ⊝◌, ◌⊕◌, ◌⊖◌, ◌⊗◌, ◌≈◌, ring}
use Rattle.integers.proofs.Order.{0≤pos, ≤ℤ-≡}
use Rattle.integers.proofs.Lin.{◌⊴◌, ◌*⊴◌, ◌⇒◌, ⊩◌, lin}
use Rattle.integers.proofs.Sum.{sum_ext, sum-add, sum-scale}
use Rattle.forms.proofs.Level.{Level, zeros, Still}
use Rattle.forms.proofs.Energy.{Scheme}
use Rattle.types.specs.declared.Instrument.{Instrument}
use Rattle.types.specs.Numbers.{D}
use Rattle.scheme.specs.Instruments.{points, moving}
use Rattle.scheme.specs.Step.{laplacian, biharmonic, numerator, divisor}
use Rattle.scheme.specs.Energy.{weight, pair_sum, laplacian_sum}
use Rattle.scheme.specs.Passing.{InstrumentPasses}
use Rattle.scheme.proofs.Theorems.Forms.{weighed, weighed_form, weighed_nonneg, held, held_form, step_form, step_form_lem, energy_is}
use Rattle.scheme.proofs.Theorems.Forms.{laplacian_parts, stiffness_parts}
use Rattle.scheme.proofs.Theorems.Bounds.{some_columns, some_rows, soft_or_held, energy_nonneg}

module _ (i : Instrument) where
  -- D+s times the next level, not rounded
  unfoldable pub free_step : Level → Level → Level
  free_step a b k = cond (moving i.grid k) (numerator i a b zeros k) (pos 0)

  pub free_still : (a b : Level) → Still (moving i.grid) (free_step a b)
  unfolding free_step
  free_still a b = record { still = λ k e. simp e }

  -- against a still level the points that do not move count nothing
  cut : (a b c : Level) → Still (moving i.grid) c → weighed i.grid (free_step a b) c ≡ weighed i.grid (numerator i a b zeros) c
  unfolding free_step weighed
  cut a b c s = sum_ext (points i.grid) (λ k. ap (λ z. pos (weight i.grid k) *ℤ z)
      (go (moving i.grid k) (numerator i a b zeros k) (c k) (s.still k)))
    where
      go : (t : Bool) (n x : ℤ) → (t ≡ false → x ≡ pos 0) → cond t n (pos 0) *ℤ x ≡ n *ℤ x
      go true n x z = refl
      go false n x z = zero-*ℤ x ∙ sym (ap (λ y. n *ℤ y) (z refl) ∙ *ℤ-zero n)

  -- the numerator, term by term
  terms : (a b c : Level) → weighed i.grid (numerator i a b zeros) c ≡
      pos (2 * D) *ℤ weighed i.grid a c +ℤ (pos i.settings.q *ℤ weighed i.grid (laplacian i.grid a) c +ℤ
      (neg_ℤ (pos i.settings.m) *ℤ weighed i.grid (biharmonic i.grid a) c +ℤ neg_ℤ (pos D -ℤ pos i.settings.s)
      *ℤ weighed i.grid b c))
  unfolding weighed numerator
  terms a b c =
      sum_ext n (λ k. ring 9 (λ q m s w a b x l h. w ⊗ ((# (2 * D) ⊗ a ⊕ q ⊗ l ⊖ m ⊗ h ⊖ (# D ⊖ s) ⊗ b ⊕ # D ⊗ # 0) ⊗ x)
      ≈ # (2 * D) ⊗ (w ⊗ (a ⊗ x)) ⊕ (q ⊗ (w ⊗ (l ⊗ x)) ⊕ ((⊝ m) ⊗ (w ⊗ (h ⊗ x)) ⊕ (⊝ (# D ⊖ s)) ⊗ (w ⊗ (b ⊗ x))))) refl
      (pos i.settings.q) (pos i.settings.m) (pos i.settings.s) (pos (weight i.grid k)) (a k) (b k) (c k)
      (laplacian i.grid a k) (biharmonic i.grid a k)) ∙
      sum-add n _ _ ∙ ap₂ ◌+ℤ◌ (sum-scale n (pos (2 * D)) _) (sum-add n _ _ ∙ ap₂ ◌+ℤ◌ (sum-scale n (pos i.settings.q) _)
      (sum-add n _ _ ∙ ap₂ ◌+ℤ◌ (sum-scale n (neg_ℤ (pos i.settings.m)) _) (sum-scale n (neg_ℤ (pos D -ℤ pos i.settings.s)) _)))
    where
      n : ℕ
      n = points i.grid

  module _ (ok : InstrumentPasses i) where
    pub step_law : (a b c : Level) → Still (moving i.grid) c
        → weighed i.grid (free_step a b) c ≡ step_form i a c
        -ℤ (pos 2 *ℤ held i b c -ℤ (pos D +ℤ pos i.settings.s) *ℤ weighed i.grid b c)
    unfolding step_form
    step_law a b c s =
        let g = i.grid in
        cut a b c s ∙ terms a b c ∙
        ap₂ (λ x y. pos (2 * D) *ℤ weighed g a c +ℤ (pos i.settings.q *ℤ x
        +ℤ (y +ℤ neg_ℤ (pos D -ℤ pos i.settings.s) *ℤ weighed g b c)))
        (laplacian_parts g (some_columns i ok) (some_rows i ok) a c)
        (ring 2 (λ m z. (⊝ m) ⊗ z ≈ ⊝ (m ⊗ z)) refl (pos i.settings.m) (weighed g (biharmonic g a) c)
        ∙ ap neg_ℤ (stiffness_parts g (some_columns i ok) (some_rows i ok) i.settings.m (soft_or_held i ok) a c)) ∙
        ring 7 (λ q m s u v k z. # (2 * D) ⊗ u ⊕ (q ⊗ (⊝ # 2 ⊗ v) ⊕ (⊝ ((# 2 ⊗ m) ⊗ k) ⊕ (⊝ (# D ⊖ s)) ⊗ z))
        ≈ (# (2 * D) ⊗ u ⊖ (# 2 ⊗ q) ⊗ v ⊖ (# 2 ⊗ m) ⊗ k) ⊖ (# 2 ⊗ (# D ⊗ z) ⊖ (# D ⊕ s) ⊗ z)) refl
        (pos i.settings.q) (pos i.settings.m) (pos i.settings.s) (weighed g a c) (pair_sum g a c) (laplacian_sum g a c)
        (weighed g b c)

    abbrev pub scheme : Scheme
    scheme = record {
      moving = moving i.grid;
      G = weighed i.grid;
      U = held i;
      S = step_form i;
      d = pos (divisor i.settings);
      next = free_step;
      G_form = weighed_form i.grid;
      U_form = held_form i;
      S_form = step_form_lem i;
      inside = free_still;
      law = step_law;
      lossy = λ c. lin 3 (λ D s g. s *⊴ # 0 ⊴ g ⇒ ⊩ D ⊗ g ⊴ (D ⊕ s) ⊗ g) refl (pos D) (pos i.settings.s) (weighed i.grid c c)
          (0≤pos i.settings.s) (weighed_nonneg i.grid c);
      nonneg = λ a b. ≤ℤ-≡ (energy_nonneg i ok a b) (energy_is i a b);
    }
