-- What holds the levels of an instrument: the propositions `HeldByTension` and `HeldByStiffness`; and an instrument that passes, as a
-- lossy scheme.
use mathlib.Core.Path.{◌≡◌, refl, ap, ap₂, ◌∙◌}
use Prim.Native.Nat.{ℕ, ◌*◌, ◌≤◌, ◌<◌}
use native.Mathlib.Nat as N
use native.Mathlib.Omega.{arith}
use lib.IntN.{pos, ◌+ℤ◌, ◌*ℤ◌}
use Rattle.integers.proofs.Ring.{#◌, ◌⊕◌, ◌⊖◌, ◌⊗◌, ◌≈◌, ring}
use Rattle.integers.proofs.Order.{◌⩽◌, 0≤pos, 0<pos, pos≤, pos<, nonneg_add, *ℤ_mono_r, ≡-≤ℤ, ≤ℤ-≡, ≤ℤ_trans}
use Rattle.integers.proofs.Sum.{sum_ext}
use Rattle.forms.proofs.Level.{Level, zeros, Still}
use Rattle.types.specs.declared.Grid.{Grid}
use Rattle.types.specs.declared.Instrument.{Instrument}
use Rattle.types.specs.Numbers.{D}
use Rattle.scheme.specs.Lists.{point}
use Rattle.scheme.specs.Instruments.{points, moving}
use Rattle.scheme.specs.Energy.{weight, squares, energy}
use Rattle.scheme.proofs.Laws.Refusals.{coefficients_small}
use Rattle.scheme.specs.Passing.{InstrumentPasses}
use Rattle.scheme.proofs.Laws.Refusals.{instrument_passes, passes_still}
use Rattle.scheme.proofs.Theorems.Forms.{weighed, weighed_form, weighed_nonneg, step_form, step_form_lem, energy_is}
use Rattle.scheme.proofs.Theorems.Bounds.{energy_nonneg}
use Rattle.scheme.proofs.Theorems.Instance.{free_step, free_still, step_law}
use Rattle.tighter.specs.Bounds.{edge, grip, reach, Holding, by_tension, by_stiffness}
use Rattle.tighter.specs.Claims.{LevelsHeld, HeldByTension, HeldByStiffness}
use Rattle.tighter.proofs.Edge.{reach-positive}
use Rattle.tighter.proofs.Coercive.{by_tension_lem, by_stiffness_lem}
use Rattle.tighter.proofs.Loss.{Lossy, Held}

pub record Holds (H : Holding) : Type 0 where
  pub far_positive : (i : Instrument) → 0 < H.far i
  pub by_energy : (i : Instrument) → InstrumentPasses i → (a b : Level) → Still (moving i.grid) a → Still (moving i.grid) b
      → pos (H.hold i) *ℤ (weighed i.grid a a +ℤ weighed i.grid b b) ⩽ pos (H.far i) *ℤ energy i a b

-- a smaller hold, a larger far
weaker : (i : Instrument) → InstrumentPasses i → (a b : Level) {h h' f f' : ℕ} → h ≤ h' → f' ≤ f
    → pos h' *ℤ (weighed i.grid a a +ℤ weighed i.grid b b) ⩽ pos f' *ℤ energy i a b
    → pos h *ℤ (weighed i.grid a a +ℤ weighed i.grid b b) ⩽ pos f *ℤ energy i a b
weaker i ok a b hh hf held =
    ≤ℤ_trans (*ℤ_mono_r _ (nonneg_add (weighed_nonneg i.grid a) (weighed_nonneg i.grid b)) (pos≤ hh))
    (≤ℤ_trans held (*ℤ_mono_r (energy i a b) (energy_nonneg i ok a b) (pos≤ hf)))

pub tension_holds : Holds by_tension
tension_holds = record {
  far_positive = λ i. omega (arith, reach-positive (edge i.grid));
  by_energy = λ i ok a b sa sb.
      weaker i ok a b {h' = grip (edge i.grid) * i.settings.q} {f' = reach (edge i.grid)} (omega arith) (omega arith)
      (by_tension_lem i ok a b sa sb);
}

pub stiffness_holds : Holds by_stiffness
stiffness_holds = record {
  far_positive = λ i. let c = reach-positive (edge i.grid) in omega (arith, N.mul-pos c c);
  by_energy = λ i ok a b sa sb. let y : ℕ = grip (edge i.grid) in let r : ℕ = reach (edge i.grid) in
      weaker i ok a b {h' = y * y * (2 * i.settings.m)} {f' = r * r} (omega arith) (omega arith) (by_stiffness_lem i ok a b sa sb);
}

-- ---- the propositions

squares_alone : (g : Grid) (a : Level) → squares g a zeros ≡ weighed g a a
unfolding squares weighed
squares_alone g a = sum_ext (points g) (λ k. ring 2 (λ w a. w ⊗ ((a ⊖ # 0) ⊗ (a ⊖ # 0)) ≈ w ⊗ (a ⊗ a)) refl (pos (weight g k)) (a k))

levels_held : (H : Holding) → Holds H → LevelsHeld H
levels_held H holds i older newer p =
    ≡-≤ℤ (ap₂ (λ x y. pos (H.hold i) *ℤ (x +ℤ y)) (squares_alone i.grid (point newer)) (squares_alone i.grid (point older)))
    (holds.by_energy i (instrument_passes i p.instrument) (point newer) (point older)
    (passes_still i.grid newer p.newer_passes) (passes_still i.grid older p.older_passes))

pub held_by_tension : HeldByTension
held_by_tension = levels_held by_tension tension_holds

pub held_by_stiffness : HeldByStiffness
held_by_stiffness = levels_held by_stiffness stiffness_holds

-- ---- an instrument that passes

module _ (i : Instrument) (ok : InstrumentPasses i) where
  abbrev pub lossy : Lossy
  lossy = record {
    moving = moving i.grid;
    G = weighed i.grid;
    S = step_form i;
    next = free_step i;
    D = pos D;
    s = pos i.settings.s;
    G_form = weighed_form i.grid;
    S_form = step_form_lem i;
    inside = free_still i;
    law = λ a b c sc. step_law i ok a b c sc ∙
        ring 4 (λ t D s g. t ⊖ (# 2 ⊗ (D ⊗ g) ⊖ (D ⊕ s) ⊗ g) ≈ t ⊖ (D ⊖ s) ⊗ g) refl
        (step_form i a c) (pos D) (pos i.settings.s) (weighed i.grid b c);
    D_positive = 0<pos 65535;
    s_nonneg = 0≤pos i.settings.s;
    s_low = pos≤ (coefficients_small i.settings ok.coefficients).2;
    G_nonneg = weighed_nonneg i.grid;
    nonneg = λ a b. ≤ℤ-≡ (energy_nonneg i ok a b) (energy_is i a b);
  }

  abbrev pub held : (H : Holding) → Holds H → Held lossy
  held H holds = record {
    hold = pos (H.hold i);
    far = pos (H.far i);
    hold_nonneg = 0≤pos (H.hold i);
    far_positive = pos< (holds.far_positive i);
    held = λ a b sa sb. ≤ℤ-≡ (holds.by_energy i ok a b sa sb) (ap (λ z. pos (H.far i) *ℤ z) (energy_is i a b));
  }
