-- The forms of a grid: G(a,b) = Σ w·a·b, the pairs and the Laplacians, S of the step; and what L is under them, line and grid at once.
use mathlib.Core.Path.{◌≡◌, refl, sym, ap, ◌∙◌}
use mathlib.Core.Bool.{Bool, true, false, cond}
use mathlib.Core.Logic.{◌⊎◌, inl, inr}
use Prim.Native.Nat.{ℕ, ◌*◌, ◌<◌}
use lib.IntN.{ℤ, pos, negsuc, neg_ℤ, ◌+ℤ◌, ◌-ℤ◌, ◌*ℤ◌, *ℤ_comm, *ℤ-zero, zero-*ℤ}
use Rattle.integers.specs.Sum.{sum}
use Rattle.integers.proofs.Ring.{#◌, con, ◌⊕◌, ◌⊖◌, ◌⊗◌, ◌≈◌, ring}
use Rattle.integers.proofs.Order.{◌⩽◌, 0≤pos, square_nonneg, nonneg_mul}
use Rattle.integers.proofs.Sum.{sum_ext, sum-scale, sum_nonneg, over_nonneg}
use Rattle.forms.proofs.Level.{Level, ◌⊞◌, ◌⊡◌, linear_at, linear_minus}
use Rattle.forms.proofs.Form.{Form, product, times, minus, form_sum, form_over, square-difference}
use Rattle.forms.proofs.Energy as Energy
use Rattle.types.specs.declared.Grid.{Grid}
use Rattle.types.specs.declared.Instrument.{Instrument}
use Rattle.types.specs.Numbers.{D}
use Rattle.scheme.specs.Instruments.{points, moving}
use Rattle.scheme.specs.Step.{laplacian, inner_laplacian, biharmonic}
use Rattle.scheme.specs.Energy.{weight, later, pair_sum, squares, laplacian_sum, energy}
use Rattle.scheme.proofs.Laws.Step.{inner_linear}
use Rattle.scheme.proofs.Theorems.Balance.{by_parts}

module _ (g : Grid) where
  abbrev w : ℕ → ℤ
  w k = pos (weight g k)

  -- ---- the forms

  unfoldable pub weighed : Level → Level → ℤ
  weighed a b = sum (points g) (λ k. w k *ℤ (a k *ℤ b k))

  pub weighed_form : Form weighed
  unfolding weighed
  weighed_form = form_sum (points g) (λ k. times (w k) (product (linear_at k)))

  pub pair_form : Form (pair_sum g)
  unfolding pair_sum
  pair_form = form_sum (points g) (λ k. form_over (later g k) (λ j. product (linear_minus (linear_at j) (linear_at k))))

  pub laplacian_form : Form (laplacian_sum g)
  unfolding laplacian_sum
  laplacian_form = form_sum (points g) (λ k. product (inner_linear g k))

  pub weighed_nonneg : (a : Level) → pos 0 ⩽ weighed a a
  unfolding weighed
  weighed_nonneg a = sum_nonneg (points g) (λ k l. nonneg_mul (0≤pos (weight g k)) (square_nonneg (a k)))

  pub pair_nonneg : (a : Level) → pos 0 ⩽ pair_sum g a a
  unfolding pair_sum
  pair_nonneg a = sum_nonneg (points g) (λ k l. over_nonneg (later g k) (λ j. square_nonneg (a j -ℤ a k)))

  pub laplacian_nonneg : (a : Level) → pos 0 ⩽ laplacian_sum g a a
  unfolding laplacian_sum
  laplacian_nonneg a = sum_nonneg (points g) (λ k l. square_nonneg (inner_laplacian g a k))

  -- the paper's doubled first sum
  pub squares_are : (a b : Level) → let c : Level = a ⊞ (negsuc 0 ⊡ b) in squares g a b ≡ weighed c c
  unfolding squares weighed
  squares_are a b = sum_ext (points g) (λ k. ring 3
      (λ w a b. w ⊗ ((a ⊖ b) ⊗ (a ⊖ b)) ≈ w ⊗ ((a ⊕ con (negsuc 0) ⊗ b) ⊗ (a ⊕ con (negsuc 0) ⊗ b))) refl (w k) (a k) (b k))

  -- ---- L under the forms

  module _ (hc : 0 < g.columns) (hr : 0 < g.rows) where
    pub laplacian_parts : (a b : Level) → weighed (laplacian g a) b ≡ neg_ℤ (pos 2) *ℤ pair_sum g a b
    unfolding weighed
    laplacian_parts a b = by_parts g hc hr a b

    -- L taken twice: by parts, the pairs turned about, and by parts back
    pub biharmonic_parts : (a b : Level) → weighed (biharmonic g a) b
        ≡ sum (points g) (λ k. w k *ℤ (inner_laplacian g a k *ℤ inner_laplacian g b k))
    unfolding weighed inner_laplacian
    biharmonic_parts a b =
        by_parts g hc hr (inner_laplacian g a) b ∙
        ap (λ z. neg_ℤ (pos 2) *ℤ z) (pair_form.symm (inner_laplacian g a) b) ∙
        sym (by_parts g hc hr b (inner_laplacian g a)) ∙
        sum_ext (points g) (λ k. ap (λ z. w k *ℤ z) (inner (moving g k) (laplacian g b k) (laplacian g a k)))
      where
        inner : (t : Bool) (y x : ℤ) → y *ℤ cond t x (pos 0) ≡ cond t x (pos 0) *ℤ cond t y (pos 0)
        inner true y x = *ℤ_comm y x
        inner false y x = *ℤ-zero y

    -- only where every weight is 2 is there stiffness
    pub stiffness_parts : (m : ℕ) → (m ≡ 0) ⊎ ((k : ℕ) → weight g k ≡ 2) → (a b : Level) → pos m *ℤ weighed (biharmonic g a) b ≡ pos (2 * m)
        *ℤ laplacian_sum g a b
    unfolding laplacian_sum
    stiffness_parts m (inl e) a b = ap (λ (n : ℕ). pos n *ℤ weighed (biharmonic g a) b) e ∙ zero-*ℤ (weighed (biharmonic g a) b)
        ∙ sym (ap (λ (n : ℕ). pos (2 * n) *ℤ laplacian_sum g a b) e ∙ zero-*ℤ (laplacian_sum g a b))
    stiffness_parts m (inr two) a b =
        ap (λ z. pos m *ℤ z) (biharmonic_parts a b ∙ sum_ext (points g)
        (λ k. ap (λ (n : ℕ). pos n *ℤ (inner_laplacian g a k *ℤ inner_laplacian g b k)) (two k)) ∙
        sum-scale (points g) (pos 2) (λ k. inner_laplacian g a k *ℤ inner_laplacian g b k)) ∙
        ring 2 (λ m z. m ⊗ (# 2 ⊗ z) ≈ (# 2 ⊗ m) ⊗ z) refl (pos m) (laplacian_sum g a b)

-- ---- the energy

module _ (i : Instrument) where
  -- D·G
  abbrev pub held : Level → Level → ℤ
  held a b = pos D *ℤ weighed i.grid a b

  pub held_form : Form held
  held_form = times (pos D) (weighed_form i.grid)

  -- S: the form by which the scheme steps
  unfoldable pub step_form : Level → Level → ℤ
  step_form a b = pos (2 * D) *ℤ weighed i.grid a b -ℤ pos (2 * i.settings.q) *ℤ pair_sum i.grid a b -ℤ pos (2 * i.settings.m)
      *ℤ laplacian_sum i.grid a b

  pub step_form_lem : Form step_form
  unfolding step_form
  step_form_lem = minus (minus (times (pos (2 * D)) (weighed_form i.grid)) (times (pos (2 * i.settings.q)) (pair_form i.grid)))
      (times (pos (2 * i.settings.m)) (laplacian_form i.grid))

  -- the paper's energy, times 2D, is the energy of the forms
  pub energy_is : (a b : Level) → energy i a b ≡ Energy.energy held held step_form a b
  unfolding energy step_form
  energy_is a b =
      let g = i.grid in
      ap (λ z. pos D *ℤ z +ℤ pos (2 * i.settings.q) *ℤ pair_sum g a b +ℤ pos (2 * i.settings.m) *ℤ laplacian_sum g a b)
      (squares_are g a b ∙ square-difference (weighed_form g) a b) ∙
      ring 7 (λ q m x y z u v. # D ⊗ (x ⊖ # 2 ⊗ y ⊕ z) ⊕ q ⊗ u ⊕ m ⊗ v ≈ # D ⊗ x ⊕ # D ⊗ z ⊖ (# (2 * D) ⊗ y ⊖ q ⊗ u ⊖ m ⊗ v)) refl
      (pos (2 * i.settings.q)) (pos (2 * i.settings.m)) (weighed g a a) (weighed g a b) (weighed g b b) (pair_sum g a b)
      (laplacian_sum g a b)
