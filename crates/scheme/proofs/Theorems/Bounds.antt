-- The bounds of the forms by the degree, and the energy of any two levels: never negative where the instrument passes.
use mathlib.Core.Path.{◌≡◌, refl, sym, ap, ◌∙◌}
use mathlib.Core.Bool.{Bool, true, false, cond}
use mathlib.Core.List.{List, ◌++◌}
use mathlib.Core.Logic.{◌⊎◌, inl, inr}
use Prim.Native.Nat.{ℕ, ◌*◌, ◌≤◌, ◌<◌}
use native.Mathlib.Omega.{arith}
use lib.IntN.{ℤ, pos, negsuc, ◌+ℤ◌, ◌-ℤ◌, ◌*ℤ◌, zero-*ℤ}
use lib.ListN.{length}
use Rattle.integers.specs.Sum.{sum_over}
use Rattle.integers.proofs.Ring.{#◌, ◌⊕◌, ◌⊖◌, ◌⊗◌, ◌≈◌, ring}
use Rattle.integers.proofs.Order.{◌⩽◌, 0≤pos, 0<pos, pos≤, square_nonneg, nonneg_mul, *ℤ_mono_l, *ℤ_mono_r, *ℤ_cancel, ≡-≤ℤ, ≤ℤ-≡, ≤ℤ_trans}
use Rattle.integers.proofs.Order.{≤ℤ_of_eq}
use Rattle.integers.proofs.Lin.{◌⊴◌, ◌*≤◌, ◌*⊴◌, ◌*≈◌, ◌⇒◌, ⊩◌, lin}
use Rattle.integers.proofs.Sum.{sum_ext, sum-scale, sum_mono, over_ext, over-scale, over_mono, over_nonneg, over_const, cauchy}
use Rattle.forms.proofs.Level.{Level, ◌⊞◌, ◌⊡◌}
use Rattle.forms.proofs.Form.{polarisation}
use Rattle.types.specs.declared.Grid.{Grid}
use Rattle.types.specs.declared.Instrument.{Instrument}
use Rattle.types.specs.Numbers.{D}
use Rattle.scheme.specs.Instruments.{kind, points, column, moving, free_in, free_end}
use Rattle.scheme.specs.Step.{beside, neighbours, laplacian, inner_laplacian}
use Rattle.scheme.specs.Energy.{weight, later, pair_sum, laplacian_sum, energy}
use Rattle.scheme.proofs.Laws.Step.{laplacian_differences}
use Rattle.scheme.specs.Passing.{InstrumentPasses}
use Rattle.scheme.proofs.Theorems.Balance.{beside_balance}
use Rattle.scheme.proofs.Laws.Kinds.{degree, sized, few, stable_means, stiff-held}
use Rattle.scheme.proofs.Theorems.Forms.{weighed, pair_form, laplacian_form, weighed_nonneg, pair_nonneg, laplacian_nonneg}
use Rattle.scheme.proofs.Theorems.Forms.{squares_are}

-- ---- no point has more than K/2 neighbours for each unit of weight

module _ (g : Grid) (hc : 0 < g.columns) (hr : 0 < g.rows) (K : ℕ)
    (deg : (k : ℕ) → k < points g → 2 * length (beside g k) ≤ K * weight g k) where
  -- Σ over pairs of (difference)² ≤ K·G, from (y − x)² ≤ 2x² + 2y²
  pub pair_bound : (c : Level) → pair_sum g c c ⩽ pos K *ℤ weighed g c c
  unfolding pair_sum weighed
  pair_bound c =
      ≤ℤ_trans (sum_mono (points g) (λ i l. over_mono (later g i) (λ j. apart (c i) (c j))))
      (≡-≤ℤ (sym (beside_balance g hc hr (λ i j. pos 2 *ℤ (c i *ℤ c i))))
      (≤ℤ-≡ (sum_mono (points g) (λ i l. ≡-≤ℤ (over_const (beside g i) (pos 2 *ℤ (c i *ℤ c i))) (each i l)))
      (sum-scale (points g) (pos K) _)))
    where
      apart : (x y : ℤ) → (y -ℤ x) *ℤ (y -ℤ x) ⩽ pos 2 *ℤ (x *ℤ x) +ℤ pos 2 *ℤ (y *ℤ y)
      apart x y = lin 2 (λ x y. 1 *≤ # 0 ⊴ (x ⊕ y) ⊗ (x ⊕ y) ⇒ ⊩ (y ⊖ x) ⊗ (y ⊖ x) ⊴ # 2 ⊗ (x ⊗ x) ⊕ # 2 ⊗ (y ⊗ y)) refl x y
          (square_nonneg (x +ℤ y))

      each : (i : ℕ) → i < points g → pos (length (beside g i)) *ℤ (pos 2 *ℤ (c i *ℤ c i)) ⩽ pos K *ℤ (pos (weight g i) *ℤ (c i *ℤ c i))
      each i l = lin 4 (λ n K w x. x *⊴ # 2 ⊗ n ⊴ K ⊗ w ⇒ ⊩ n ⊗ (# 2 ⊗ x) ⊴ K ⊗ (w ⊗ x)) refl (pos (length (beside g i))) (pos K)
          (pos (weight g i)) (c i *ℤ c i) (square_nonneg (c i)) (pos≤ (deg i l))

  -- Σ L² ≤ 2K·(Σ over pairs of (difference)²) where no end is free, from Cauchy's inequality
  module _ (two : (k : ℕ) → weight g k ≡ 2) where
    one_each : (k : ℕ) → neighbours g k ≡ beside g k
    unfolding weight neighbours
    one_each k = go (free_end g k) (two k)
      where
        go : (b : Bool) → cond {A = ℕ} b 1 2 ≡ 2 → cond b (beside g k ++ beside g k) (beside g k) ≡ beside g k
        go true e = absurd (omega arith)
        go false e = refl

    pub laplacian-bound : (c : Level) → laplacian_sum g c c ⩽ pos K *ℤ (pos 2 *ℤ pair_sum g c c)
    unfolding laplacian_sum pair_sum inner_laplacian
    laplacian-bound c =
        ≤ℤ-≡ (sum_mono (points g) (λ i l. each i l (moving g i)))
        (sum-scale (points g) (pos K) _ ∙ ap (λ z. pos K *ℤ z) (beside_balance g hc hr (λ i j. (c j -ℤ c i) *ℤ (c j -ℤ c i)) ∙
        sum_ext (points g) (λ i. over_ext (later g i)
        (λ j. ring 2 (λ x y. ((y ⊖ x) ⊗ (y ⊖ x)) ⊕ ((x ⊖ y) ⊗ (x ⊖ y)) ≈ # 2 ⊗ ((y ⊖ x) ⊗ (y ⊖ x))) refl (c i) (c j))
        ∙ over-scale (later g i) (pos 2) _) ∙
        sum-scale (points g) (pos 2) _))
      where
        Q : ℕ → ℤ
        Q i = sum_over (beside g i) (λ j. (c j -ℤ c i) *ℤ (c j -ℤ c i))

        Q_nonneg : (i : ℕ) → pos 0 ⩽ Q i
        Q_nonneg i = over_nonneg (beside g i) (λ j. square_nonneg (c j -ℤ c i))

        L_is : (i : ℕ) → laplacian g c i ≡ sum_over (beside g i) (λ j. c j -ℤ c i)
        L_is i = laplacian_differences g c i ∙ ap (λ (js : List ℕ). sum_over js (λ j. c j -ℤ c i)) (one_each i)

        each : (i : ℕ) → i < points g → (t : Bool) → cond t (laplacian g c i) (pos 0) *ℤ cond t (laplacian g c i) (pos 0) ⩽ pos K *ℤ Q i
        each i l true =
            ≡-≤ℤ (ap (λ z. z *ℤ z) (L_is i))
            (≤ℤ_trans (cauchy (beside g i) (λ j. c j -ℤ c i))
            (*ℤ_mono_r (Q i) (Q_nonneg i) (pos≤ (omega (arith, deg i l, ap (λ (n : ℕ). K * n) (two i))))))
        each i l false = nonneg_mul (0≤pos K) (Q_nonneg i)

-- ---- an instrument that passes

module _ (i : Instrument) (ok : InstrumentPasses i) where
  pub some_columns : 0 < i.grid.columns
  some_columns = omega (arith, (sized (kind i.grid) i.grid.columns i.grid.rows ok.size).columns_low)

  pub some_rows : 0 < i.grid.rows
  some_rows = (sized (kind i.grid) i.grid.columns i.grid.rows ok.size).rows_low

  -- where there is stiffness every weight is 2
  pub soft_or_held : (i.settings.m ≡ 0) ⊎ ((k : ℕ) → weight i.grid k ≡ 2)
  unfolding weight
  soft_or_held = go (stiff-held (kind i.grid) i.settings.q i.settings.m ok.stable)
    where
      go : (i.settings.m ≡ 0) ⊎ ((c a : ℕ) → free_in (kind i.grid) c a ≡ false)
          → (i.settings.m ≡ 0) ⊎ ((k : ℕ) → cond {A = ℕ} (free_end i.grid k) 1 2 ≡ 2)
      go (inl z) = inl z
      go (inr f) = inr (λ k. ap (λ (t : Bool). cond {A = ℕ} t 1 2) (f i.grid.columns (column i.grid k)))

  pub few_beside : (k : ℕ) → k < points i.grid → 2 * length (beside i.grid k) ≤ degree (kind i.grid) * weight i.grid k
  few_beside k l = few i.grid k l (kind i.grid) refl ok.size

  -- m·Σ L² ≤ m·2K·(Σ over pairs of (difference)²)
  pub stiffness-bound : (c : Level) → pos i.settings.m *ℤ laplacian_sum i.grid c c ⩽ pos i.settings.m
      *ℤ (pos (degree (kind i.grid)) *ℤ (pos 2 *ℤ pair_sum i.grid c c))
  stiffness-bound c = go soft_or_held
    where
      g : Grid
      g = i.grid

      K : ℕ
      K = degree (kind g)

      go : (i.settings.m ≡ 0) ⊎ ((k : ℕ) → weight g k ≡ 2) → pos i.settings.m *ℤ laplacian_sum g c c ⩽ pos i.settings.m
          *ℤ (pos K *ℤ (pos 2 *ℤ pair_sum g c c))
      go (inl z) = ≤ℤ_of_eq (ap (λ (k : ℕ). pos k *ℤ laplacian_sum g c c) z ∙ zero-*ℤ (laplacian_sum g c c)
          ∙ sym (ap (λ (k : ℕ). pos k *ℤ (pos K *ℤ (pos 2 *ℤ pair_sum g c c))) z ∙ zero-*ℤ (pos K *ℤ (pos 2 *ℤ pair_sum g c c))))
      go (inr two) = *ℤ_mono_l (pos i.settings.m) (0≤pos i.settings.m) (laplacian-bound g some_columns some_rows K few_beside two c)

  -- with c = a − b: 4·E = 4D·G(c) + 2q·(P(a+b) − P(c)) + 2m·(Λ(a+b) − Λ(c)) ≥ 2·(2D − K·q − 2K²·m)·G(c) ≥ 0
  pub energy_nonneg : (a b : Level) → pos 0 ⩽ energy i a b
  unfolding energy
  energy_nonneg a b =
      ≤ℤ-≡ (*ℤ_cancel (0<pos 3)
      (lin 11 (λ q m K G p P x l Λ y D. (# 2 ⊗ q) *≈ # 4 ⊗ x ≈ P ⊖ p ⇒ (# 2 ⊗ m) *≈ # 4 ⊗ y ≈ Λ ⊖ l ⇒ (# 2 ⊗ q) *⊴ # 0 ⊴ P
      ⇒ (# 2 ⊗ m) *⊴ # 0 ⊴ Λ ⇒ (# 2 ⊗ q) *⊴ p ⊴ K ⊗ G ⇒ 2 *≤ m ⊗ l ⊴ m ⊗ (K ⊗ (# 2 ⊗ p)) ⇒
      (# 4 ⊗ (m ⊗ K)) *⊴ p ⊴ K ⊗ G ⇒ (# 2 ⊗ G) *⊴ K ⊗ q ⊕ # 2 ⊗ (K ⊗ K) ⊗ m ⊴ # 2 ⊗ D ⇒
      ⊩ # 4 ⊗ # 0 ⊴ # 4 ⊗ (D ⊗ G ⊕ (# 2 ⊗ q) ⊗ x ⊕ (# 2 ⊗ m) ⊗ y)) refl
      (pos i.settings.q) (pos i.settings.m) (pos K) (weighed g c c) (pair_sum g c c) (pair_sum g (a ⊞ b) (a ⊞ b)) (pair_sum g a b)
      (laplacian_sum g c c) (laplacian_sum g (a ⊞ b) (a ⊞ b)) (laplacian_sum g a b) (pos D)
      (polarisation (pair_form g) a b) (polarisation (laplacian_form g) a b) (0≤pos (2 * i.settings.q)) (pair_nonneg g (a ⊞ b))
      (0≤pos (2 * i.settings.m)) (laplacian_nonneg g (a ⊞ b)) (0≤pos (2 * i.settings.q)) pairs (stiffness-bound c)
      (0≤pos (4 * (i.settings.m * K))) pairs (nonneg_mul (0≤pos 2) (weighed_nonneg g c))
      (pos≤ (stable_means (kind g) i.settings.q i.settings.m ok.stable))))
      (ap (λ z. pos D *ℤ z +ℤ pos (2 * i.settings.q) *ℤ pair_sum g a b +ℤ pos (2 * i.settings.m) *ℤ laplacian_sum g a b)
      (sym (squares_are g a b)))
    where
      g : Grid
      g = i.grid

      K : ℕ
      K = degree (kind g)

      c : Level
      c = a ⊞ (negsuc 0 ⊡ b)

      pairs : pair_sum g c c ⩽ pos K *ℤ weighed g c c
      pairs = pair_bound g some_columns some_rows K few_beside c
