-- The factors of a plan, and that they are small; its grid has three columns or more, and 64 rows or less.
use mathlib.Core.Path.{◌≡◌, refl, sym, ap, ◌∙◌, subst}
use Prim.Native.Nat.{ℕ, ◌+◌, ◌*◌, ◌/◌, ◌^◌, ◌≤◌, ◌<◌}
use native.Mathlib.Nat as N
use native.Mathlib.Omega.{arith}
use lib.IntN.{ℤ, pos, nat_abs, ◌-ℤ◌, ◌*ℤ◌}
use mir.Syntax.{w64}
use mir.Val.{to_z, of_z}
use Rattle.integers.proofs.Ring.{#◌, ◌⊗◌, ◌≈◌, ring}
use Rattle.integers.proofs.Order.{pos_inj}
use Rattle.integers.proofs.Size.{size-mul, size_less}
use Rattle.bounded.proofs.Num.{given}
use Rattle.types.specs.declared.Instrument.{Instrument}
use Rattle.types.specs.Numbers.{D, ceiling}
use Rattle.scheme.specs.Instruments.{kind, points}
use Rattle.scheme.specs.Passing.{InstrumentPasses}
use Rattle.scheme.specs.Step.{divisor}
use Rattle.scheme.proofs.Laws.Kinds.{degree-within, Sized, sized, stable_means}
use Rattle.scheme.proofs.Laws.Refusals.{coefficients_small}
use Rattle.plans.specs.declared.Plan.{Plan}
use Rattle.plans.specs.Plans.{count_of, factors, plan_of}
use Rattle.plans.proofs.PlanLaws.{plan_passed}
use Rattle.steps.specs.Plan.{Planned}
use Rattle.steps.proofs.KindLaws.{count-degree}

-- the plan that is made of an instrument that passes
pub made : (i : Instrument) → InstrumentPasses i → (p : Plan) → p ≡ plan_of i → (p.instrument ≡ i) × Planned p
made i ok p e =
    let is = e ∙ plan_passed i ok.coefficients in
    let own = ap (λ (x : Plan). x.instrument) is in
    (own, record { passes = subst InstrumentPasses (sym own) ok; is = is ∙ ap factors (sym own) })

module _ {p : Plan} (h : Planned p) where
  abbrev q : ℕ
  q = p.instrument.settings.q

  abbrev m : ℕ
  m = p.instrument.settings.m

  abbrev c : ℕ
  c = count_of p.instrument.grid

  low : (q ≤ D) × (m ≤ D) × (p.instrument.settings.s ≤ D)
  low = coefficients_small p.instrument.settings h.passes.coefficients

  pub own_is : p.own ≡ pos (2 * D) -ℤ pos c *ℤ pos q
  own_is = ap (λ (x : Plan). x.own) h.is

  pub near_is : p.near ≡ pos q
  near_is = ap (λ (x : Plan). x.near) h.is

  pub kept_is : p.kept ≡ pos D -ℤ pos p.instrument.settings.s
  kept_is = ap (λ (x : Plan). x.kept) h.is

  pub m_is : p.m ≡ pos m
  m_is = ap (λ (x : Plan). x.m) h.is

  -- "Stable means", by the neighbours: all that the factors of newer have to hold
  stable : c * q + 2 * (c * c) * m ≤ 2 * D
  stable = subst (λ (n : ℕ). n * q + 2 * (n * n) * m ≤ 2 * D) (sym (count-degree p.instrument.grid h.passes.size))
      (stable_means (kind p.instrument.grid) q m h.passes.stable)

  pub own_low : nat_abs p.own ≤ 2 * D
  own_low = subst (λ (z : ℤ). nat_abs z ≤ 2 * D) (sym own_is) (size_less (2 * D) (c * q) (omega (arith, stable)))

  pub few : (1 ≤ c) × (c ≤ 4)
  few = subst (λ (n : ℕ). (1 ≤ n) × (n ≤ 4)) (sym (count-degree p.instrument.grid h.passes.size))
      (degree-within (kind p.instrument.grid))

  pub near_low : nat_abs p.near ≤ D
  near_low = subst (λ (z : ℤ). nat_abs z ≤ D) (sym near_is) low.0

  -- a factor n times a number of at most k·C, where n·k is at most B
  part : {z : ℤ} (n k B : ℕ) → z ≡ pos n → n * k ≤ B → (x : ℤ) → nat_abs x ≤ k * ceiling → nat_abs (z *ℤ x) ≤ B * ceiling
  part {z} n k B e b x l =
      subst (λ (z : ℤ). nat_abs (z *ℤ x) ≤ B * ceiling) (sym e)
      (omega (arith, size-mul (pos n) x, N.mul-le-mul_left n l, N.mul_assoc n k ceiling, N.mul-le-mul_right ceiling b))

  pub near_part : (sum : ℤ) → nat_abs sum ≤ c * ceiling → nat_abs (p.near *ℤ sum) ≤ 2 * D * ceiling
  near_part = part q c (2 * D) near_is (omega (arith, stable, N.mul_comm q c))

  bent : c * c * m ≤ D
  bent = omega (arith, stable, N.mul_assoc 2 (c * c) m)

  pub second_part : (x : ℤ) → nat_abs x ≤ c * c * ceiling → nat_abs (p.m *ℤ x) ≤ D * ceiling
  second_part = part m (c * c) D m_is (omega (arith, bent, N.mul_comm m (c * c)))

  pub stiff-part : (x : ℤ) → nat_abs x ≤ 4 * (c * c) * ceiling → nat_abs (pos m *ℤ x) ≤ 4 * D * ceiling
  stiff-part = part m (4 * (c * c)) (4 * D) refl (omega (arith, bent, e))
    where
      e : m * (4 * (c * c)) ≡ 4 * (c * c * m)
      e = pos_inj (ring 2 (λ m c. m ⊗ (# 4 ⊗ (c ⊗ c)) ≈ # 4 ⊗ (c ⊗ c ⊗ m)) refl (pos m) (pos c))

  pub bend_is : p.bend ≡ pos 2 *ℤ pos c *ℤ pos m
  bend_is = ap (λ (x : Plan). x.bend) h.is

  pub stiff_is : p.stiff ≡ pos c *ℤ pos c *ℤ pos m
  stiff_is = ap (λ (x : Plan). x.stiff) h.is

  pub sum_part : (x : ℤ) → nat_abs x ≤ c * ceiling → nat_abs (p.bend *ℤ x) ≤ 2 * D * ceiling
  sum_part = part (2 * c * m) c (2 * D) bend_is (omega (arith, bent, e))
    where
      e : 2 * c * m * c ≡ 2 * (c * c * m)
      e = pos_inj (ring 2 (λ c m. # 2 ⊗ c ⊗ m ⊗ c ≈ # 2 ⊗ (c ⊗ c ⊗ m)) refl (pos c) (pos m))

  pub stiff_low : nat_abs p.stiff ≤ D
  stiff_low = subst (λ (z : ℤ). nat_abs z ≤ D) (sym stiff_is) bent

  pub bend_low : nat_abs p.bend ≤ 2 * D
  bend_low = subst (λ (z : ℤ). nat_abs z ≤ 2 * D) (sym bend_is)
      (omega (arith, bent, N.mul_assoc 2 c m, N.mul_assoc c c m, N.mul-le-mul_right (c * m) few.0))

  pub m-low : nat_abs p.m ≤ D
  m-low = subst (λ (z : ℤ). nat_abs z ≤ D) (sym m_is) low.1

  -- m as code tests it: by its bits
  pub m_none : of_z w64 p.m ≡ 0 → p.instrument.settings.m ≡ 0
  m_none e = ap nat_abs (sym m_is ∙ sym (given m-low tt).is ∙ ap (to_z w64) e)

  pub m_some : (of_z w64 p.m ≡ 0 → ⊥) → p.instrument.settings.m ≡ 0 → ⊥
  m_some f e = f (ap (of_z w64) (m_is ∙ ap pos e))

  pub kept_low : nat_abs p.kept ≤ D
  kept_low = subst (λ (z : ℤ). nat_abs z ≤ D) (sym kept_is) (size_less D p.instrument.settings.s low.2)

  -- ---- the divisor, and half of it

  abbrev d : ℕ
  d = divisor p.instrument.settings

  pub divisor_some : 0 < d
  divisor_some = omega arith

  pub divisor_is : p.divisor ≡ d
  divisor_is = ap (λ (x : Plan). x.divisor) h.is

  pub half_is : p.half ≡ d / 2
  half_is = ap (λ (x : Plan). x.half) h.is

  pub limit_is : p.limit ≡ (ceiling + 1) * d
  limit_is = ap (λ (x : Plan). x.limit) h.is

  pub divisor-low : d ≤ 2 ^ 31
  divisor-low = omega (arith, low.2)

  -- ---- the grid

  size : Sized p.instrument.grid.columns p.instrument.grid.rows
  size = sized (kind p.instrument.grid) p.instrument.grid.columns p.instrument.grid.rows h.passes.size

  pub some_columns : 3 ≤ p.instrument.grid.columns
  some_columns = size.columns_low

  pub few_points : points p.instrument.grid ≤ 4096
  few_points = size.points_high

  pub few_rows : p.instrument.grid.rows ≤ 64
  few_rows = size.rows_high
