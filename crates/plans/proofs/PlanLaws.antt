-- The count of neighbours, and the factors of an instrument that refusal 4 lets pass.
use mathlib.Core.Path.{◌≡◌, ap}
use mathlib.Core.Bool.{Bool, true, false, cond}
use Prim.Native.Nat.{ℕ, ◌≤◌}
use native.Mathlib.Omega.{arith}
use borrow.Author.Tests.{eq-eqb, ne_eqb}
use lib.Dec.{eqb}
use Rattle.types.specs.declared.Grid.{Grid}
use Rattle.types.specs.declared.Instrument.{Instrument}
use Rattle.scheme.specs.Refusals.{wrong_coefficient}
use Rattle.plans.specs.declared.Plan.{Plan}
use Rattle.plans.specs.Plans.{count_of, no_factors, factors, plan_of}

-- "two neighbours, or four"
pub two_of : (g : Grid) → g.rows ≡ 1 → count_of g ≡ 2
two_of g e = ap (λ (t : Bool). cond {A = ℕ} t 2 4) (eq-eqb g.rows 1 e)

pub four_of : (g : Grid) → (g.rows ≡ 1 → ⊥) → count_of g ≡ 4
four_of g n = ap (λ (t : Bool). cond {A = ℕ} t 2 4) (ne_eqb g.rows 1 n)

pub count_few : (g : Grid) → count_of g ≤ 4
count_few g = go (eqb g.rows 1)
  where
    go : (t : Bool) → cond {A = ℕ} t 2 4 ≤ 4
    go true = omega arith
    go false = omega arith

-- the plan of an instrument that passes
pub plan_passed : (i : Instrument) → wrong_coefficient i.settings ≡ false → plan_of i ≡ factors i
plan_passed i e = ap (λ (t : Bool). cond {A = Plan} t (no_factors i) (factors i)) e
