-- The stiffness at a point, and the numerator, as the machine adds them: by sums, by the factors of a plan, and within 2⁶³.
use mathlib.Core.Path.{◌≡◌, refl, sym, ap, ◌∙◌}
use Prim.Native.Nat.{◌*◌}
use lib.IntN.{ℤ, pos, ◌+ℤ◌, ◌-ℤ◌, ◌*ℤ◌}
use Rattle.integers.proofs.Ring.{#◌, ◌⊕◌, ◌⊖◌, ◌⊗◌, ◌≈◌, ring}
use Rattle.bounded.proofs.Num.{Num}
use Rattle.bounded.proofs.Expr.{E, at, num, ◌⊞◌, ◌⊟◌, ◌⊠◌, red, val, product, stored}
use Rattle.types.specs.declared.Instrument.{Instrument}
use Rattle.types.specs.Numbers.{D, ceiling}
use Rattle.plans.specs.declared.Plan.{Plan}
use Rattle.plans.specs.Plans.{count_of}
use Rattle.steps.specs.Plan.{bending_of, numerator_with, Planned, Bendable, Updatable}
use Rattle.steps.proofs.PlanLaws.{own_is, near_is, kept_is, m_is, bend_is, stiff_is}
use Rattle.steps.proofs.PlanLaws.{own_low, near_low, kept_low, m-low, bend_low, stiff_low}

-- m·B by sums
module _ {p : Plan} (h : Planned p) {second sum u : ℤ} (given : Bendable p second sum u) where
  abbrev m# : E
  m# = at p.m D (m-low h)

  abbrev second# : E
  second# = at second (16 * ceiling) given.second_low

  pub by_second : Num (red m# *ℤ red second#) (p.m *ℤ second) (D * ceiling)
  by_second = product m# second# (D * ceiling) tt tt given.second_part

  abbrev bend# : E
  bend# = at p.bend (2 * D) (bend_low h)

  abbrev near# : E
  near# = at sum (4 * ceiling) given.sum_low

  pub by_sum : Num (red bend# *ℤ red near#) (p.bend *ℤ sum) (2 * D * ceiling)
  by_sum = product bend# near# (2 * D * ceiling) tt tt given.sum_part

  abbrev pub less# : E
  less# = stored by_second tt ⊟ stored by_sum tt

  abbrev pub own# : E
  own# = at p.stiff D (stiff_low h) ⊠ at u ceiling given.u_low

  abbrev pub stiff# : E
  stiff# = less# ⊞ own#

  abbrev c : ℤ
  c = pos (count_of p.instrument.grid)

  pub stiffness_is : val stiff# ≡ p.m *ℤ bending_of c sum second u
  stiffness_is =
      (λ j. m_is h j *ℤ second -ℤ bend_is h j *ℤ sum +ℤ stiff_is h j *ℤ u) ∙
      ring 5 (λ m c y x u. m ⊗ y ⊖ # 2 ⊗ c ⊗ m ⊗ x ⊕ c ⊗ c ⊗ m ⊗ u ≈ m ⊗ (y ⊖ # 2 ⊗ c ⊗ x ⊕ c ⊗ c ⊗ u)) refl
      (pos p.instrument.settings.m) c second sum u ∙
      ap (λ (m : ℤ). m *ℤ bending_of c sum second u) (sym (m_is h))

-- the numerator
module _ {p : Plan} (h : Planned p) {u sum old f stiff : ℤ} (given : Updatable p u sum old f stiff) where
  abbrev q# : E
  q# = at p.near D (near_low h)

  abbrev sum# : E
  sum# = at sum (4 * ceiling) given.sum_low

  -- ---- the terms, in the order of the code; the bound of the neighbours is stability's

  abbrev pub own_last# : E
  own_last# = at p.own (2 * D) (own_low h) ⊠ at u ceiling given.u_low

  pub neighbours : Num (red q# *ℤ red sum#) (p.near *ℤ sum) (2 * D * ceiling)
  neighbours = product q# sum# (2 * D * ceiling) tt tt given.near_part

  abbrev pub before_last# : E
  before_last# = at p.kept D (kept_low h) ⊠ at old ceiling given.older_low

  abbrev pub force# : E
  force# = num 65536 ⊠ at f ceiling given.f_low

  -- ---- their sums

  abbrev pub two# : E
  two# = own_last# ⊞ stored neighbours tt

  abbrev pub three# : E
  three# = two# ⊟ before_last#

  abbrev pub with_force# : E
  with_force# = three# ⊞ force#

  abbrev pub n# : E
  n# = with_force# ⊟ at stiff (4 * D * ceiling) given.stiff_low

  -- ---- it is the scheme's

  abbrev i : Instrument
  i = p.instrument

  abbrev count : ℤ
  count = pos (count_of i.grid)

  abbrev q : ℤ
  q = pos i.settings.q

  abbrev kept : ℤ
  kept = pos D -ℤ pos i.settings.s

  -- "in the order of that text: own last value, neighbours, before-last value, force"; "The stiffness term follows the force"
  abbrev in_order : ℤ
  in_order = (pos (2 * D) -ℤ count *ℤ q) *ℤ u +ℤ q *ℤ sum -ℤ kept *ℤ old +ℤ pos D *ℤ f -ℤ stiff

  -- the code's terms, one by one
  by_terms : val n# ≡ in_order
  by_terms = λ j. own_is h j *ℤ u +ℤ near_is h j *ℤ sum -ℤ kept_is h j *ℤ old +ℤ pos 65536 *ℤ f -ℤ stiff

  -- L is the sum less c times u
  reordered : in_order ≡ numerator_with i.settings u (sum -ℤ count *ℤ u) stiff old f
  reordered =
      ring 8 (λ d c q u x b p f. (d ⊖ c ⊗ q) ⊗ u ⊕ q ⊗ x ⊖ p ⊕ f ⊖ b ≈ d ⊗ u ⊕ q ⊗ (x ⊖ c ⊗ u) ⊖ b ⊖ p ⊕ f) refl
      (pos (2 * D)) count q u sum stiff (kept *ℤ old) (pos D *ℤ f)

  pub numerator_is : val n# ≡ numerator_with i.settings u (sum -ℤ count *ℤ u) stiff old f
  numerator_is = by_terms ∙ reordered
