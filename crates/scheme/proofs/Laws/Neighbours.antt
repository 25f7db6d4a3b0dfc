-- The neighbours of a point by where it stands: what the code reads.
use mathlib.Core.Path.{◌≡◌, refl, sym, ap, ap₂, ◌∙◌, subst}
use mathlib.Core.Bool.{Bool, true, false}
use mathlib.Core.List.{List, [], ◌∷◌, ◌++◌}
use Prim.Native.Nat.{ℕ, ◌+◌, ◌-◌, ◌≤◌, ◌<◌}
use native.Mathlib.Nat as N
use native.Mathlib.Omega.{arith}
use borrow.Author.Tests.{lt-ltb, le-ltb, ne_eqb}
use lib.Dec.{ltb}
use Rattle.types.specs.declared.Grid.{Grid}
use Rattle.scheme.specs.Lists.{only}
use Rattle.types.specs.declared.Kind.{Kind}
use Rattle.types.specs.declared.Kind.TheVariants.{Unknown, StringFixed, StringFixedFree, StringFree, Bar, MembraneRectangular, MembraneRound, Plate}
use Rattle.scheme.specs.Instruments.{kind, points, column, row, free_in, free_end}
use Rattle.scheme.specs.Step.{beside, neighbours}
use Rattle.scheme.proofs.Laws.Bools.{neither_or}

only_lt : (a b j : ℕ) → a < b → only (ltb a b) j ≡ j ∷ []
unfolding only
only_lt a b j h = ap (λ (t : Bool). only t j) (lt-ltb a b h)

only_ge : (a b j : ℕ) → b ≤ a → only (ltb a b) j ≡ []
unfolding only
only_ge a b j h = ap (λ (t : Bool). only t j) (le-ltb a b h)

-- no inner point of a line is a free end
inner-held : (K : Kind) (c a : ℕ) → 0 < a → a + 1 < c → free_in K c a ≡ false
unfolding free_in
inner-held Unknown c a h k = refl
inner-held StringFixed c a h k = refl
inner-held StringFixedFree c a h k = ne_eqb (a + 1) c (λ e. omega arith)
inner-held StringFree c a h k = neither_or (ne_eqb a 0 (λ e. omega arith)) (ne_eqb (a + 1) c (λ e. omega arith))
inner-held Bar c a h k = refl
inner-held MembraneRectangular c a h k = refl
inner-held MembraneRound c a h k = refl
inner-held Plate c a h k = refl

module _ (g : Grid) (i : ℕ) where
  -- by the four tests
  four : {p q r s : List ℕ} → only (ltb 0 (column g i)) (i - 1) ≡ p → only (ltb (column g i + 1) g.columns) (i + 1) ≡ q
      → only (ltb 0 (row g i)) (i - g.columns) ≡ r → only (ltb (row g i + 1) g.rows) (i + g.columns) ≡ s → beside g i
      ≡ p ++ (q ++ (r ++ s))
  unfolding beside
  four a b c d = ap₂ ◌++◌ a (ap₂ ◌++◌ b (ap₂ ◌++◌ c d))

  one_each : free_end g i ≡ false → neighbours g i ≡ beside g i
  unfolding neighbours
  one_each e = simp e

  twice : free_end g i ≡ true → neighbours g i ≡ beside g i ++ beside g i
  unfolding neighbours
  twice e = simp e

  -- ---- a point of a line
  module _ (line : g.rows ≡ 1) (p : i < g.columns) where
    above : only (ltb 0 (row g i)) (i - g.columns) ≡ []
    above = only_ge 0 (row g i) (i - g.columns) (omega (arith, N.div-eq_of_lt p))

    below : only (ltb (row g i + 1) g.rows) (i + g.columns) ≡ []
    below = only_ge (row g i + 1) g.rows (i + g.columns) (omega (arith, N.div-eq_of_lt p))

    pub line-inner : 0 < i → i + 1 < g.columns → neighbours g i ≡ (i - 1) ∷ (i + 1) ∷ []
    line-inner h k =
        one_each (subst (λ (a : ℕ). free_in (kind g) g.columns a ≡ false) (sym (N.mod-eq_of_lt p))
        (inner-held (kind g) g.columns i h k)) ∙
        four (only_lt 0 (column g i) (i - 1) (omega (arith, N.mod-eq_of_lt p)))
        (only_lt (column g i + 1) g.columns (i + 1) (omega (arith, N.mod-eq_of_lt p))) above below

    -- a free end has its one neighbour twice
    pub line_first : i ≡ 0 → 1 < g.columns → free_end g i ≡ true → neighbours g i ≡ (i + 1) ∷ (i + 1) ∷ []
    line_first h k e = twice e ∙ ap (λ (js : List ℕ). js ++ js)
        (four (only_ge 0 (column g i) (i - 1) (omega (arith, N.mod-eq_of_lt p)))
        (only_lt (column g i + 1) g.columns (i + 1) (omega (arith, N.mod-eq_of_lt p))) above below)

    pub line_last : i + 1 ≡ g.columns → 0 < i → free_end g i ≡ true → neighbours g i ≡ (i - 1) ∷ (i - 1) ∷ []
    line_last h k e = twice e ∙ ap (λ (js : List ℕ). js ++ js)
        (four (only_lt 0 (column g i) (i - 1) (omega (arith, N.mod-eq_of_lt p)))
        (only_ge (column g i + 1) g.columns (i + 1) (omega (arith, N.mod-eq_of_lt p))) above below)

  -- ---- an inner point of a grid
  pub grid-inner : free_end g i ≡ false → 0 < column g i → column g i + 1 < g.columns → 0 < row g i → row g i + 1 < g.rows
      → neighbours g i ≡ (i - 1) ∷ (i + 1) ∷ (i - g.columns) ∷ (i + g.columns) ∷ []
  grid-inner e a b c d = one_each e ∙
      four (only_lt 0 (column g i) (i - 1) a) (only_lt (column g i + 1) g.columns (i + 1) b) (only_lt 0 (row g i) (i - g.columns) c)
      (only_lt (row g i + 1) g.rows (i + g.columns) d)

  -- a row further up and a row further down are points of the grid
  pub grid-above : 0 < row g i → g.columns ≤ i
  grid-above c = omega (arith, N.mul-le-mul_left g.columns c, N.mul-one g.columns, N.mul-div-le i g.columns)

  pub grid-below : column g i + 1 < g.columns → row g i + 1 < g.rows → i + g.columns < points g
  grid-below b d = omega (arith, N.mul-le-mul_left g.columns d, N.mul-add g.columns (row g i) 2, N.div-add-mod i g.columns)
