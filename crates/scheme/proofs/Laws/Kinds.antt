-- The facts of the grid that go by the kind: the sizes that the table has,
-- how many neighbours a point has against its weight, where there is stiffness, and what stable means.
use mathlib.Core.Path.{◌≡◌, refl, sym, ap, ◌∙◌, subst}
use mathlib.Core.Bool.{Bool, true, false, ◌&&◌, ◌||◌, cond, true≢false}
use mathlib.Core.List.{List}
use mathlib.Core.Logic.{◌⊎◌, inl, inr}
use Prim.Native.Nat.{ℕ, ◌+◌, ◌-◌, ◌*◌, ◌≤◌, ◌<◌}
use native.Mathlib.Nat as N
use native.Mathlib.Omega.{arith}
use borrow.Author.Tests.{leb-true, eqb-true, le-leb, eq-eqb, le-ltb}
use lib.Dec.{T, leb, ltb, eqb, lit≤}
use lib.ListN.{length, length-append}
use Rattle.types.specs.declared.Grid.{Grid}
use Rattle.types.specs.Numbers.{D}
use Rattle.scheme.specs.Lists.{only}
use Rattle.types.specs.declared.Kind.{Kind}
use Rattle.types.specs.declared.Kind.TheVariants.{Unknown, StringFixed, StringFixedFree, StringFree, Bar, MembraneRectangular, MembraneRound, Plate}
use Rattle.scheme.specs.Instruments.{kind, within, line_size, grid_size, size_in, stable_in, points, column, row, at_edge, free_in}
use Rattle.scheme.specs.Instruments.{free_end}
use Rattle.scheme.specs.Step.{beside}
use Rattle.scheme.specs.Energy.{weight}
use Rattle.scheme.proofs.Laws.Bools.{and_both, and_yes, same}

-- "two neighbours, or four"
abbrev pub degree : Kind → ℕ
degree Unknown = 4
degree StringFixed = 2
degree StringFixedFree = 2
degree StringFree = 2
degree Bar = 2
degree MembraneRectangular = 4
degree MembraneRound = 4
degree Plate = 4

pub degree-within : (K : Kind) → (1 ≤ degree K) × (degree K ≤ 4)
degree-within Unknown = omega arith
degree-within StringFixed = omega arith
degree-within StringFixedFree = omega arith
degree-within StringFree = omega arith
degree-within Bar = omega arith
degree-within MembraneRectangular = omega arith
degree-within MembraneRound = omega arith
degree-within Plate = omega arith

-- ---- sizes

-- a number in a range
pub within_is : (a b n : ℕ) → within a b n ≡ true → (a ≤ n) × (n ≤ b)
within_is a b n e = let u = and_both (leb a n) (leb n b) e in (leb-true a n u.0, leb-true n b u.1)

pub is_within : (a b n : ℕ) → a ≤ n → n ≤ b → within a b n ≡ true
is_within a b n l h = and_yes (le-leb a n l) ∙ le-leb n b h

pub within_one : (n r : ℕ) → within n n r ≡ eqb r n
within_one n r =
    same (λ e. let w = within_is n n r e in eq-eqb r n (omega arith))
    (λ e. let q = eqb-true r n e in is_within n n r (omega arith) (omega arith))

one_row : (c r : ℕ) → line_size c r ≡ true → r ≡ 1
one_row c r e = eqb-true r 1 (and_both (within 3 1024 c) (eqb r 1) e).1

-- the sizes that the table has
pub record Sized (c r : ℕ) : Type 0 where
  pub columns_low : 3 ≤ c
  pub columns_high : c ≤ 1024
  pub rows_low : 1 ≤ r
  pub rows_high : r ≤ 64
  pub points_high : c * r ≤ 4096

-- 3..m columns and l..n rows
sized_by : (m l n c r : ℕ) → T (leb m 1024) → T (leb 1 l) → T (leb n 64) → T (leb (m * n) 4096) → (within 3 m c && within l n r) ≡ true
    → Sized c r
sized_by m l n c r tm tl tn tp e =
    let p = and_both (within 3 m c) (within l n r) e in
    let x = within_is 3 m c p.0 in
    let y = within_is l n r p.1 in
    record {
      columns_low = x.0;
      columns_high = N.le_trans x.1 (lit≤ tm);
      rows_low = N.le_trans (lit≤ tl) y.0;
      rows_high = N.le_trans y.1 (lit≤ tn);
      points_high = N.le_trans (N.mul-le-mul x.1 y.1) (lit≤ tp);
    }

sized_line : (c r : ℕ) → line_size c r ≡ true → Sized c r
sized_line c r e = sized_by 1024 1 1 c r tt tt tt tt (ap (λ (b : Bool). within 3 1024 c && b) (within_one 1 r) ∙ e)

sized_grid : (c r : ℕ) → grid_size c r ≡ true → Sized c r
sized_grid c r e = sized_by 64 3 64 c r tt tt tt tt e

-- a square is no larger
sized_square : (c r : ℕ) → (within 3 64 c && eqb r c) ≡ true → Sized c r
sized_square c r e =
    let p = and_both (within 3 64 c) (eqb r c) e in
    let x = within_is 3 64 c p.0 in
    let q = eqb-true r c p.1 in
    sized_grid c r (and_yes p.0 ∙ is_within 3 64 r (omega arith) (omega arith))

pub sized : (K : Kind) (c r : ℕ) → size_in K c r ≡ true → Sized c r
unfolding size_in
sized Unknown c r e = absurd (true≢false (sym e))
sized StringFixed c r e = sized_line c r e
sized StringFixedFree c r e = sized_line c r e
sized StringFree c r e = sized_line c r e
sized Bar c r e = sized_line c r e
sized MembraneRectangular c r e = sized_grid c r e
sized MembraneRound c r e = sized_square c r e
sized Plate c r e = sized_grid c r e

-- ---- how many points stand beside one

at_most_one : (b : Bool) (j : ℕ) → length (only b j) ≤ 1
unfolding only
at_most_one true j = omega arith
at_most_one false j = omega arith

none : (a b j : ℕ) → b ≤ a → length (only (ltb a b) j) ≡ 0
unfolding only
none a b j h = ap (λ (t : Bool). length (only t j)) (le-ltb a b h)

module _ (g : Grid) (i : ℕ) where
  abbrev left : List ℕ
  left = only (ltb 0 (column g i)) (i - 1)

  abbrev right : List ℕ
  right = only (ltb (column g i + 1) g.columns) (i + 1)

  abbrev above : List ℕ
  above = only (ltb 0 (row g i)) (i - g.columns)

  abbrev below : List ℕ
  below = only (ltb (row g i + 1) g.rows) (i + g.columns)

  count : length (beside g i) ≡ length left + (length right + (length above + length below))
  unfolding beside
  count = simp length-append

  in_row : length left + length right ≤ 2
  in_row = omega (arith, at_most_one (ltb 0 (column g i)) (i - 1), at_most_one (ltb (column g i + 1) g.columns) (i + 1))

  grid-degree : free_end g i ≡ false → 2 * length (beside g i) ≤ 4 * weight g i
  unfolding weight
  grid-degree e = omega (
    arith,
    count,
    in_row,
    at_most_one (ltb 0 (row g i)) (i - g.columns),
    at_most_one (ltb (row g i + 1) g.rows) (i + g.columns),
    ap (λ (t : Bool). cond {A = ℕ} t 1 2) e,
  )

  module _ (line : g.rows ≡ 1) (p : i < points g) where
    short : i < g.columns
    short = subst (λ (n : ℕ). i < n) (ap (λ (n : ℕ). g.columns * n) line ∙ N.mul-one g.columns) p

    along : length (beside g i) ≡ length left + length right
    along = omega (
      arith,
      count,
      none 0 (row g i) (i - g.columns) (omega (arith, N.div-eq_of_lt short)),
      none (row g i + 1) g.rows (i + g.columns) (omega (arith, N.div-eq_of_lt short)),
    )

    first_one : column g i ≡ 0 → length (beside g i) ≤ 1
    first_one e = omega (arith, along, none 0 (column g i) (i - 1) (omega arith), at_most_one (ltb (column g i + 1) g.columns) (i + 1))

    last_one : column g i + 1 ≡ g.columns → length (beside g i) ≤ 1
    last_one e = omega (arith, along, at_most_one (ltb 0 (column g i)) (i - 1), none (column g i + 1) g.columns (i + 1) (omega arith))

    edge_one : at_edge g.columns (column g i) ≡ true → length (beside g i) ≤ 1
    edge_one e = go (eqb (column g i) 0) refl e
      where
        go : (b : Bool) → eqb (column g i) 0 ≡ b → (b || eqb (column g i + 1) g.columns) ≡ true → length (beside g i) ≤ 1
        go true q e = first_one (eqb-true (column g i) 0 q)
        go false q e = last_one (eqb-true (column g i + 1) g.columns e)

    -- a free end has one neighbour
    free_one : (K : Kind) → free_in K g.columns (column g i) ≡ true → length (beside g i) ≤ 1
    unfolding free_in
    free_one Unknown e = absurd (true≢false (sym e))
    free_one StringFixed e = absurd (true≢false (sym e))
    free_one StringFixedFree e = last_one (eqb-true (column g i + 1) g.columns e)
    free_one StringFree e = edge_one e
    free_one Bar e = absurd (true≢false (sym e))
    free_one MembraneRectangular e = absurd (true≢false (sym e))
    free_one MembraneRound e = absurd (true≢false (sym e))
    free_one Plate e = absurd (true≢false (sym e))

    line-degree : 2 * length (beside g i) ≤ 2 * weight g i
    unfolding weight
    line-degree = go (free_end g i) refl
      where
        go : (b : Bool) → free_end g i ≡ b → 2 * length (beside g i) ≤ 2 * cond {A = ℕ} b 1 2
        go true e = omega (arith, free_one (kind g) e)
        go false e = omega (arith, along, in_row)

  pub few : i < points g → (K : Kind) → kind g ≡ K → size_in K g.columns g.rows ≡ true → 2 * length (beside g i) ≤ degree K
      * weight g i
  unfolding size_in free_in
  few p Unknown k e = absurd (true≢false (sym e))
  few p StringFixed k e = line-degree (one_row g.columns g.rows e) p
  few p StringFixedFree k e = line-degree (one_row g.columns g.rows e) p
  few p StringFree k e = line-degree (one_row g.columns g.rows e) p
  few p Bar k e = line-degree (one_row g.columns g.rows e) p
  few p MembraneRectangular k e = grid-degree (ap (λ (K : Kind). free_in K g.columns (column g i)) k)
  few p MembraneRound k e = grid-degree (ap (λ (K : Kind). free_in K g.columns (column g i)) k)
  few p Plate k e = grid-degree (ap (λ (K : Kind). free_in K g.columns (column g i)) k)

-- ---- stability

soft : (n m q : ℕ) → (leb (n * q) D && eqb m 0) ≡ true → (n * q ≤ D) × (m ≡ 0)
soft n m q e = let u = and_both (leb (n * q) D) (eqb m 0) e in (leb-true (n * q) D u.0, eqb-true m 0 u.1)

string : (q m : ℕ) → (leb q D && eqb m 0) ≡ true → (q ≤ D) × (m ≡ 0)
string q m e = let u = and_both (leb q D) (eqb m 0) e in (leb-true q D u.0, eqb-true m 0 u.1)

-- "Stable means", with the degree g: g·q + 2g²·m ≤ 2D
pub stable_means : (K : Kind) (q m : ℕ) → stable_in K q m ≡ true → degree K * q + 2 * (degree K * degree K) * m ≤ 2 * D
unfolding stable_in
stable_means Unknown q m e = absurd (true≢false (sym e))
stable_means StringFixed q m e = let u = string q m e in omega arith
stable_means StringFixedFree q m e = let u = string q m e in omega arith
stable_means StringFree q m e = let u = string q m e in omega arith
stable_means Bar q m e = omega (arith, leb-true (q + 4 * m) D e)
stable_means MembraneRectangular q m e = let u = soft 2 m q e in omega arith
stable_means MembraneRound q m e = let u = soft 2 m q e in omega arith
stable_means Plate q m e = omega (arith, leb-true (2 * q + 16 * m) D e)

-- where there is stiffness no end is free
pub stiff-held : (K : Kind) (q m : ℕ) → stable_in K q m ≡ true → (m ≡ 0) ⊎ ((c a : ℕ) → free_in K c a ≡ false)
unfolding stable_in free_in
stiff-held Unknown q m e = absurd (true≢false (sym e))
stiff-held StringFixed q m e = inl (string q m e).1
stiff-held StringFixedFree q m e = inl (string q m e).1
stiff-held StringFree q m e = inl (string q m e).1
stiff-held Bar q m e = inr (λ c a. refl)
stiff-held MembraneRectangular q m e = inl (soft 2 m q e).1
stiff-held MembraneRound q m e = inl (soft 2 m q e).1
stiff-held Plate q m e = inr (λ c a. refl)
