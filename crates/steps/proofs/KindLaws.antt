-- Where moving points stand on a line and on a grid, and which instruments are stiff: by cases of the kind.
use mathlib.Core.Path.{◌≡◌, refl, sym, ap, ◌∙◌, subst}
use mathlib.Core.Bool.{Bool, true, false, cond, not, ◌&&◌, ◌||◌, or-true, true≢false}
use mathlib.Core.Logic.{◌⊎◌, inl, inr}
use Prim.Native.Nat.{ℕ, ◌+◌, ◌*◌, ◌≤◌, ◌<◌}
use native.Mathlib.Nat as N
use native.Mathlib.Omega.{arith}
use borrow.Author.Tests.{eqb-true, eqb-false, eq-eqb, ne_eqb, not-true}
use lib.Dec.{T, leb, ltb, eqb}
use lib.IntN.{pos, ◌+ℤ◌, ◌-ℤ◌}
use Rattle.integers.proofs.Ring.{#◌, ◌⊕◌, ◌⊖◌, ◌⊗◌, ◌≈◌, ring}
use Rattle.integers.proofs.Order.{◌⩽◌, square_nonneg, ≡-≤ℤ}
use Rattle.integers.proofs.Lin.{◌*≤◌, ◌⊴◌, ◌⇒◌, ⊩◌, lin}
use Rattle.types.specs.declared.Grid.{Grid}
use Rattle.types.specs.declared.Instrument.{Instrument}
use Rattle.types.specs.Numbers.{D}
use Rattle.scheme.specs.Lists.{square}
use Rattle.types.specs.declared.Kind.{Kind}
use Rattle.types.specs.declared.Kind.TheVariants.{Unknown, StringFixed, StringFixedFree, StringFree, Bar, MembraneRectangular}
use Rattle.types.specs.declared.Kind.TheVariants.{MembraneRound, Plate}
use Rattle.scheme.specs.Instruments.{kind, points, column, row, within, line_size, grid_size, size_in, stable_in, at_edge, outer_ring}
use Rattle.scheme.specs.Instruments.{in_table, off_centre, round_edge, fixed_in, fixed, moving, free_in, free_end}
use Rattle.scheme.proofs.Laws.Bools.{and_both, or_neither}
use Rattle.scheme.proofs.Laws.Kinds.{degree, within_is, sized}
use Rattle.scheme.proofs.Laws.Step.{moving_inside}
use Rattle.scheme.specs.Passing.{InstrumentPasses}
use Rattle.plans.specs.Plans.{count_of}

-- ---- edges

-- the first or the last of n
abbrev pub Edge : ℕ → ℕ → Type 0
Edge n a = (a ≡ 0) ⊎ (a + 1 ≡ n)

pub at_edge_lem : (n a : ℕ) → Edge n a → at_edge n a ≡ true
at_edge_lem n a (inl h) = ap (λ (t : Bool). t || eqb (a + 1) n) (eq-eqb a 0 h)
at_edge_lem n a (inr h) = ap (λ (t : Bool). eqb a 0 || t) (eq-eqb (a + 1) n h) ∙ or-true (eqb a 0)

off-edge : (n a : ℕ) → at_edge n a ≡ false → Edge n a → ⊥
off-edge n a e o = true≢false (sym (at_edge_lem n a o) ∙ e)

inner : (n a : ℕ) → a < n → (Edge n a → ⊥) → (0 < a) × (a + 1 < n)
inner n a h off =
    let first : a ≡ 0 → ⊥ = λ e. off (inl e) in
    let last : a + 1 ≡ n → ⊥ = λ e. off (inr e) in
    (omega (arith, first), omega (arith, last, h))

-- a point at the edge lies as far from the centre as the circle
edge-square : (n a : ℕ) → Edge n a → square (pos n -ℤ pos 1) ≡ square (off_centre n a)
edge-square n a (inl h) =
    ring 1 (λ n. (n ⊖ # 1) ⊗ (n ⊖ # 1) ≈ (# 0 ⊖ n ⊕ # 1) ⊗ (# 0 ⊖ n ⊕ # 1)) refl (pos n) ∙
    ap (λ (a : ℕ). square (off_centre n a)) (sym h)
edge-square n a (inr h) =
    ap (λ (n : ℕ). square (pos n -ℤ pos 1)) (sym h) ∙
    ring 1 (λ a. (a ⊕ # 1 ⊖ # 1) ⊗ (a ⊕ # 1 ⊖ # 1) ≈ (# 2 ⊗ a ⊖ (a ⊕ # 1) ⊕ # 1) ⊗ (# 2 ⊗ a ⊖ (a ⊕ # 1) ⊕ # 1)) refl (pos a) ∙
    ap (λ (n : ℕ). square (off_centre n a)) h

-- no point inside the circle is at an edge
module _ (n a b : ℕ) (e : round_edge n a b ≡ false) where
  inside : square (pos n -ℤ pos 1) ⩽ square (off_centre n a) +ℤ square (off_centre n b) → ⊥
  unfolding round_edge
  inside h = subst T e h.le

  round_column : Edge n a → ⊥
  round_column o =
      inside (≡-≤ℤ (edge-square n a o)
      (lin 2 (λ x y. 1 *≤ # 0 ⊴ y ⇒ ⊩ x ⊴ x ⊕ y) refl (square (off_centre n a)) (square (off_centre n b)) (square_nonneg (off_centre n b))))

  round_row : Edge n b → ⊥
  round_row o =
      inside (≡-≤ℤ (edge-square n b o)
      (lin 2 (λ x y. 1 *≤ # 0 ⊴ x ⇒ ⊩ y ⊴ x ⊕ y) refl (square (off_centre n a)) (square (off_centre n b)) (square_nonneg (off_centre n a))))

-- ---- by cases of the kind

-- the second of two tests is an equation
second_equal : (t : Bool) (a b : ℕ) → (t && eqb a b) ≡ true → a ≡ b
second_equal t a b e = eqb-true a b (and_both t (eqb a b) e).1

-- stiffness is a bar's or a plate's alone
stiff-kind : (K : Kind) (q m : ℕ) → stable_in K q m ≡ true → (m ≡ 0) ⊎ ((K ≡ Bar) ⊎ (K ≡ Plate))
unfolding stable_in
stiff-kind Unknown q m e = absurd (true≢false (sym e))
stiff-kind StringFixed q m e = inl (second_equal (leb q D) m 0 e)
stiff-kind StringFixedFree q m e = inl (second_equal (leb q D) m 0 e)
stiff-kind StringFree q m e = inl (second_equal (leb q D) m 0 e)
stiff-kind Bar q m e = inr (inl refl)
stiff-kind MembraneRectangular q m e = inl (second_equal (leb (2 * q) D) m 0 e)
stiff-kind MembraneRound q m e = inl (second_equal (leb (2 * q) D) m 0 e)
stiff-kind Plate q m e = inr (inr refl)

module _ (c r : ℕ) where
  -- membranes and plates have three rows or more
  grid_rows : grid_size c r ≡ true → 3 ≤ r
  grid_rows s = (within_is 3 64 r (and_both (within 3 64 c) (within 3 64 r) s).1).0

  round_rows : (within 3 64 c && eqb r c) ≡ true → 3 ≤ r
  round_rows s = omega (arith, second_equal (within 3 64 c) r c s, (within_is 3 64 c (and_both (within 3 64 c) (eqb r c) s).0).0)

  -- a moving end of a line is free
  end_free : (K : Kind) (a b : ℕ) → size_in K c r ≡ true → r ≡ 1 → fixed_in K c r a b ≡ false → Edge c a → free_in K c a ≡ true
  unfolding fixed_in free_in size_in
  end_free Unknown a b s l e o = absurd (true≢false (sym s))
  end_free StringFixed a b s l e o = absurd (off-edge c a e o)
  end_free StringFixedFree a b s l e (inl h) = absurd (eqb-false a 0 e h)
  end_free StringFixedFree a b s l e (inr h) = eq-eqb (a + 1) c h
  end_free StringFree a b s l e o = at_edge_lem c a o
  end_free Bar a b s l e o = absurd (off-edge c a e o)
  end_free MembraneRectangular a b s l e o = absurd (omega (arith, grid_rows s))
  end_free MembraneRound a b s l e o = absurd (omega (arith, round_rows s))
  end_free Plate a b s l e o = absurd (omega (arith, grid_rows s))

  line_rows : line_size c r ≡ true → r ≡ 1
  line_rows s = second_equal (within 3 1024 c) r 1 s

  two : r ≡ 1 → cond {A = ℕ} (eqb r 1) 2 4 ≡ 2
  two e = ap (λ (t : Bool). cond {A = ℕ} t 2 4) (eq-eqb r 1 e)

  four : 3 ≤ r → cond {A = ℕ} (eqb r 1) 2 4 ≡ 4
  four h = ap (λ (t : Bool). cond {A = ℕ} t 2 4) (ne_eqb r 1 (λ e. omega arith))

  -- where a kind has more rows than one, no end is free, and each point at the edge is fixed
  grid-held : (K : Kind) (a : ℕ) → size_in K c r ≡ true → (r ≡ 1 → ⊥) → free_in K c a ≡ false
  unfolding free_in size_in
  grid-held Unknown a s n = refl
  grid-held StringFixed a s n = refl
  grid-held StringFixedFree a s n = absurd (n (line_rows s))
  grid-held StringFree a s n = absurd (n (line_rows s))
  grid-held Bar a s n = refl
  grid-held MembraneRectangular a s n = refl
  grid-held MembraneRound a s n = refl
  grid-held Plate a s n = refl

  -- "two neighbours, or four": by the rows, and by the kind
  count_in : (K : Kind) → size_in K c r ≡ true → cond (eqb r 1) 2 4 ≡ degree K
  unfolding size_in
  count_in Unknown s = absurd (true≢false (sym s))
  count_in StringFixed s = two (line_rows s)
  count_in StringFixedFree s = two (line_rows s)
  count_in StringFree s = two (line_rows s)
  count_in Bar s = two (line_rows s)
  count_in MembraneRectangular s = four (grid_rows s)
  count_in MembraneRound s = four (round_rows s)
  count_in Plate s = four (grid_rows s)

  off_ring : (a b : ℕ) → outer_ring c r a b ≡ false → (Edge c a → ⊥) × (Edge r b → ⊥)
  off_ring a b e = let u = or_neither (at_edge c a) (at_edge r b) e in (off-edge c a u.0, off-edge r b u.1)

  grid_edges : (K : Kind) (a b : ℕ) → size_in K c r ≡ true → (r ≡ 1 → ⊥) → fixed_in K c r a b ≡ false → (Edge c a → ⊥) × (Edge r b → ⊥)
  unfolding fixed_in size_in
  grid_edges Unknown a b s n e = absurd (true≢false (sym s))
  grid_edges StringFixed a b s n e = absurd (n (line_rows s))
  grid_edges StringFixedFree a b s n e = absurd (n (line_rows s))
  grid_edges StringFree a b s n e = absurd (n (line_rows s))
  grid_edges Bar a b s n e = absurd (n (line_rows s))
  grid_edges MembraneRectangular a b s n e = off_ring a b e
  grid_edges MembraneRound a b s n e =
      (round_column c a b e, subst (λ (n : ℕ). Edge n b → ⊥) (sym (second_equal (within 3 64 c) r c s)) (round_row c a b e))
  grid_edges Plate a b s n e = off_ring a b e

  bar_line : (K : Kind) → K ≡ Bar → size_in K c r ≡ true → r ≡ 1
  unfolding size_in
  bar_line K e s = line_rows (subst (λ (K : Kind). size_in K c r ≡ true) e s)

  plate_in : (K : Kind) → K ≡ Plate → size_in K c r ≡ true → (c ≤ 64) × (3 ≤ r)
  unfolding size_in
  plate_in K e s =
      let t = subst (λ (K : Kind). size_in K c r ≡ true) e s in
      ((within_is 3 64 c (and_both (within 3 64 c) (within 3 64 r) t).0).1, grid_rows t)

-- ---- moving points

moves_free : (g : Grid) (k : ℕ) → moving g k ≡ true → fixed g k ≡ false
unfolding moving
moves_free g k m = not-true (fixed g k) (and_both (ltb k (points g)) (not (fixed g k)) m).1

-- on a line there are as many points as columns
pub line_long : (g : Grid) → g.rows ≡ 1 → points g ≡ g.columns
line_long g e = ap (λ (n : ℕ). g.columns * n) e ∙ N.mul-one g.columns

module _ (g : Grid) (size : in_table g ≡ true) where
  pub wide : 3 ≤ g.columns
  wide = (sized (kind g) g.columns g.rows size).columns_low

  pub count-degree : count_of g ≡ degree (kind g)
  count-degree = count_in g.columns g.rows (kind g) size

  pub plate_sized : kind g ≡ Plate → (g.columns ≤ 64) × (3 ≤ g.rows)
  plate_sized e = plate_in g.columns g.rows (kind g) e size

  module _ (line : g.rows ≡ 1) (k : ℕ) (m : moving g k ≡ true) where
    pub line_in : k < g.columns
    line_in = subst (λ (n : ℕ). k < n) (line_long g line) (moving_inside g k m)

    line-column : column g k ≡ k
    line-column = N.mod-eq_of_lt line_in

    pub line_free : Edge g.columns k → free_end g k ≡ true
    line_free o =
        end_free g.columns g.rows (kind g) (column g k) (row g k) size line (moves_free g k m)
        (subst (Edge g.columns) (sym line-column) o)

    -- a bar's ends do not move
    pub bar_inner : kind g ≡ Bar → (0 < k) × (k + 1 < g.columns)
    unfolding fixed_in
    bar_inner is_bar =
        let held = subst (λ (K : Kind). fixed_in K g.columns g.rows (column g k) (row g k) ≡ false) is_bar (moves_free g k m) in
        inner g.columns k line_in (subst (λ (j : ℕ). Edge g.columns j → ⊥) line-column (off-edge g.columns (column g k) held))

  module _ (grid : g.rows ≡ 1 → ⊥) where
    pub grid_free : (k : ℕ) → free_end g k ≡ false
    grid_free k = grid-held g.columns g.rows (kind g) (column g k) size grid

    pub grid_in : (k : ℕ) → moving g k ≡ true → (0 < column g k) × (column g k + 1 < g.columns) × (0 < row g k) × (row g k + 1 < g.rows)
    grid_in k m =
        let some : 0 < g.columns = omega (arith, wide) in
        let edges = grid_edges g.columns g.rows (kind g) (column g k) (row g k) size grid (moves_free g k m) in
        let across = inner g.columns (column g k) (N.mod-lt k some) edges.0 in
        let down = inner g.rows (row g k) ((N.div-lt_iff_lt-mul some).1
        (subst (λ (n : ℕ). k < n) (N.mul_comm g.columns g.rows) (moving_inside g k m))) edges.1 in
        (across.0, across.1, down.0, down.1)

-- ---- stiffness: of lines only a bar's, of grids only a plate's

module _ (i : Instrument) (ok : InstrumentPasses i) where
  abbrev stiffly : Type 0
  stiffly = (i.settings.m ≡ 0) ⊎ ((kind i.grid ≡ Bar) ⊎ (kind i.grid ≡ Plate))

  stiff : stiffly
  stiff = stiff-kind (kind i.grid) i.settings.q i.settings.m ok.stable

  pub line-stiff : i.grid.rows ≡ 1 → (i.settings.m ≡ 0) ⊎ (kind i.grid ≡ Bar)
  line-stiff line = go stiff
    where
      go : stiffly → (i.settings.m ≡ 0) ⊎ (kind i.grid ≡ Bar)
      go (inl e) = inl e
      go (inr (inl e)) = inr e
      go (inr (inr e)) = absurd (omega (arith, plate_sized i.grid ok.size e))

  pub grid-stiff : (i.grid.rows ≡ 1 → ⊥) → (i.settings.m ≡ 0 → ⊥) → kind i.grid ≡ Plate
  grid-stiff grid n = go stiff
    where
      go : stiffly → kind i.grid ≡ Plate
      go (inl e) = absurd (n e)
      go (inr (inl e)) = absurd (grid (bar_line i.grid.columns i.grid.rows (kind i.grid) e ok.size))
      go (inr (inr e)) = e
