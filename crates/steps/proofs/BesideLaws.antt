-- The neighbours that each loop reads are those of the neighbour rule.
use mathlib.Core.Path.{◌≡◌, refl, sym, ap, ◌∙◌, subst}
use mathlib.Core.Bool.{true}
use mathlib.Core.List.{List, [], ◌∷◌}
use mathlib.Core.Logic.{◌⊎◌, inl, inr}
use Prim.Native.Nat.{ℕ, ◌+◌, ◌-◌, ◌*◌, ◌≤◌, ◌<◌, zero-le}
use native.Mathlib.Decide.{ℕ_discrete}
use native.Mathlib.Omega.{arith}
use lib.IntN.{ℤ, pos, ◌+ℤ◌, ◌*ℤ◌, zero-*ℤ}
use lib.ListN.{length}
use Rattle.integers.specs.Sum.{sum_over}
use Rattle.integers.proofs.Ring.{#◌, ◌⊕◌, ◌≈◌, ring}
use Rattle.bounded.proofs.Expr.{E, at, via, ◌⊞◌, size}
use Rattle.types.specs.declared.Grid.{Grid}
use Rattle.types.specs.declared.Instrument.{Instrument}
use Rattle.types.specs.Numbers.{ceiling}
use Rattle.scheme.specs.Lists.{point}
use Rattle.types.specs.declared.Kind.TheVariants.{Bar}
use Rattle.scheme.specs.Instruments.{kind, points, in_table, moving}
use Rattle.scheme.specs.Step.{neighbours, biharmonic}
use Rattle.scheme.specs.Passing.{InstrumentPasses}
use Rattle.scheme.proofs.Laws.Neighbours.{line-inner, line_first, line_last, grid-inner, grid-above, grid-below}
use Rattle.plans.specs.Plans.{count_of}
use Rattle.plans.proofs.PlanLaws.{two_of, four_of}
use Rattle.steps.specs.Plan.{AtMost, Neighbouring}
use Rattle.steps.specs.Run.{Moves, OnLine, FreeEnd, two_beside, four_beside}
use Rattle.steps.proofs.KindLaws.{Edge, line_long, wide, line-stiff, line_in, line_free, bar_inner}
use Rattle.steps.proofs.KindLaws.{grid_free, grid_in}
use Rattle.stretches.specs.Stretches.{clamp}
use Rattle.stretches.proofs.StretchLaws.{clamp-before, clamp_inside, clamp-after}

-- ---- points as the machine reads them, and the sum of those on either side of one as it adds them

module _ (xs : List ℤ) (low : AtMost ceiling (point xs)) where
  abbrev pub at# : ℕ → E
  at# k = at (point xs k) ceiling (low k)

  abbrev pub beside# : ℕ → E
  beside# k = at# (k - 1) ⊞ at# (k + 1)

  -- that sum, as a function answered it
  abbrev pub two# : (k : ℕ) {r : ℤ} → r ≡ two_beside xs k → E
  two# k {r} e = via {r = r} {z = two_beside xs k} {B = 2 * ceiling} (record { is = e; size = size (beside# k) tt })

-- ---- the sum over two and over four neighbours

pub sum-two : (a : ℕ → ℤ) (j k : ℕ) → a j +ℤ a k ≡ sum_over (j ∷ k ∷ []) a
unfolding sum_over
sum-two a j k = ring 2 (λ x y. x ⊕ y ≈ x ⊕ (y ⊕ # 0)) refl (a j) (a k)

pub sum_four : (a : ℕ → ℤ) (j k l m : ℕ) → a j +ℤ a k +ℤ a l +ℤ a m ≡ sum_over (j ∷ k ∷ l ∷ m ∷ []) a
unfolding sum_over
sum_four a j k l m = ring 4 (λ x y z w. x ⊕ y ⊕ z ⊕ w ≈ x ⊕ (y ⊕ (z ⊕ (w ⊕ # 0)))) refl (a j) (a k) (a l) (a m)

-- a moving point of a grid has four
module _ (g : Grid) (size : in_table g ≡ true) (grid : g.rows ≡ 1 → ⊥) (k : ℕ) (mk : moving g k ≡ true) where
  pub around_neighbours : neighbours g k ≡ (k - 1) ∷ (k + 1) ∷ (k - g.columns) ∷ (k + g.columns) ∷ []
  around_neighbours = let n = grid_in g size grid k mk in grid-inner g k (grid_free g size grid k) n.0 n.1 n.2 n.3

  -- all of them in the grid
  pub around_above : g.columns ≤ k
  around_above = grid-above g k (grid_in g size grid k mk).2

  pub around_below : k + g.columns < points g
  around_below = let n = grid_in g size grid k mk in grid-below g k n.1 n.3

module _ (g : Grid) (size : in_table g ≡ true) where
  -- a moving end of a line has one, twice
  pub end-first : g.rows ≡ 1 → (k : ℕ) → moving g k ≡ true → k ≡ 0 → neighbours g k ≡ (k + 1) ∷ (k + 1) ∷ []
  end-first line k mk e =
      line_first g k line (omega (arith, wide g size)) e (omega (arith, wide g size)) (line_free g size line k mk (inl e))

  pub end_last : g.rows ≡ 1 → (k : ℕ) → moving g k ≡ true → k + 1 ≡ g.columns → neighbours g k ≡ (k - 1) ∷ (k - 1) ∷ []
  end_last line k mk e = line_last g k line (omega arith) e (omega (arith, wide g size)) (line_free g size line k mk (inr e))

  -- "two neighbours, or four"
  pub count_is : (k : ℕ) → moving g k ≡ true → length (neighbours g k) ≡ count_of g
  count_is k mk = go (ℕ_discrete g.rows 1)
    where
      counted : (js : List ℕ) (n : ℕ) → neighbours g k ≡ js → length js ≡ n → count_of g ≡ n → length (neighbours g k) ≡ count_of g
      counted js n e l c = ap length e ∙ l ∙ sym c

      on_line : g.rows ≡ 1 → Dec (k ≡ 0) → Dec (k + 1 ≡ g.columns) → length (neighbours g k) ≡ count_of g
      on_line line (yes e) t = counted _ 2 (end-first line k mk e) refl (two_of g line)
      on_line line (no a) (yes e) = counted _ 2 (end_last line k mk e) refl (two_of g line)
      on_line line (no a) (no b) =
          let h = line_in g size line k mk in
          counted _ 2 (line-inner g k line h (omega (arith, a)) (omega (arith, b))) refl (two_of g line)

      go : Dec (g.rows ≡ 1) → length (neighbours g k) ≡ count_of g
      go (yes line) = on_line line (ℕ_discrete k 0) (ℕ_discrete (k + 1) g.columns)
      go (no grid) = counted _ 4 (around_neighbours g size grid k mk) refl (four_of g grid)

module _ (i : Instrument) (ok : InstrumentPasses i) where
  abbrev g : Grid
  g = i.grid

  abbrev m : ℕ
  m = i.settings.m

  -- where L of L counts on a line, the kind is a bar
  pub is_bar : g.rows ≡ 1 → (m ≡ 0 → ⊥) → kind g ≡ Bar
  is_bar line n = go (line-stiff i ok line)
    where
      go : (m ≡ 0) ⊎ (kind g ≡ Bar) → kind g ≡ Bar
      go (inl e) = absurd (n e)
      go (inr e) = e

  -- neighbours, without stiffness
  soft_beside : (newer : List ℤ) (k : ℕ) (sum : ℤ) (js : List ℕ) → moving g k ≡ true → m ≡ 0 → neighbours g k ≡ js
      → sum ≡ sum_over js (point newer) → Neighbouring i newer k sum (pos 0)
  soft_beside newer k sum js mk soft e s = record {
    moves = mk;
    sum_is = s ∙ ap (λ (js : List ℕ). sum_over js (point newer)) (sym e);
    stiff_is = sym (ap (λ (m : ℕ). pos m *ℤ biharmonic g (point newer) k) soft ∙ zero-*ℤ (biharmonic g (point newer) k));
  }

  -- ---- a line

  -- an inner point, without stiffness
  pub line-beside : {from to : ℕ} → OnLine g from to → m ≡ 0 → (newer : List ℤ) (k : ℕ) → from ≤ k → k < to
      → Neighbouring i newer k (two_beside newer k) (pos 0)
  line-beside on soft newer k first last =
      soft_beside newer k _ _ (on.each k first last) soft
      (line-inner g k on.line (omega (arith, on.last)) (omega (arith, on.first)) (omega (arith, on.last)))
      (sum-two (point newer) (k - 1) (k + 1))

  -- ---- its ends

  module _ (line : g.rows ≡ 1) {from to : ℕ} (all : Moves g from to) (some : from < to) where
    -- a moving end is no bar's
    end_soft : (k : ℕ) → moving g k ≡ true → Edge g.columns k → m ≡ 0
    end_soft k mk o = go (line-stiff i ok line) o
      where
        go : (m ≡ 0) ⊎ (kind g ≡ Bar) → Edge g.columns k → m ≡ 0
        go (inl e) p = e
        go (inr b) (inl h) = absurd (omega (arith, bar_inner g ok.size line k mk b))
        go (inr b) (inr h) = absurd (omega (arith, bar_inner g ok.size line k mk b))

    -- the range ends within the line
    pub within-line : to ≤ g.columns
    within-line = omega (arith, line_in g ok.size line (to - 1) (all.each (to - 1) (omega arith) (omega arith)))

    no_end : (near a : ℕ) → near < g.columns → FreeEnd i near a a
    no_end near a h = record {
      one = omega arith;
      inside = omega (arith, line_long g line);
      there = λ l. absurd (omega arith);
      twice = λ l. absurd (omega arith);
      soft = λ l. absurd (omega arith);
    }

    pub first_free : FreeEnd i 1 (clamp from to 0) (clamp from to 1)
    first_free = subst (λ (a : ℕ). FreeEnd i 1 a (clamp from to 1)) (sym (clamp-before from to (omega arith) 0 zero-le))
        (go (ℕ_discrete from 0))
      where
        go : Dec (from ≡ 0) → FreeEnd i 1 from (clamp from to 1)
        go (no n) = subst (FreeEnd i 1 from) (sym (clamp-before from to (omega arith) 1 (omega arith)))
            (no_end 1 from (omega (arith, wide g ok.size)))
        go (yes e) =
            let moves : moving g from ≡ true = all.each from (omega arith) some in
            subst (FreeEnd i 1 from) (sym (clamp_inside from to (omega arith) 1 (omega arith) (omega arith)))
            (record {
              one = omega arith;
              inside = omega (arith, line_long g line, wide g ok.size);
              there = λ l. moves;
              twice = λ l. end-first g ok.size line from moves e ∙ ap (λ (j : ℕ). j ∷ j ∷ []) (omega arith);
              soft = λ l. end_soft from moves (inl e);
            })

    pub last_free : (n : ℕ) → n ≡ g.columns → FreeEnd i (n - 2) (clamp from to (n - 1)) (clamp from to n)
    last_free n long = subst (FreeEnd i (n - 2) (clamp from to (n - 1)))
        (sym (clamp-after from to (omega arith) n (omega (arith, within-line)))) (go (ℕ_discrete to n))
      where
        go : Dec (to ≡ n) → FreeEnd i (n - 2) (clamp from to (n - 1)) to
        go (no d) =
            subst (λ (a : ℕ). FreeEnd i (n - 2) a to) (sym (clamp-after from to (omega arith) (n - 1) (omega (arith, within-line))))
            (no_end (n - 2) to (omega (arith, wide g ok.size)))
        go (yes e) =
            let end : n - 1 + 1 ≡ g.columns = omega (arith, wide g ok.size) in
            let moves : moving g (n - 1) ≡ true = all.each (n - 1) (omega arith) (omega arith) in
            subst (λ (a : ℕ). FreeEnd i (n - 2) a to) (sym (clamp_inside from to (omega arith) (n - 1) (omega arith) (omega arith)))
            (record {
              one = omega arith;
              inside = omega (arith, line_long g line, wide g ok.size);
              there = λ l. moves;
              twice = λ l. end_last g ok.size line (n - 1) moves end ∙ ap (λ (j : ℕ). j ∷ j ∷ []) (omega arith);
              soft = λ l. end_soft (n - 1) moves (inr end);
            })

  -- the one neighbour of a free end, twice
  pub end-beside : (newer : List ℤ) {near from to : ℕ} → FreeEnd i near from to → from < to
      → Neighbouring i newer from (point newer near +ℤ point newer near) (pos 0)
  end-beside newer {near} {from} e h =
      soft_beside newer from _ (near ∷ near ∷ []) (e.there h) (e.soft h) (e.twice h) (sum-two (point newer) near near)

  -- ---- a grid

  pub grid-beside : (g.rows ≡ 1 → ⊥) → m ≡ 0 → (newer : List ℤ) (k : ℕ) → moving g k ≡ true
      → Neighbouring i newer k (four_beside newer g.columns k) (pos 0)
  grid-beside grid soft newer k mk =
      soft_beside newer k _ _ mk soft (around_neighbours g ok.size grid k mk)
      (sum_four (point newer) (k - 1) (k + 1) (k - g.columns) (k + g.columns))
