-- The sums along a bar, before, here and after a point.
use mathlib.Core.Path.{◌≡◌, refl, sym, ap, ◌∙◌}
use mathlib.Core.Bool.{Bool, true, false, not, ◌&&◌, cond}
use mathlib.Core.List.{List}
use Prim.Native.Nat.{ℕ, ◌+◌, ◌-◌, ◌*◌, ◌≤◌, ◌<◌, zero-le}
use native.Mathlib.Nat as N
use native.Mathlib.Omega.{arith}
use borrow.Author.Tests.{eqb-false, ne_eqb, lt-ltb}
use lib.Dec.{eqb}
use lib.IntN.{ℤ, pos, nat_abs, ◌+ℤ◌}
use lib.ListN.{length}
use Rattle.integers.specs.Sum.{sum_over}
use Rattle.bounded.proofs.Expr.{E, via, size}
use Rattle.types.specs.declared.Grid.{Grid}
use Rattle.types.specs.Numbers.{ceiling}
use Rattle.scheme.specs.Lists.{point}
use Rattle.types.specs.declared.Kind.{Kind}
use Rattle.types.specs.declared.Kind.TheVariants.{Bar}
use Rattle.scheme.specs.Instruments.{kind, points, column, row, at_edge, fixed_in, fixed, moving}
use Rattle.scheme.specs.Step.{neighbours}
use Rattle.scheme.proofs.Laws.Bools.{or_neither, neither_or}
use Rattle.scheme.proofs.Laws.Neighbours.{line-inner}
use Rattle.steps.specs.Plan.{AtMost, inner_sum, Summed}
use Rattle.steps.specs.Run.{OnLine, two_beside, bar_sum}
use Rattle.steps.proofs.KindLaws.{line_long}
use Rattle.steps.proofs.BesideLaws.{beside#, sum-two}

-- ---- how large they are

module _ (xs : List ℤ) (low : AtMost ceiling (point xs)) where
  pub bar_low : (k : ℕ) → nat_abs (bar_sum xs k) ≤ 2 * ceiling
  bar_low k = go (at_edge (length xs) k)
    where
      go : (t : Bool) → nat_abs (cond t (pos 0) (two_beside xs k)) ≤ 2 * ceiling
      go true = zero-le
      go false = size (beside# xs low k) tt

  -- a sum as the machine has it
  abbrev pub bar# : (k : ℕ) {r : ℤ} → r ≡ bar_sum xs k → E
  bar# k {r} e = via {r = r} {z = bar_sum xs k} {B = 2 * ceiling} (record { is = e; size = bar_low k })

-- between the ends
pub bar_between : (xs : List ℤ) (k : ℕ) → 0 < k → k + 1 < length xs → bar_sum xs k ≡ two_beside xs k
bar_between xs k h l =
    ap (λ (t : Bool). cond t (pos 0) (two_beside xs k))
    (neither_or (ne_eqb k 0 (λ e. omega arith)) (ne_eqb (k + 1) (length xs) (λ e. omega arith)))

-- ---- they are the neighbour rule's

module _ (g : Grid) (line : g.rows ≡ 1) (is_bar : kind g ≡ Bar) (xs : List ℤ) (long : length xs ≡ points g) where
  as_columns : length xs ≡ g.columns
  as_columns = long ∙ line_long g line

  -- all but the ends move
  bar_moving : (k : ℕ) → k < g.columns → moving g k ≡ not (at_edge (length xs) k)
  unfolding moving fixed_in
  bar_moving k p =
      ap (λ (t : Bool). t && not (fixed g k)) (lt-ltb k (points g) (omega (arith, line_long g line))) ∙
      ap not
      (ap (λ (K : Kind). fixed_in K g.columns g.rows (column g k) (row g k)) is_bar
      ∙ ap (λ (a : ℕ). at_edge g.columns a) (N.mod-eq_of_lt p)
      ∙ ap (λ (n : ℕ). at_edge n k) (sym as_columns))

  inner_is : (k : ℕ) → k < g.columns → bar_sum xs k ≡ inner_sum g (point xs) k
  unfolding inner_sum
  inner_is k p =
      sym (ap (λ (t : Bool). cond t (sum_over (neighbours g k) (point xs)) (pos 0)) (bar_moving k p) ∙ go (at_edge (length xs) k) refl)
    where
      go : (t : Bool) → at_edge (length xs) k ≡ t
          → cond (not t) (sum_over (neighbours g k) (point xs)) (pos 0) ≡ cond t (pos 0) (two_beside xs k)
      go true e = refl
      go false e =
          let u = or_neither (eqb k 0) (eqb (k + 1) (length xs)) e in
          let a = eqb-false k 0 u.0 in
          let b = eqb-false (k + 1) (length xs) u.1 in
          ap (λ (js : List ℕ). sum_over js (point xs)) (line-inner g k line p (omega (arith, a)) (omega (arith, b, as_columns))) ∙
          sym (sum-two (point xs) (k - 1) (k + 1))

-- a point of a bar: the sum of its neighbours, and that of the sums on either side
pub bar_beside : (g : Grid) → kind g ≡ Bar → (newer : List ℤ) → length newer ≡ points g
    → {from to : ℕ} → OnLine g from to → (k : ℕ) → from ≤ k → k < to
    → Summed g newer k (bar_sum newer k) (bar_sum newer (k - 1) +ℤ bar_sum newer (k + 1))
bar_beside g is_bar newer long on k first last =
    let h : 0 < k = omega (arith, on.first) in
    let l : k + 1 < g.columns = omega (arith, on.last) in
    let e = line-inner g k on.line (omega arith) h l in
    let left = inner_is g on.line is_bar newer long (k - 1) (omega arith) in
    let right = inner_is g on.line is_bar newer long (k + 1) l in
    record {
      moves = on.each k first last;
      sum_is = bar_between newer k h (omega (arith, long, line_long g on.line)) ∙ sum-two (point newer) (k - 1) (k + 1)
          ∙ ap (λ (js : List ℕ). sum_over js (point newer)) (sym e);
      second_is = (λ j. left j +ℤ right j) ∙ sum-two (inner_sum g (point newer)) (k - 1) (k + 1)
          ∙ ap (λ (js : List ℕ). sum_over js (inner_sum g (point newer))) (sym e);
    }
