-- The moving points of the rows, put row by row, and what is left of a list.
use mathlib.Core.Path.{◌≡◌, refl, sym, ap, ◌∙◌, subst₂}
use mathlib.Core.Bool.{Bool, true, false, cond}
use mathlib.Core.List.{List}
use Prim.Native.Nat.{ℕ, ◌+◌, ◌-◌, ◌*◌, ◌/◌, ◌%◌, ◌≤◌, ◌<◌, min}
use native.Mathlib.Decide.{ℕ_discrete}
use native.Mathlib.Nat.{mul-add, mul_comm, suc-mul, mul_left_comm, mul-le-mul_right, add_right_comm, mod-eq_of_lt, mod-add-div}
use native.Mathlib.Nat.{add-mod-mod, add-mul-mod_self_left}
use native.Mathlib.Omega.{arith}
use borrow.Author.Tests.{ltb-true, ltb-false, lt-ltb, le-ltb}
use lib.Dec.{ltb}
use lib.ListN.{length, get_or, set, length-set}
use lib.Seq.{get_or-set_same, get_or-set_other}
use Rattle.types.specs.declared.Grid.{Grid}
use Rattle.scheme.specs.Instruments.{kind, in_table}
use Rattle.scheme.proofs.Laws.Bools.{cases, and_yes, and_both}
use Rattle.scheme.proofs.Laws.Kinds.{sized}
use Rattle.scheme.proofs.Laws.Lists.{is_tabulate, get_d_tabulate}
use Rattle.kinds.specs.declared.runs.Run.{Run}
use Rattle.kinds.specs.Runs.{run_of}
use Rattle.kinds.proofs.RunLaws.{run_bounds, row_is}
use Rattle.edges.specs.Edges.{point_at, edge_of, edge_at, has_edge, edges_of}

-- ---- a point in 16 bits

-- each part may be taken so first
pub point_at_lem : (columns row column : ℕ) → (row * (columns % 65536) + column % 65536) % 65536 ≡ point_at columns row column
point_at_lem columns row column =
    let c = columns % 65536 in
    let q = columns / 65536 in
    add-mod-mod (row * c) column 65536 ∙
    sym (add-mul-mod_self_left (row * c + column) 65536 (row * q)) ∙
    ap (λ (n : ℕ). n % 65536)
    (add_right_comm (row * c) column (65536 * (row * q)) ∙
    ap (λ (n : ℕ). row * c + n + column) (mul_left_comm 65536 row q) ∙
    ap (λ (n : ℕ). n + column) (sym (mul-add row c (65536 * q)) ∙ ap (λ (n : ℕ). row * n) (mod-add-div columns 65536)))

-- ---- the places of a row

module _ (g : Grid) (row : ℕ) where
  first_place : row < 64 → edge_at g row ≡ edge_of g (λ (r : Run). r.from) row
  first_place h =
      ap (λ (t : Bool). cond t (edge_of g (λ (r : Run). r.from) row) (edge_of g (λ (r : Run). r.to) (row - 64))) (lt-ltb row 64 h)

  end_place : edge_at g (64 + row) ≡ edge_of g (λ (r : Run). r.to) row
  end_place =
      let back : 64 + row - 64 ≡ row = omega arith in
      ap (λ (t : Bool). cond t (edge_of g (λ (r : Run). r.from) (64 + row)) (edge_of g (λ (r : Run). r.to) (64 + row - 64)))
      (le-ltb (64 + row) 64 (omega arith)) ∙ ap (edge_of g (λ (r : Run). r.to)) back

-- ---- a loop over the rows

-- the rows before `row` have their points, the other places are as they were
pub record Passed (g : Grid) (xs₀ xs : List ℕ) (row : ℕ) : Type 0 where
  pub long : length xs ≡ length xs₀
  pub put : (k : ℕ) → k < 128 → k % 64 < row → k < length xs₀ → get_or xs k 0 ≡ edge_at g k
  pub kept : (k : ℕ) → (k < 128 → row ≤ k % 64) → get_or xs k 0 ≡ get_or xs₀ k 0

pub passed_none : (g : Grid) (xs : List ℕ) → Passed g xs xs 0
passed_none g xs = record { long = refl; put = λ k l m n. absurd (omega arith); kept = λ k h. refl }

-- one more
pub passed-more : {g : Grid} {xs₀ xs : List ℕ} {row : ℕ} → Passed g xs₀ xs row → row < 64 → (x y : ℕ)
    → x ≡ edge_of g (λ (r : Run). r.from) row → y ≡ edge_of g (λ (r : Run). r.to) row
    → Passed g xs₀ (set (set xs row x) (64 + row) y) (row + 1)
passed-more {g} {xs₀} {xs} {row} p h x y e f = record {
  long = length-set (set xs row x) (64 + row) y ∙ length-set xs row x ∙ p.long;
  put = λ k l m n. go k l m n (ℕ_discrete k (64 + row)) (ℕ_discrete k row);
  kept = λ k l. get_or-set_other (set xs row x) (64 + row) k y 0 (λ s. omega (arith, l (omega arith)))
      ∙ get_or-set_other xs row k x 0 (λ s. omega (arith, l (omega arith)))
      ∙ p.kept k (λ m. omega (arith, l m));
}
  where
    go : (k : ℕ) → k < 128 → k % 64 < row + 1 → k < length xs₀ → Dec (k ≡ 64 + row) → Dec (k ≡ row)
        → get_or (set (set xs row x) (64 + row) y) k 0 ≡ edge_at g k
    go k l m n (yes s) d = ap (λ (k : ℕ). get_or (set (set xs row x) (64 + row) y) k 0) s
        ∙ get_or-set_same (set xs row x) (64 + row) y 0 (omega (arith, p.long, length-set xs row x)) ∙ f
        ∙ sym (ap (edge_at g) s ∙ end_place g row)
    go k l m n (no s) (yes t) = get_or-set_other (set xs row x) (64 + row) k y 0 s ∙ ap (λ (k : ℕ). get_or (set xs row x) k 0) t
        ∙ get_or-set_same xs row x 0 (omega (arith, p.long)) ∙ e ∙ sym (ap (edge_at g) t ∙ first_place g row h)
    go k l m n (no s) (no t) = get_or-set_other (set xs row x) (64 + row) k y 0 s ∙ get_or-set_other xs row k x 0 t
        ∙ p.put k l (omega (arith, s, t)) n

-- all that have places: 64 at most
pub passed-all : {g : Grid} {xs₀ xs : List ℕ} {row : ℕ} → row ≡ min g.rows 64 → Passed g xs₀ xs row → xs ≡ edges_of g xs₀
unfolding edges_of
passed-all {g} {xs₀} {xs} {row} e p =
    is_tabulate (length xs₀) (λ k. cond (has_edge g k) (edge_at g k) (get_or xs₀ k 0)) 0 xs p.long
    (λ k l. cases (λ t. get_or xs k 0 ≡ cond t (edge_at g k) (get_or xs₀ k 0)) (has_edge g k) (put k l) (kept k))
  where
    put : (k : ℕ) → k < length xs₀ → has_edge g k ≡ true → get_or xs k 0 ≡ edge_at g k
    put k l t =
        let h = and_both (ltb k 128) (ltb (k % 64) g.rows) t in
        p.put k (ltb-true k 128 h.0)
        (omega (arith, e, ltb-true (k % 64) g.rows h.1)) l

    kept : (k : ℕ) → has_edge g k ≡ false → get_or xs k 0 ≡ get_or xs₀ k 0
    kept k f = p.kept k
        (λ l. omega (arith, e, ltb-false (k % 64) g.rows (sym (and_yes (lt-ltb k 128 l)) ∙ f)))

-- ---- what stands there for a row of a grid of the table

module _ (g : Grid) (size : in_table g ≡ true) (xs : List ℕ) (long : length xs ≡ 128) (row : ℕ) (h : row < g.rows) where
  few : row < 64
  few = omega (arith, h, (sized (kind g) g.columns g.rows size).rows_high)

  place_is : (k : ℕ) → k < 128 → k % 64 ≡ row → get_or (edges_of g xs) k 0 ≡ edge_at g k
  unfolding edges_of
  place_is k l e =
      get_d_tabulate (length xs) (λ k. cond (has_edge g k) (edge_at g k) (get_or xs k 0)) k 0 (omega (arith, long)) ∙
      ap (λ (t : Bool). cond t (edge_at g k) (get_or xs k 0))
      (and_yes (lt-ltb k 128 l) ∙ lt-ltb (k % 64) g.rows (omega (arith, h, e)))

  point_is : (end : Run → ℕ) → end (run_of g row) ≤ g.columns → edge_of g end row ≡ row * g.columns + end (run_of g row)
  point_is end low =
      let s = sized (kind g) g.columns g.rows size in
      let in_grid : row * g.columns + g.columns ≤ g.columns * g.rows =
      subst₂ ◌≤◌ (suc-mul row g.columns) (mul_comm g.rows g.columns) (mul-le-mul_right g.columns h) in
      ap (λ (r : Run). point_at g.columns row (end r)) (row_is g row size h)
      ∙ mod-eq_of_lt (omega (arith, low, in_grid, s.points_high))

  pub first_is : get_or (edges_of g xs) row 0 ≡ row * g.columns + (run_of g row).from
  first_is =
      let r = run_bounds g row in
      place_is row (omega (arith, few)) (omega (arith, few)) ∙ first_place g row few
      ∙ point_is (λ (run : Run). run.from) (omega (arith, r.rising, r.inside))

  pub end_is : get_or (edges_of g xs) (64 + row) 0 ≡ row * g.columns + (run_of g row).to
  end_is =
      place_is (64 + row) (omega (arith, few)) (omega (arith, few)) ∙ end_place g row
      ∙ point_is (λ (run : Run). run.to) (run_bounds g row).inside
