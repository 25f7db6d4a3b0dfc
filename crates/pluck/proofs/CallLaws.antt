-- Laws of the call: what refuses it, and the level of one that nothing refuses.
use mathlib.Core.Path.{◌≡◌, refl, sym, ap, ◌∙◌, subst}
use mathlib.Core.Bool.{true, false, ◌||◌, true≢false}
use mathlib.Core.List.{List}
use Prim.Native.Nat.{ℕ, ◌+◌, ◌-◌, ◌*◌, ◌≤◌, ◌<◌}
use native.Mathlib.Nat.{mul-one, zero-mul, zero-add}
use native.Mathlib.Omega.{arith}
use borrow.Author.Tests.{ltb-true, ltb-false, leb-true, not-false}
use lib.IntN.{ℤ, pos, nat_abs}
use mir.Syntax.{w64}
use mir.Val.{to_z, of_z}
use Rattle.std.specs.Prelude.{Some, None, Result, Ok, Err}
use Rattle.bounded.proofs.Num.{given}
use Rattle.types.specs.declared.Grid.{Grid}
use Rattle.types.specs.declared.Refusal.{Refusal}
use Rattle.types.specs.declared.Refusal.TheVariants.{BrokenTable}
use Rattle.types.specs.Numbers.{ceiling, kind_of}
use Rattle.pluck_table.specs.Loading.{loaded_table}
use Rattle.scheme.specs.Lists.{tabulate}
use Rattle.scheme.specs.Instruments.{points, moving}
use Rattle.scheme.specs.Pluck.{pluck_at, pluck_level}
use Rattle.scheme.specs.Refusals.{last_plucked, wrong_length, lowest, table_checks, pluck_checks, pluck_refusal, pluck_with_refusal}
use Rattle.scheme.specs.Passing.{PluckPasses}
use Rattle.scheme.specs.Calls.{accepted}
use Rattle.scheme.proofs.Laws.Bools.{and_both}
use Rattle.scheme.proofs.Laws.Kinds.{within_is}
use Rattle.scheme.proofs.Laws.Lists.{length-tabulate, get_d_tabulate, is_tabulate}
use Rattle.scheme.proofs.Laws.Refusals.{pluck_passes}
use Rattle.kinds.specs.declared.runs.Run.{Run}
use Rattle.kinds.specs.Runs.{in_run, is_round, straight_run, run_of}
use Rattle.sizes.proofs.KindLaws.{by_number, line-size}
use Rattle.kinds.proofs.RunLaws.{straight_row, moving-run, run_bounds}
use Rattle.instruments.proofs.RefusalLaws.{first_of, lowest-append}
use Rattle.pluck.specs.declared.shape.Shape.{Shape}
use Rattle.pluck.specs.Shapes.{shape_at}

-- ---- what refuses a pluck by a lent table: first what refuses any, then loading

pub by_parts : (g : Grid) (older newer c w : ℕ) (a : ℤ) (lent : List ℕ) → pluck_with_refusal g older newer c w a lent
    ≡ first_of (pluck_refusal g older newer c w a) (lowest (table_checks lent))
unfolding pluck_refusal pluck_with_refusal
by_parts g older newer c w a lent =
    lowest-append (pluck_checks g (wrong_length g older || wrong_length g newer) c w a) (table_checks lent)

module _ (g : Grid) (older newer c w : ℕ) (a : ℤ) (lent : List ℕ) where
  pub refused-before : accepted (pluck_refusal g older newer c w a) ≡ false
      → pluck_with_refusal g older newer c w a lent ≡ pluck_refusal g older newer c w a
  refused-before e = by_parts g older newer c w a lent ∙ go (pluck_refusal g older newer c w a) e
    where
      go : (r : Result Unit Refusal) → accepted r ≡ false → first_of r (lowest (table_checks lent)) ≡ r
      go (Ok tt) e = absurd (true≢false e)
      go (Err r) e = refl

  pub refused_by-table : pluck_refusal g older newer c w a ≡ Ok tt → loaded_table lent ≡ None
      → pluck_with_refusal g older newer c w a lent ≡ Err BrokenTable
  refused_by-table e f = by_parts g older newer c w a lent ∙ simp (e, f)

  pub refused_by_none : (last : ℕ) → pluck_refusal g older newer c w a ≡ Ok tt → loaded_table lent ≡ Some last
      → pluck_with_refusal g older newer c w a lent ≡ Ok tt
  refused_by_none last e f = by_parts g older newer c w a lent ∙ simp (e, f)

-- ---- a pluck that nothing refuses

line_straight : (k : ℕ) → 1 ≤ k → k ≤ 4 → is_round (kind_of k) ≡ false
line_straight =
    by_number (λ k K. 1 ≤ k → k ≤ 4 → is_round K ≡ false) (λ l h. refl) (λ l h. refl) (λ l h. refl) (λ l h. refl) (λ l h. refl)
    (λ l h. refl) (λ l h. absurd (omega arith)) (λ l h. refl) (λ k p l h. refl)

module _ (g : Grid) (older newer c w : ℕ) (a : ℤ) (none : pluck_refusal g older newer c w a ≡ Ok tt) where
  pub passes : PluckPasses g older newer c w a
  passes = pluck_passes g older newer c w a none

  -- plucked kinds are lines
  of_line : (g.columns ≤ 1024) × (g.rows ≡ 1)
  of_line =
      let k = within_is 1 last_plucked g.kind passes.kind_in in
      let p = and_both _ _ (sym (line-size g.columns g.rows g.kind k.0 k.1) ∙ passes.size) in
      let r = within_is 1 1 g.rows p.1 in
      ((within_is 3 1024 g.columns p.0).1, omega arith)

  columns_is : points g ≡ g.columns
  columns_is = ap (λ (r : ℕ). g.columns * r) of_line.1 ∙ mul-one g.columns

  -- the moving points of a line are one run
  moving_is : (i : ℕ) → i < points g → in_run (run_of g 0) i ≡ moving g i
  moving_is i h =
      let first = ap (λ (k : ℕ). k + i) (zero-mul g.columns) ∙ zero-add i in
      sym (moving-run g 0 i passes.size (omega (arith, of_line.1)) (omega (arith, columns_is))) ∙ ap (moving g) first

  -- as the code works it out
  line-run : straight_run g 0 ≡ run_of g 0
  line-run =
      let k = within_is 1 last_plucked g.kind passes.kind_in in
      straight_row g 0 passes.size (omega (arith, of_line.1)) (line_straight g.kind k.0 k.1)

  in_it : in_run (run_of g 0) c ≡ true
  unfolding moving
  in_it = moving_is c (ltb-true c (points g) (and_both _ _ passes.centre_moving).0) ∙ passes.centre_moving

  -- the half width, and the height, also as it is stored
  pub some : 1 ≤ w
  some = (within_is 1 (g.columns - 1) w (not-false _ passes.width_in)).0

  pub narrow : w ≤ 1024
  narrow = omega (arith, (within_is 1 (g.columns - 1) w (not-false _ passes.width_in)).1, of_line.0)

  low : nat_abs a ≤ ceiling
  low = ltb-false ceiling (nat_abs a) passes.height_low

  pub stored : to_z w64 (of_z w64 a) ≡ a
  stored = (given low tt).is

  pub stored_low : nat_abs (to_z w64 (of_z w64 a)) ≤ ceiling
  stored_low = subst (λ (z : ℤ). nat_abs z ≤ ceiling) (sym stored) low

  pub as_long : newer ≡ older
  as_long = passes.newer_long ∙ sym passes.older_long

  -- the run as the code works it out: it has the centre, and ends in the level
  module _ (run : Run) (made : run ≡ straight_run g 0) where
    run-is : run_of g 0 ≡ run
    run-is = sym (made ∙ line-run)

    pub starts : run.from ≤ c
    starts = leb-true _ _ (and_both _ _ (subst (λ (r : Run). in_run r c ≡ true) run-is in_it)).0

    pub ends : c < run.to
    ends = ltb-true _ _ (and_both _ _ (subst (λ (r : Run). in_run r c ≡ true) run-is in_it)).1

    pub inside : run.to ≤ older
    inside = subst (λ (r : Run). r.to ≤ older) run-is (omega (arith, (run_bounds g 0).inside, columns_is, passes.older_long))

  -- a level of the grid with the shape that the code makes
  module _ (s : Shape) (made : s.run ≡ straight_run g 0) (centre-is : s.centre ≡ c) (width-is : s.width ≡ w)
      (height-is : s.height ≡ a) where
    shape_is : (i : ℕ) → i < points g → shape_at s i ≡ pluck_at s.table.entries.now g c w a i
    unfolding shape_at pluck_at
    shape_is i h = simp (made ∙ line-run, centre-is, width-is, height-is, moving_is i h)

    pub level_is : tabulate older (shape_at s) ≡ pluck_level s.table.entries.now g c w a
    unfolding pluck_level
    level_is =
        is_tabulate (points g) (pluck_at s.table.entries.now g c w a) (pos 0) (tabulate older (shape_at s))
        (length-tabulate older (shape_at s) ∙ passes.older_long)
        (λ i h. get_d_tabulate older (shape_at s) i (pos 0) (omega (arith, passes.older_long)) ∙ shape_is i h)
