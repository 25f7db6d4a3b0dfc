-- A step of a whole plate, row by row: the sums of two rows in turn.
use Rattle.std.proofs.Common.{Option, Some}
use mathlib.Core.Path.{◌≡◌, refl, sym, ap, ◌∙◌, subst}
use mathlib.Core.Bool.{Bool, true, false, cond, not, ◌&&◌}
use mathlib.Core.List.{List}
use mathlib.Core.Logic.{◌⊎◌, inl, inr}
use Prim.Native.Nat.{ℕ, ◌+◌, ◌-◌, ◌*◌, ◌≤◌, ◌<◌, zero-le}
use native.Mathlib.Nat as N
use native.Mathlib.Decide.{dec_lt, ℕ_discrete}
use native.Mathlib.Omega.{arith}
use borrow.Author.Tests.{eq-eqb, ne_eqb}
use lib.Dec.{eqb}
use lib.IntN.{ℤ, pos, nat_abs}
use lib.ListN.{length}
use Rattle.types.specs.declared.Grid.{Grid}
use Rattle.types.specs.declared.Instrument.{Instrument}
use Rattle.types.specs.declared.Hit.{Hit}
use Rattle.types.specs.Numbers.{ceiling}
use Rattle.scheme.specs.Lists.{point}
use Rattle.types.specs.declared.Kind.{Kind}
use Rattle.types.specs.declared.Kind.TheVariants.{Plate}
use Rattle.scheme.specs.Instruments.{kind, points, in_table, moving}
use Rattle.scheme.proofs.Laws.Bools.{neither_or}
use Rattle.kinds.specs.Runs.{run, run_in, inner_run, run_of}
use Rattle.kinds.proofs.RunLaws.{run_is}
use Rattle.levels.proofs.LevelLaws.{next_row}
use Rattle.plans.specs.declared.Plan.{Plan}
use Rattle.stretches.specs.declared.Stretch.{Stretch}
use Rattle.steps.specs.declared.plates.SumRows.{SumRows}
use Rattle.steps.specs.Plan.{AtMost, Ready, inner_sum}
use Rattle.steps.specs.Run.{Filled, Stepping, Placed, four_beside, all_within, inexact_of}
use Rattle.steps.specs.Steps.{Steppable}
use Rattle.steps.specs.Pass.{target, Passable, Passing, Passed}
use Rattle.steps.specs.Plates.{SumRow, TwoRows, InRow, moving_in}
use Rattle.steps.proofs.KindLaws.{Edge, at_edge_lem, wide, plate_sized}
use Rattle.steps.proofs.PassLaws.{passing_none, passing_ready, piece_placed, stretch_stops, stretch_passing}
use Rattle.steps.proofs.RowLaws.{RowRun, row-run, Rows, rows_start, rows_more, rows_most, rows_stop, rows_done, steppable_ready}
use Rattle.steps.proofs.RowLaws.{run_moves, row_room, stepped-all, stepped-not}
use Rattle.steps.proofs.PlateLaws.{put_low, sum-still, sum_around, sum_low}

-- ---- the rows of a plate

module _ (g : Grid) (size : in_table g ≡ true) (is-plate : kind g ≡ Plate) (row : ℕ) (h : row < g.rows) where
  plate_run : run_of g row ≡ inner_run g.columns g.rows row
  unfolding run_in
  plate_run = run_is g row size h ∙ ap (λ (K : Kind). run_in K g.columns g.rows row) is-plate

  -- a row of the ring, and any other
  pub ring_run : Edge g.rows row → run 0 0 ≡ run_of g row
  unfolding inner_run
  ring_run e = sym (plate_run ∙ ap (λ (t : Bool). cond t (run 0 0) (run 1 (g.columns - 1))) (at_edge_lem g.rows row e))

  pub inner-run : 1 ≤ row → row + 1 < g.rows → run 1 (g.columns - 1) ≡ run_of g row
  unfolding inner_run
  inner-run a b = sym (plate_run ∙ ap (λ (t : Bool). cond t (run 0 0) (run 1 (g.columns - 1)))
      (neither_or (ne_eqb row 0 (λ e. omega arith)) (ne_eqb (row + 1) g.rows (λ e. omega arith))))

  pub inner_columns : 1 ≤ row → row + 1 < g.rows → RowRun g (row * g.columns) (run 1 (g.columns - 1))
  inner_columns a b = subst (RowRun g (row * g.columns)) (sym (inner-run a b)) (row-run g row size h)

  pub ring_still : Edge g.rows row → (k : ℕ) → row * g.columns ≤ k → k < row * g.columns + g.columns → moving g k ≡ false
  ring_still e k a b = (subst (RowRun g (row * g.columns)) (sym (ring_run e)) (row-run g row size h)).after k (omega arith) b

  -- neither end of a row moves
  pub ends-still : (moving g (row * g.columns) ≡ false) × (moving g (row * g.columns + (g.columns - 1)) ≡ false)
  ends-still = go (ℕ_discrete row 0) (ℕ_discrete (row + 1) g.rows)
    where
      some : 3 ≤ g.columns
      some = wide g size

      ring : Edge g.rows row → (moving g (row * g.columns) ≡ false) × (moving g (row * g.columns + (g.columns - 1)) ≡ false)
      ring e = (
        ring_still e (row * g.columns) (omega arith) (omega (arith, some)),
        ring_still e (row * g.columns + (g.columns - 1)) (omega arith) (omega (arith, some)),
      )

      go : Dec (row ≡ 0) → Dec (row + 1 ≡ g.rows)
          → (moving g (row * g.columns) ≡ false) × (moving g (row * g.columns + (g.columns - 1)) ≡ false)
      go (yes e) d = ring (inl e)
      go (no a) (yes e) = ring (inr e)
      go (no a) (no b) =
          let w = inner_columns (omega (arith, a)) (omega (arith, b, h)) in (
            w.before (row * g.columns) (omega arith) (omega arith),
            w.after (row * g.columns + (g.columns - 1)) (omega arith) (omega (arith, some)),
          )

-- ---- two rows in turn

-- where the row above, which the row below takes the place of, and the row itself stand
pub data Turning : ℕ → ℕ → Type 0 where
  zeroth : Turning 0 64
  first : Turning 64 0

pub turn : {a b : ℕ} → Turning a b → Turning b a
turn zeroth = first
turn first = zeroth

-- rows of n columns, 64 at most, lie apart
turn_apart : {a b n : ℕ} → Turning a b → n ≤ 64 → (b + n ≤ a) ⊎ (a + n ≤ b)
turn_apart zeroth h = inr (omega arith)
turn_apart first h = inl (omega arith)

-- ---- a loop over the rows: those above have their next values, n of them inexact, the sums of the row and of the one above it stand

pub record PlateRows (i : Instrument) (h : Option Hit) (write inPlace : Bool) (older₀ newer out₀ older out sums : List ℤ)
    (other here row start n : ℕ) : Type 0 where
  pub rows : Rows i h write inPlace older₀ newer out₀ older out row start n
  pub some : 1 ≤ row
  pub upto : row + 1 ≤ i.grid.rows
  pub turning : Turning other here
  pub long : length sums ≡ 128
  pub above_row : SumRow i.grid newer sums (start - i.grid.columns) other
  pub here_row : SumRow i.grid newer sums start here
  pub low : AtMost (4 * ceiling) (point sums)

module _ {p : Plan} {h : Option Hit} {inPlace : Bool} {older₀ newer out₀ : List ℤ} (a : Passable p h inPlace older₀ newer out₀)
    (is-plate : kind p.instrument.grid ≡ Plate)
  where
    abbrev s : Steppable p h older₀ newer (target inPlace older₀ out₀)
    s = a.given

    abbrev i : Instrument
    i = p.instrument

    abbrev g : Grid
    g = i.grid

    size : in_table g ≡ true
    size = s.planned.passes.size

    abbrev S : ℕ → ℤ
    S = inner_sum g (point newer)

    pub some_columns : 3 ≤ g.columns
    some_columns = wide g size

    pub some_rows : 3 ≤ g.rows
    some_rows = (plate_sized g size is-plate).1

    pub few_columns : g.columns ≤ 64
    few_columns = (plate_sized g size is-plate).0

    grid : g.rows ≡ 1 → ⊥
    grid e = omega (arith, some_rows)

    -- a row that is passed over: nothing of it moves
    ring_more : {write : Bool} {older out : List ℤ} {row start n : ℕ} → Rows i h write inPlace older₀ newer out₀ older out row start n
        → row < g.rows → Edge g.rows row
        → Rows i h write inPlace older₀ newer out₀ older out (row + 1) (start + g.columns) n
    ring_more {write} {older} {out} {row} {start} {n} l m e =
        subst (Rows i h write inPlace older₀ newer out₀ older out (row + 1) (start + g.columns)) (omega arith)
        (rows_more a l m (run 0 0) (ring_run g size is-plate row m e) (passing_none older out (start + 0)) refl)

    -- the sum at either end of a row
    left-zero : (row : ℕ) → row < g.rows → (k : ℕ) → row * g.columns ≡ k → S k ≡ pos 0
    left-zero row m k e = sum-still g (point newer) k (subst (λ (k : ℕ). moving g k ≡ false) e (ends-still g size is-plate row m).0)

    right_zero : (row : ℕ) → row < g.rows → (k : ℕ) → row * g.columns + (g.columns - 1) ≡ k → S k ≡ pos 0
    right_zero row m k e = sum-still g (point newer) k (subst (λ (k : ℕ). moving g k ≡ false) e (ends-still g size is-plate row m).1)

    -- ---- before the first inner row: the sums of the ring's first row are 0, and those of the row are put

    pub three_rows : g.columns + g.columns + g.columns ≤ length newer
    three_rows = omega (arith, s.newer_passes.long, N.mul-le-mul_left g.columns some_rows)

    module _ (sums : List ℤ) (zeros : (j : ℕ) → point sums j ≡ pos 0) (long : length sums ≡ 128) where
      first-zero : (c : ℕ) → c < g.columns → S (g.columns - g.columns + c) ≡ pos 0
      first-zero c l = sum-still g (point newer) (g.columns - g.columns + c)
          (ring_still g size is-plate 0 (omega (arith, some_rows)) (inl refl) (g.columns - g.columns + c) (omega arith) (omega arith))

      module _ {sums' : List ℤ}
          (f : Filled (λ j. four_beside newer g.columns (g.columns + (j - 64))) true 0 sums sums' (64 + 1) (64 + (g.columns - 1))) where
        -- a place that was passed over
        kept : (j : ℕ) → (j < 65) ⊎ (64 + (g.columns - 1) ≤ j) → point sums' j ≡ pos 0
        kept j o = f.kept j (inr (go o)) ∙ zeros j
          where
            go : (j < 65) ⊎ (64 + (g.columns - 1) ≤ j) → (j + 0 < 64 + 1) ⊎ (64 + (g.columns - 1) ≤ j + 0)
            go (inl l) = inl (omega arith)
            go (inr l) = inr (omega arith)

        -- a sum between the ends of the first inner row
        between : (c : ℕ) → 1 ≤ c → c < g.columns - 1 → four_beside newer g.columns (g.columns + c) ≡ S (g.columns + c)
        between c a b =
            let one = N.one-mul g.columns in
            let w = inner_columns g size is-plate 1 (omega (arith, some_rows)) (omega arith) (omega (arith, some_rows)) in
            sum_around g (point newer) size grid (g.columns + c) (w.moves (g.columns + c) (omega arith) (omega arith))

        put : (c : ℕ) → c < g.columns → point sums' (64 + c) ≡ S (g.columns + c)
        put c l = go (dec_lt 0 c) (dec_lt c (g.columns - 1))
          where
            one : 1 * g.columns ≡ g.columns
            one = N.one-mul g.columns

            go : Dec (0 < c) → Dec (c < g.columns - 1) → point sums' (64 + c) ≡ S (g.columns + c)
            go (no a) b =
                kept (64 + c) (inl (omega (arith, a))) ∙
                sym (left-zero 1 (omega (arith, some_rows)) (g.columns + c) (omega (arith, a, one)))
            go (yes a) (no b) =
                kept (64 + c) (inr (omega (arith, b))) ∙
                sym (right_zero 1 (omega (arith, some_rows)) (g.columns + c) (omega (arith, b, one)))
            go (yes a) (yes b) =
                ap (point sums') (sym (N.sub-zero (64 + c))) ∙ f.written refl (64 + c) (omega arith) (omega arith) ∙
                ap (λ (n : ℕ). four_beside newer g.columns (g.columns + n)) (omega arith) ∙ between c a b

        small : (j : ℕ) → 65 ≤ j → j < 64 + (g.columns - 1) → nat_abs (four_beside newer g.columns (g.columns + (j - 64))) ≤ 4 * ceiling
        small j a b = subst (λ (z : ℤ). nat_abs z ≤ 4 * ceiling) (sym (between (j - 64) (omega arith) (omega arith)))
            (sum_low (steppable_ready s) (g.columns + (j - 64)))

        pub plate_start : {write : Bool} → PlateRows i h write inPlace older₀ newer out₀ older₀ out₀ sums' 0 64 1 g.columns 0
        plate_start {write} = record {
          rows = subst (λ (n : ℕ). Rows i h write inPlace older₀ newer out₀ older₀ out₀ 1 n 0) (N.zero-add g.columns)
              (ring_more (rows_start older₀ out₀) (omega (arith, some_rows)) (inl refl));
          some = omega arith;
          upto = omega (arith, some_rows);
          turning = zeroth;
          long = f.long ∙ long;
          above_row = record {
            room = omega (arith, few_columns, f.long, long);
            each = λ c l. kept (0 + c) (inl (omega (arith, few_columns))) ∙ sym (first-zero c l);
          };
          here_row = record { room = omega (arith, few_columns, f.long, long); each = put };
          low = put_low f small (λ j. subst (λ (z : ℤ). nat_abs z ≤ 4 * ceiling) (sym (zeros j)) zero-le);
        }

    -- ---- a row

    module _ {write : Bool} {older out sums : List ℤ} {other here row start n : ℕ}
        (t : PlateRows i h write inPlace older₀ newer out₀ older out sums other here row start n) (l : row + 1 < g.rows) where
      -- where its sums stand
      abbrev r : SumRows
      r = record { start = start; here = here; other = other; last = eqb (row + 1) (g.rows - 1) }

      in_grid : row < g.rows
      in_grid = omega arith

      -- its run
      columns_run : run 1 (g.columns - 1) ≡ run_of g row
      columns_run = inner-run g size is-plate row in_grid t.some l

      -- the row lies in the level
      pub in_level : start + g.columns ≤ points g
      in_level = row_room a t.rows in_grid (run 1 (g.columns - 1)) columns_run

      -- the rows above and below
      high : g.columns ≤ start
      high = omega (arith, t.rows.start_is, N.mul-le-mul_right g.columns t.some, N.one-mul g.columns)

      above-start : (row - 1) * g.columns ≡ start - g.columns
      above-start =
          let one : row - 1 + 1 ≡ row = omega (arith, t.some) in
          omega (arith, next_row (row - 1) g.columns, ap (λ (n : ℕ). n * g.columns) one, t.rows.start_is)

      below-start : (row + 1) * g.columns ≡ start + g.columns
      below-start = sym (ap (λ (n : ℕ). n + g.columns) t.rows.start_is ∙ next_row row g.columns)

      below_moves : (k : ℕ) → start + 1 ≤ k → k < start + (g.columns - 1) → moving g (k + g.columns) ≡ not (eqb (row + 1) (g.rows - 1))
      below_moves k a b = go (ℕ_discrete (row + 1) (g.rows - 1))
        where
          go : Dec (row + 1 ≡ g.rows - 1) → moving g (k + g.columns) ≡ not (eqb (row + 1) (g.rows - 1))
          go (yes e) =
              ring_still g size is-plate (row + 1) l (inr (omega (arith, some_rows))) (k + g.columns) (omega (arith, below-start))
              (omega (arith, below-start)) ∙ sym (ap not (eq-eqb (row + 1) (g.rows - 1) e))
          go (no n) =
              let w = inner_columns g size is-plate (row + 1) l (omega arith) (omega (arith, n)) in
              w.moves (k + g.columns) (omega (arith, below-start)) (omega (arith, below-start)) ∙
              sym (ap not (ne_eqb (row + 1) (g.rows - 1) n))

      in_row : InRow g r (start + 1) (start + (g.columns - 1))
      in_row = record {
        grid = grid;
        moves = run_moves a t.rows in_grid (run 1 (g.columns - 1)) columns_run;
        first = omega arith;
        last = omega (arith, some_columns);
        below = below_moves;
      }

      -- before its first moving point
      two_rows : TwoRows g newer sums r (start + 1)
      two_rows = record {
        high = high;
        here = t.here_row;
        room = t.above_row.room;
        apart = turn_apart t.turning few_columns;
        above = λ c a m. t.above_row.each c m;
        below = λ c a.
            let zero : c ≡ 0 = omega arith in
            t.above_row.each c (omega (arith, some_columns)) ∙
            left-zero (row - 1) (omega (arith, t.some)) (start - g.columns + c) (omega (arith, above-start)) ∙
            sym (left-zero (row + 1) l (start + g.columns + c) (omega (arith, below-start)));
        low = t.low;
      }

      -- after its last one
      module _ {older' out' sums' : List ℤ} {x : Option ℕ}
          (q : Passing i h write inPlace older newer out older' out' (start + 1) (start + (g.columns - 1)) x) (e : all_within x ≡ true)
          (w : TwoRows g newer sums' r (start + (g.columns - 1))) (long : length sums' ≡ length sums) where
        below_each : (c : ℕ) → c < g.columns → point sums' (other + c) ≡ S (start + g.columns + c)
        below_each c m = go (dec_lt c (g.columns - 1))
          where
            go : Dec (c < g.columns - 1) → point sums' (other + c) ≡ S (start + g.columns + c)
            go (yes a) = w.below c (omega arith)
            go (no a) =
                w.above c (omega (arith, a)) m ∙
                right_zero (row - 1) (omega (arith, t.some)) (start - g.columns + c) (omega (arith, a, above-start)) ∙
                sym (right_zero (row + 1) l (start + g.columns + c) (omega (arith, a, below-start)))

        row_next : PlateRows i h write inPlace older₀ newer out₀ older' out' sums' here other (row + 1) (start + g.columns)
            (n + inexact_of x)
        row_next = record {
          rows = rows_more a t.rows in_grid (run 1 (g.columns - 1)) columns_run q e;
          some = omega arith;
          upto = omega arith;
          turning = turn t.turning;
          long = long ∙ t.long;
          above_row = subst (λ (n : ℕ). SumRow g newer sums' n here) (omega arith) w.here;
          here_row = record { room = w.room; each = below_each };
          low = w.low;
        }

      module _ {older' out' : List ℤ} {x : Option ℕ}
          (q : Passing i h write inPlace older newer out older' out' (start + 1) (start + (g.columns - 1)) x) where
        row_stops : all_within x ≡ false → Passed i h write inPlace older₀ newer out₀ older' out' x
        row_stops e = stepped-not a (rows_stop a t.rows in_grid (run 1 (g.columns - 1)) columns_run q e) e

        row_most : all_within x ≡ true → n + inexact_of x ≤ points g
        row_most e = rows_most a t.rows in_grid (run 1 (g.columns - 1)) columns_run q e

      -- its moving points, x
      row_ready : Ready p (pos 0) older newer
      row_ready = passing_ready (steppable_ready s) t.rows.done

      module _ {x : Stretch} (e : x ≡ moving_in start g.columns write inPlace) where
        pub moving_ready : Ready p x.force older newer
        moving_ready = subst (λ (x : Stretch). Ready p x.force older newer) (sym e) row_ready

        pub moving_placed : Placed x (length out)
        moving_placed = subst (λ (x : Stretch). Placed x (length out)) (sym e)
            (piece_placed inPlace (omega (arith, some_columns)) (λ f. omega (arith, few_columns)) (omega (arith, in_level)) a.room
            t.rows.done.out_long)

        pub moving_inside : x.to ≤ length older
        moving_inside = omega (arith, ap (λ (x : Stretch). x.to) e, in_level, row_ready.older_long)

        pub moving-row : InRow g r x.from x.to
        moving-row = subst (λ (x : Stretch). InRow g r x.from x.to) (sym e) in_row

        pub moving_sums : TwoRows g newer sums r x.from
        moving_sums = subst (λ (x : Stretch). TwoRows g newer sums r x.from) (sym e) two_rows

        -- once they are worked out
        module _ {out' : List ℤ} {y : Option ℕ} (q : Stepping i h x.write x.base older newer out out' x.from x.to y) where
          pub plate_stops : all_within y ≡ false → Passed i h write inPlace older₀ newer out₀ older out' y
          plate_stops f = row_stops (stretch_stops i h write inPlace e q f) f

          -- and put in their places
          module _ (within : all_within y ≡ true) {older' : List ℤ}
              (f : Filled (λ k. point out' (k - x.base)) (inPlace && x.write) 0 older older' x.from x.to)
              (o : (inPlace && x.write) ≡ false → older' ≡ older) where
            left : Passing i h write inPlace older newer out older' out' (start + 1) (start + (g.columns - 1)) y
            left = stretch_passing i h write inPlace e q within f o

            pub plate_most : n + inexact_of y ≤ points g
            plate_most = row_most left within

            pub plate_next : {sums' : List ℤ} → TwoRows g newer sums' r x.to → length sums' ≡ length sums
                → PlateRows i h write inPlace older₀ newer out₀ older' out' sums' here other (row + 1) (start + g.columns)
                (n + inexact_of y)
            plate_next {sums'} w long = row_next left within (subst (λ (x : Stretch). TwoRows g newer sums' r x.to) e w) long

    -- after the last of them
    pub plate_done : {write : Bool} {older out sums : List ℤ} {other here row start n : ℕ}
        → PlateRows i h write inPlace older₀ newer out₀ older out sums other here row start n → g.rows ≤ row + 1
        → Passed i h write inPlace older₀ newer out₀ older out (Some n)
    plate_done {row = row} t m =
        let last : row + 1 ≡ g.rows = omega (arith, t.upto) in
        stepped-all a (rows_done a (ring_more t.rows (omega (arith, t.upto)) (inr last)) m)
