-- A step of a whole level, row by row.
use Rattle.std.proofs.Common.{Option, Some}
use mathlib.Core.Path.{◌≡◌, refl, sym, ap, ◌∙◌, subst}
use mathlib.Core.Bool.{Bool, true, false, not, ◌&&◌, and-false, true≢false}
use mathlib.Core.List.{List}
use mathlib.Core.Logic.{inr}
use Prim.Native.Nat.{ℕ, ◌+◌, ◌-◌, ◌*◌, ◌≤◌, ◌<◌, zero-le}
use native.Mathlib.Nat.{mul_comm, sub-zero}
use native.Mathlib.Omega.{arith}
use borrow.Author.Tests.{ltb-false, lt-ltb, le-ltb, le-leb, lt-leb}
use lib.Dec.{leb}
use lib.IntN.{ℤ, pos}
use lib.ListN.{length, get_or}
use Rattle.types.specs.declared.Grid.{Grid}
use Rattle.types.specs.declared.Instrument.{Instrument}
use Rattle.types.specs.declared.Hit.{Hit}
use Rattle.types.specs.Numbers.{ceiling}
use Rattle.scheme.specs.Lists.{point}
use Rattle.scheme.specs.Instruments.{beyond, points, in_table, moving}
use Rattle.scheme.specs.Step.{next_at, next_level, inexact_in, some_beyond}
use Rattle.scheme.proofs.Laws.Bools.{and_yes, and_no}
use Rattle.scheme.proofs.Laws.Lists.{is_tabulate, some_at}
use Rattle.scheme.proofs.Laws.Step.{length-next, next-still, next-point, inexact_still, all-low}
use Rattle.scheme.proofs.Laws.Refusals.{passes_low, passes_still}
use Rattle.kinds.specs.declared.runs.Run.{Run}
use Rattle.kinds.specs.Runs.{in_run, run_of}
use Rattle.kinds.proofs.RunLaws.{run_bounds, moving-run}
use Rattle.edges.specs.Edges.{edges_of}
use Rattle.edges.proofs.EdgeLaws.{first_is, end_is}
use Rattle.levels.proofs.LevelLaws.{next_row, row_inside}
use Rattle.plans.specs.declared.Plan.{Plan}
use Rattle.steps.specs.Plan.{Ready}
use Rattle.steps.specs.Run.{Next, next_of, Ran, Counted, Moves, all_within, inexact_of}
use Rattle.steps.specs.Edges.{EdgesOf}
use Rattle.steps.specs.Steps.{Steppable}
use Rattle.steps.specs.Pass.{target, Passable, Passing, Passed}
use Rattle.steps.proofs.CountLaws.{counted_not, counted_all}
use Rattle.steps.proofs.FillLaws.{filled_there, ran_all, ran_append}
use Rattle.steps.proofs.PassLaws.{passing_none, passing_most, passing_append, passing_stops}

-- ---- the moving points that are kept

-- every row has its own once they are put
pub edges_there : {g : Grid} (xs : List ℕ) {edges : List ℕ} → in_table g ≡ true → length xs ≡ 128 → edges ≡ edges_of g xs → EdgesOf g edges
edges_there {g} xs size l e = record {
  from_is = λ row h. ap (λ (xs : List ℕ). get_or xs row 0) e ∙ first_is g size xs l row h;
  to_is = λ row h. ap (λ (xs : List ℕ). get_or xs (64 + row) 0) e ∙ end_is g size xs l row h;
}

-- ---- a row

-- the run r of the row that begins at start: its points move, the others of the row do not
pub record RowRun (g : Grid) (start : ℕ) (r : Run) : Type 0 where
  pub rising : r.from ≤ r.to
  pub inside : r.to ≤ g.columns
  pub moves : (k : ℕ) → start + r.from ≤ k → k < start + r.to → moving g k ≡ true
  pub before : (k : ℕ) → start ≤ k → k < start + r.from → moving g k ≡ false
  pub after : (k : ℕ) → start + r.to ≤ k → k < start + g.columns → moving g k ≡ false

module _ (g : Grid) (b : ℕ) (size : in_table g ≡ true) (h : b < g.rows) where
  -- a point of the row, by its column
  at-column : (k : ℕ) (t : Bool) → b * g.columns ≤ k → k < b * g.columns + g.columns → in_run (run_of g b) (k - b * g.columns) ≡ t
      → moving g k ≡ t
  at-column k t p q e =
      let a : b * g.columns + (k - b * g.columns) ≡ k = omega arith in
      ap (moving g) (sym a) ∙ moving-run g b (k - b * g.columns) size h (omega arith) ∙ e

  pub row-run : RowRun g (b * g.columns) (run_of g b)
  row-run =
      let w = run_bounds g b in
      let r = run_of g b in
      let start = b * g.columns in
      record {
        rising = w.rising;
        inside = w.inside;
        moves = λ k p q. at-column k true (omega arith) (omega (arith, w.inside))
            (and_yes (le-leb r.from (k - start) (omega arith)) ∙ lt-ltb (k - start) r.to (omega arith));
        before = λ k p q. at-column k false p (omega (arith, w.rising, w.inside)) (and_no _ (lt-leb r.from (k - start) (omega arith)));
        after = λ k p q. at-column k false (omega arith) q
            (ap (λ (t : Bool). leb r.from (k - start) && t) (le-ltb (k - start) r.to (omega arith))
            ∙ and-false (leb r.from (k - start)));
      }

-- ---- a loop over the rows: the points before start have their next values, n of them inexact

pub record Rows (i : Instrument) (h : Option Hit) (write inPlace : Bool) (older₀ newer out₀ older out : List ℤ) (row start n : ℕ) : Type 0
  where
    pub start_is : start ≡ row * i.grid.columns
    pub upto : row ≤ i.grid.rows
    pub done : Passing i h write inPlace older₀ newer out₀ older out 0 start (Some n)

pub rows_start : {i : Instrument} {h : Option Hit} {write inPlace : Bool} {newer : List ℤ} (older out : List ℤ)
    → Rows i h write inPlace older newer out older out 0 0 0
rows_start older out = record { start_is = omega arith; upto = zero-le; done = passing_none older out 0 }

-- the row's start may be written otherwise
pub rows_at : {i : Instrument} {h : Option Hit} {write inPlace : Bool} {older₀ newer out₀ older out : List ℤ} {row start start' n : ℕ}
    → start ≡ start' → Rows i h write inPlace older₀ newer out₀ older out row start n
    → Rows i h write inPlace older₀ newer out₀ older out row start' n
rows_at {i} {h} {write} {inPlace} {older₀} {newer} {out₀} {older} {out} {row} {n = n} e l =
    subst (λ (start : ℕ). Rows i h write inPlace older₀ newer out₀ older out row start n) e l

-- ---- what a step is given

module _ {p : Plan} {h : Option Hit} {older₀ newer room : List ℤ} (s : Steppable p h older₀ newer room) where
  pub steppable_ready : Ready p (pos 0) older₀ newer
  steppable_ready = record {
    planned = s.planned;
    older_long = s.older_passes.long;
    newer_long = s.newer_passes.long;
    older_low = passes_low p.instrument.grid older₀ s.older_passes;
    newer_low = passes_low p.instrument.grid newer s.newer_passes;
    newer_still = (passes_still p.instrument.grid newer s.newer_passes).still;
    f_low = zero-le;
  }

module _ {p : Plan} {h : Option Hit} {inPlace : Bool} {older₀ newer out₀ : List ℤ} (a : Passable p h inPlace older₀ newer out₀) where
  abbrev s : Steppable p h older₀ newer (target inPlace older₀ out₀)
  s = a.given

  abbrev i : Instrument
  i = p.instrument

  abbrev g : Grid
  g = i.grid

  -- the next values
  abbrev v : ℕ → Next
  v = next_of i h older₀ newer

  -- points from b on that do not move hold their next values, 0, and none is inexact
  still : {write : Bool} {xs : List ℤ} {b c n : ℕ} → Ran v write 0 (target inPlace older₀ out₀) xs 0 b (Some n) → b ≤ c
      → ((k : ℕ) → b ≤ k → k < c → moving g k ≡ false)
      → Ran v write 0 xs xs b c (Some 0)
  still {write} {xs} {b} {c} r o all =
      ran_all
      (filled_there (λ k. (v k).value) write 0 xs b c
      (λ k l m. (r.filled refl).kept (k - 0) (inr (inr (omega arith))) ∙ ap (point (target inPlace older₀ out₀)) (sub-zero k)
      ∙ s.room.still k (all k l m) ∙ sym (next-still i h older₀ newer k (all k l m))))
      (λ k l m. ap beyond (next-still i h older₀ newer k (all k l m)))
      (counted_not o (λ k l m. ap (λ (t : Bool). write && t) (inexact_still i h older₀ newer k (all k l m)) ∙ and-false write))

  and_still : {write : Bool} {older out : List ℤ} {b c n : ℕ} → Passing i h write inPlace older₀ newer out₀ older out 0 b (Some n) → b ≤ c
      → ((k : ℕ) → b ≤ k → k < c → moving g k ≡ false)
      → Passing i h write inPlace older₀ newer out₀ older out 0 c (Some n)
  and_still {write} {older} {out} {b} {c} {n} q l all = record {
    ran = subst (λ (m : ℕ). Ran v write 0 (target inPlace older₀ out₀) (target inPlace older out) 0 c (Some m)) (omega arith)
        (ran_append zero-le zero-le l q.ran (still q.ran l all));
    older_long = q.older_long;
    out_long = q.out_long;
    kept = q.kept;
  }

  module _ {write : Bool} {older out : List ℤ} {row start n : ℕ} (l : Rows i h write inPlace older₀ newer out₀ older out row start n)
      (m : row < g.rows) (r : Run) (e : r ≡ run_of g row) where
    pub run_here : RowRun g start r
    run_here =
        subst (λ (n : ℕ). RowRun g n r) (sym l.start_is)
        (subst (RowRun g (row * g.columns)) (sym e) (row-run g row s.planned.passes.size m))

    -- the row lies in the grid
    pub row_room : start + g.columns ≤ points g
    row_room = omega (arith, l.start_is, row_inside row g.rows g.columns m)

    pub run_moves : Moves g (start + r.from) (start + r.to)
    run_moves = record { order = omega (arith, run_here.rising); each = run_here.moves }

    module _ {older' out' : List ℤ} {x : Option ℕ}
        (q : Passing i h write inPlace older newer out older' out' (start + r.from) (start + r.to) x) where
      as_far : Passing i h write inPlace older₀ newer out₀ older out 0 (start + r.from) (Some n)
      as_far = and_still l.done (omega arith) run_here.before

      -- a value of the row lies beyond the ceiling
      pub rows_stop : all_within x ≡ false → Passing i h write inPlace older₀ newer out₀ older' out' 0 (points g) x
      rows_stop y = passing_stops zero-le run_moves.order as_far q (omega (arith, run_here.inside, row_room)) y

      -- one more row
      module _ (y : all_within x ≡ true) where
        row_done : Passing i h write inPlace older₀ newer out₀ older' out' 0 (start + r.to) (Some (n + inexact_of x))
        row_done = passing_append zero-le run_moves.order as_far q y

        pub rows_more : Rows i h write inPlace older₀ newer out₀ older' out' (row + 1) (start + g.columns) (n + inexact_of x)
        rows_more = record {
          start_is = ap (λ (n : ℕ). n + g.columns) l.start_is ∙ next_row row g.columns;
          upto = omega arith;
          done = and_still row_done (omega (arith, run_here.inside)) run_here.after;
        }

        -- no more points are inexact than there are
        pub rows_most : n + inexact_of x ≤ points g
        rows_most = omega (arith, passing_most row_done, run_here.inside, row_room)

  -- after the last row
  pub rows_done : {write : Bool} {older out : List ℤ} {row start n : ℕ} → Rows i h write inPlace older₀ newer out₀ older out row start n
      → g.rows ≤ row → Passing i h write inPlace older₀ newer out₀ older out 0 (points g) (Some n)
  rows_done {write} {older} {out} {row} {n = n} l m =
      let last : row ≡ g.rows = omega (arith, l.upto) in
      subst (λ (k : ℕ). Passing i h write inPlace older₀ newer out₀ older out 0 k (Some n))
      (l.start_is ∙ ap (λ (n : ℕ). n * g.columns) last ∙ mul_comm g.rows g.columns) l.done

  -- ---- what a step leaves

  -- every point has its next value
  pub stepped-all : {write : Bool} {older out : List ℤ} {n : ℕ}
      → Passing i h write inPlace older₀ newer out₀ older out 0 (points g) (Some n)
      → Passed i h write inPlace older₀ newer out₀ older out (Some n)
  unfolding next_level inexact_in
  stepped-all {write} {older} {out} {n} q =
      let ran = q.ran in
      let low : some_beyond (next_level i h older₀ newer) ≡ false =
      all-low (next_level i h older₀ newer)
      (λ k m. ltb-false ceiling _ (ap beyond (next-point i h older₀ newer k)
      ∙ ran.low refl k zero-le (omega (arith, length-next i h older₀ newer)))) in
      record {
        stepped = record {
          within_is = sym (ap not low);
          next_is = λ w t. is_tabulate (points g) (next_at i h older₀ newer) (pos 0) (target inPlace older out) (ran.long ∙ s.room.long)
              (λ k m. ap (point (target inPlace older out)) (sym (sub-zero k)) ∙ (ran.filled refl).written w k zero-le m);
          inexact_is = λ w t. counted_all (coe 0 1 (j. Counted (λ k. w j && (v k).inexact) 0 (points g) n) (ran.counted refl));
          long = ran.long ∙ s.room.long;
        };
        passing = q;
      }

  -- a next value lies beyond the ceiling
  pub stepped-not : {write : Bool} {older out : List ℤ} {x : Option ℕ}
      → Passing i h write inPlace older₀ newer out₀ older out 0 (points g) x
      → all_within x ≡ false → Passed i h write inPlace older₀ newer out₀ older out x
  unfolding some_beyond
  stepped-not q e =
      let o = q.ran.stopped e in
      let next = next_level i h older₀ newer in
      record {
        stepped = record {
          within_is = e ∙ sym (ap not (some_at (length next) (λ k. beyond (point next k)) o.at
              (omega (arith, o.last, length-next i h older₀ newer))
              (ap beyond (next-point i h older₀ newer o.at) ∙ o.beyond_there)));
          next_is = λ w t. absurd (true≢false (sym t ∙ e));
          inexact_is = λ w t. absurd (true≢false (sym t ∙ e));
          long = q.ran.long ∙ s.room.long;
        };
        passing = q;
      }
