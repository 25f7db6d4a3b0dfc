-- The rows passed have their next values.
use mathlib.Core.Bool.{not}
use lib.Dec.{eqb}
use Rattle.std.proofs.Common.{Option, arith, refl, sym, ◌+◌, ◌*◌, ◌≤◌, ◌<◌, ℕ, Bool, List, ℤ, get_or, Some, None}
use mathlib.Core.Path.{subst₂}
use Rattle.types.specs.declared.Hit.{Hit}
use Rattle.scheme.specs.Instruments.{points}
use Rattle.kinds.specs.Runs.{run_of}
use Rattle.levels.proofs.LevelLaws.{next_row}
use Rattle.plans.specs.declared.Plan.{Plan}
use Rattle.steps.specs.Run.{Moves}
use Rattle.steps.specs.Edges.{EdgesOf}
use Rattle.steps.specs.Pass.{Passable, Passing}
use Rattle.steps.proofs.PlanLaws.{few_rows, few_points}
use Rattle.steps.proofs.PassLaws.{room_within, passing_ready}
use Rattle.steps.proofs.RowLaws.{Rows, rows_at, rows_done, steppable_ready, run_here, row_room, run_moves, rows_stop}
use Rattle.steps.proofs.RowLaws.{rows_more, rows_most, stepped-all, stepped-not}
use Rattle.steps.proofs.level.level_run.Goals as goal

-- a row lies in the level
row-inside : {p : Plan} {h : Option Hit} {write inPlace : Bool} {older₀ newer out₀ older out : List ℤ} {n : ℕ} (xs : List ℕ) (row : ℕ)
    → Passable p h inPlace older₀ newer out₀ → EdgesOf p.instrument.grid xs
    → Rows p.instrument h write inPlace older₀ newer out₀ older out row (row * p.instrument.grid.columns) n
    → row < p.instrument.grid.rows → get_or xs (64 + row) 0 ≤ points p.instrument.grid
row-inside {p} xs row a e inv below =
    let here = run_of p.instrument.grid row in
    omega (arith, e.to_is row below, (run_here a inv below here refl).inside, row_room a inv below here refl)

pub offset_bounds-layout-row : goal.offset_bounds-layout-row
offset_bounds-layout-row g c = record { fits = omega (arith, few_rows c.requires.passable.given.planned) }

pub bounds-layout-row : goal.bounds-layout-row
bounds-layout-row g c = omega (arith, few_rows c.requires.passable.given.planned)

pub overflow_add-to : goal.overflow_add-to
overflow_add-to g c = record { fits = omega (arith, few_rows c.requires.passable.given.planned) }

pub offset_bounds-layout-row-in-loop-row : goal.offset_bounds-layout-row-in-loop-row
offset_bounds-layout-row-in-loop-row g c = record { fits = omega (arith, few_rows c.requires.passable.given.planned) }

pub bounds-layout-row-in-loop-row : goal.bounds-layout-row-in-loop-row
bounds-layout-row-in-loop-row g c = omega (arith, few_rows c.requires.passable.given.planned)

pub row_pass-requires-clause-ready : goal.row_pass-requires-clause-ready
row_pass-requires-clause-ready g c =
    let p = c.requires.passable in
    let done = c.loop-row.invariant.done in
    let e = c.args.layout.now in
    let inside = row-inside e.edges.now c.loop-row.row p e.edges_of c.loop-row.invariant c.loop-row-test.true in
    (passing_ready (steppable_ready p.given) done, room_within p.room inside done.out_long)

pub row_pass-requires-clause-moves : goal.row_pass-requires-clause-moves
row_pass-requires-clause-moves g c =
    let p = c.requires.passable in
    let e = c.args.layout.now.edges_of in
    let k = c.loop-row.row in
    let below = c.loop-row-test.true in (
      subst₂ (Moves c.args.layout.now.plan.instrument.grid) (sym (e.from_is k below)) (sym (e.to_is k below))
          (run_moves p c.loop-row.invariant below (run_of c.args.layout.now.plan.instrument.grid k) refl),
      p.given.hit_low,
      c.requires.soft,
    )

pub returns-in_err-inexact : goal.returns-in_err-inexact
returns-in_err-inexact g c =
    let p = c.requires.passable in
    let e = c.args.layout.now.edges_of in
    let below = c.loop-row-test.true in
    let here = run_of c.args.layout.now.plan.instrument.grid c.loop-row.row in
    let left = subst₂ (λ (from to : ℕ). Passing c.args.layout.now.plan.instrument c.args.hit (not (eqb g.row.WRITE 0))
    (not (eqb g.row.IN_PLACE 0)) c.loop-row.older
    c.args.newer.now c.loop-row.out c.row_pass.new.older c.row_pass.new.out from to (None))
    (e.from_is c.loop-row.row below) (e.to_is c.loop-row.row below) c.in_err-inexact.ensures in
    rw c.from_residual.ensures (stepped-not p (rows_stop p c.loop-row.invariant below here refl left refl) refl)

pub overflow_add-inexact : goal.overflow_add-inexact
overflow_add-inexact g c =
    let p = c.requires.passable in
    let e = c.args.layout.now.edges_of in
    let below = c.loop-row-test.true in
    let here = run_of c.args.layout.now.plan.instrument.grid c.loop-row.row in
    let left = subst₂ (λ (from to : ℕ). Passing c.args.layout.now.plan.instrument c.args.hit (not (eqb g.row.WRITE 0))
    (not (eqb g.row.IN_PLACE 0)) c.loop-row.older
    c.args.newer.now c.loop-row.out c.row_pass.new.older c.row_pass.new.out from to (Some c.in_ok-inexact.field-0))
    (e.from_is c.loop-row.row below) (e.to_is c.loop-row.row below) c.in_ok-inexact.ensures in
    let most = rows_most p c.loop-row.invariant below here refl left refl in
    record { fits = omega (arith, most, few_points p.given.planned) }

pub loop-row-preserved : goal.loop-row-preserved
loop-row-preserved g c =
    let p = c.requires.passable in
    let e = c.args.layout.now.edges_of in
    let below = c.loop-row-test.true in
    let here = run_of c.args.layout.now.plan.instrument.grid c.loop-row.row in
    let left = subst₂ (λ (from to : ℕ). Passing c.args.layout.now.plan.instrument c.args.hit (not (eqb g.row.WRITE 0))
    (not (eqb g.row.IN_PLACE 0)) c.loop-row.older
    c.args.newer.now c.loop-row.out c.row_pass.new.older c.row_pass.new.out from to (Some c.in_ok-inexact.field-0))
    (e.from_is c.loop-row.row below) (e.to_is c.loop-row.row below) c.in_ok-inexact.ensures in
    rows_at (next_row c.loop-row.row c.args.layout.now.plan.instrument.grid.columns)
    (rows_more p c.loop-row.invariant below here refl left refl)

pub returns : goal.returns
returns g c = let p = c.requires.passable in stepped-all p (rows_done p c.loop-row.invariant c.loop-row-test.false)
