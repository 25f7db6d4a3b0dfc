-- The rows passed have their next values, the sums of two rows stand.
use Rattle.std.proofs.Common.{rules, arith, refl, ap, ◌+◌, ◌<◌, ℤ}
use mathlib.Core.Path.{subst}
use Rattle.slices.proofs.SliceLaws.{zeros}
use Rattle.steps.specs.Plan.{Ready}
use Rattle.stretches.specs.declared.Stretch.{Stretch}
use Rattle.steps.proofs.PlanLaws.{few_points}
use Rattle.steps.proofs.RowLaws.{steppable_ready}
use Rattle.steps.proofs.PlateRowLaws.{some_columns, some_rows, few_columns, three_rows, plate_start, in_level}
use Rattle.steps.proofs.PlateRowLaws.{moving_ready, moving_placed, moving_inside, moving-row, moving_sums, plate_stops}
use Rattle.steps.proofs.PlateRowLaws.{plate_most, plate_next, plate_done}
use Rattle.steps.proofs.plates.plate_level.Goals as goal

pub overflow_sub-ring : goal.overflow_sub-ring
overflow_sub-ring g c = omega (arith, some_rows c.requires.passable.0 c.requires.passable.1)

pub put_first-requires-clause-le_columns : goal.put_first-requires-clause-le_columns
put_first-requires-clause-le_columns g c =
    let p = c.requires.passable in
    (some_columns p.0 p.1, three_rows p.0 p.1, omega (arith, few_columns p.0 p.1))

pub put_first-requires-clause-at_most : goal.put_first-requires-clause-at_most
put_first-requires-clause-at_most g c = (steppable_ready c.requires.passable.0.given).newer_low

pub loop-row-init : goal.loop-row-init
loop-row-init g c = plate_start c.requires.passable.0 c.requires.passable.1 _ (zeros 128) refl c.put_first.ensures

pub moving_in-moving-requires : goal.moving_in-moving-requires
moving_in-moving-requires g c =
    let p = c.requires.passable in
    let last : c.loop-row.row + 1 < c.args.plan.instrument.grid.rows = omega arith in
    let room = in_level p.0 p.1 c.loop-row.invariant last in
    (some_columns p.0 p.1, omega (arith, room, few_points p.0.given.planned))

pub invariant_of-basis : goal.invariant_of-basis
invariant_of-basis g c =
    let p = c.requires.passable in
    let last : c.loop-row.row + 1 < c.args.plan.instrument.grid.rows = omega arith in
    let e = c.moving_in-moving.ensures in
    record {
      ready = subst (λ (f : ℤ). Ready c.args.plan f c.loop-row.older c.args.newer.now) (ap (λ (x : Stretch). x.force) e)
          (moving_ready p.0 p.1 c.loop-row.invariant last e);
    }

pub plate_row-requires-clause-ready : goal.plate_row-requires-clause-ready
plate_row-requires-clause-ready g c =
    let p = c.requires.passable in
    let last : c.loop-row.row + 1 < c.args.plan.instrument.grid.rows = omega arith in
    let e = c.moving_in-moving.ensures in (
      moving_placed p.0 p.1 c.loop-row.invariant last e,
      p.0.given.hit_low,
    )

pub plate_row-requires-clause-two_rows : goal.plate_row-requires-clause-two_rows
plate_row-requires-clause-two_rows g c =
    let p = c.requires.passable in
    let last : c.loop-row.row + 1 < c.args.plan.instrument.grid.rows = omega arith in
    let e = c.moving_in-moving.ensures in
    (moving_sums p.0 p.1 c.loop-row.invariant last e, moving-row p.0 p.1 c.loop-row.invariant last e)

pub returns-in_err-n : goal.returns-in_err-n
returns-in_err-n g c =
    let p = c.requires.passable in
    let last : c.loop-row.row + 1 < c.args.plan.instrument.grid.rows = omega arith in
    rw c.from_residual.ensures
    (plate_stops p.0 p.1 c.loop-row.invariant last c.moving_in-moving.ensures c.in_err-n.ensures.0 refl)

pub overflow_add-inexact : goal.overflow_add-inexact
overflow_add-inexact g c =
    let p = c.requires.passable in
    let last : c.loop-row.row + 1 < c.args.plan.instrument.grid.rows = omega arith in
    let most = plate_most p.0 p.1 c.loop-row.invariant last c.moving_in-moving.ensures c.in_ok-n.ensures.0 refl c.put_piece.ensures.0
    c.put_piece.ensures.1 in
    record { fits = omega (arith, most, few_points p.0.given.planned) }

pub put_piece-requires : goal.put_piece-requires
put_piece-requires g c =
    let p = c.requires.passable in
    let last : c.loop-row.row + 1 < c.args.plan.instrument.grid.rows = omega arith in
    let e = c.moving_in-moving.ensures in
    let placed = moving_placed p.0 p.1 c.loop-row.invariant last e in (
      record { order = placed.order; above = placed.above; room = omega (arith, placed.room, c.plate_row.ensures.0.long) },
      moving_inside p.0 p.1 c.loop-row.invariant last e,
    )

pub loop-row-preserved : goal.loop-row-preserved
loop-row-preserved g c =
    let p = c.requires.passable in
    let last : c.loop-row.row + 1 < c.args.plan.instrument.grid.rows = omega arith in
    let q = c.in_ok-n.ensures in
    plate_next p.0 p.1 c.loop-row.invariant last c.moving_in-moving.ensures q.0 refl c.put_piece.ensures.0 c.put_piece.ensures.1
    (q.1 refl) (search rules)

pub returns : goal.returns
returns g c =
    let p = c.requires.passable in
    plate_done p.0 p.1 c.loop-row.invariant (omega (arith, c.loop-row-test.false, some_rows p.0 p.1))
