-- The pieces passed have their values.
use mathlib.Core.Bool.{not}
use borrow.Author.Tests.{eq-eqb}
use lib.Dec.{eqb}
use Rattle.std.proofs.Common.{Option, arith, refl, ◌≡◌, sym, ap, ◌∙◌, ◌≤◌, ◌<◌, ℕ, Bool, List, ℤ, pos, length, Some}
use mathlib.Core.Path.{subst}
use Rattle.types.specs.declared.Hit.{Hit}
use Rattle.scheme.specs.Instruments.{points}
use Rattle.plans.specs.declared.Plan.{Plan}
use Rattle.stretches.proofs.PieceLaws.{PieceEnds, piece-ends}
use Rattle.stretches.specs.declared.Stretch.{Stretch}
use Rattle.stretches.specs.Pieces.{base_of, piece_at}
use Rattle.steps.specs.Plan.{Ready}
use Rattle.steps.specs.Run.{Placed, Moves}
use Rattle.steps.specs.Pass.{Passing, RowRoom}
use Rattle.steps.proofs.PlanLaws.{few_points}
use Rattle.steps.proofs.HitLaws.{some_move, run_inside}
use Rattle.steps.proofs.PassLaws.{piece_placed, passing_append, passing_stops, passing_most}
use Rattle.steps.proofs.PassLaws.{passing_ready, stretch_passing, stretch_stops, tested_passing}
use Rattle.steps.proofs.level.row_pass.Goals as goal

-- the points a..b as a piece
abbrev ending : (write inPlace : Bool) (a b : ℕ) → Stretch
ending write inPlace a b = record { from = a; to = b; force = pos 0; base = base_of inPlace a; write = write }

-- the piece x of a turn, from `at` on
record Piece (p : Plan) (write inPlace : Bool) (older newer out : List ℤ) (at to : ℕ) (x : Stretch) : Type 0 where
  is : x ≡ ending write inPlace at x.to
  ends : PieceEnds inPlace at to x.to
  ready : Ready p (pos 0) older newer
  moves : Moves p.instrument.grid at x.to
  inside : x.to ≤ points p.instrument.grid
  placed : Placed x (length out)

piece_of : {p : Plan} {h : Option Hit} {write inPlace : Bool} {older₀ newer out₀ older out : List ℤ} {from at to n : ℕ} {x : Stretch}
    → Ready p (pos 0) older₀ newer × RowRoom inPlace to out₀ → Moves p.instrument.grid from to
    → Passing p.instrument h write inPlace older₀ newer out₀ older out from at (Some n) → from ≤ at → at < to
    → x ≡ piece_at inPlace at to write
    → Piece p write inPlace older newer out at to x
piece_of {p} {write = write} {inPlace} {out = out} {at = at} {to} {x = x} r moves done low more e =
    let ends : PieceEnds inPlace at to x.to =
    subst (λ (x : Stretch). PieceEnds inPlace at to x.to) (sym e) (piece-ends inPlace more) in
    let here = some_move moves low (omega (arith, ends.some)) ends.upto in
    record {
      is = e ∙ ap (λ (n : ℕ). ending write inPlace at n) (sym (ap (λ (x : Stretch). x.to) e));
      ends = ends;
      ready = passing_ready r.0 done;
      moves = here;
      inside = run_inside here ends.some;
      placed = subst (λ (x : Stretch). Placed x (length out)) (sym e)
          (let f = piece-ends inPlace more in piece_placed inPlace (omega (arith, f.some)) f.few f.upto r.1 done.out_long);
    }

pub returns-then-plan-eq0 : goal.returns-then-plan-eq0
returns-then-plan-eq0 g c =
    let a = c.args in
    tested_passing a.plan.instrument a.hit (not (eqb g.row.IN_PLACE 0)) c.is_row_within.result c.requires.moves.0.order
    (ap not (eq-eqb g.row.WRITE 0 c.if-not-this.true))
    c.is_row_within.ensures c.then_some.ensures

pub invariant_of-basis : goal.invariant_of-basis
invariant_of-basis g c = record { ready = c.requires.ready.0 }

pub invariant_of-basis-in-loop-at : goal.invariant_of-basis-in-loop-at
invariant_of-basis-in-loop-at g c =
    let i = c.loop-at.invariant in
    record { ready = (piece_of c.requires.ready c.requires.moves.0 i.0 i.1 c.loop-at-test.true c.piece_at-piece.ensures).ready }

pub row_stretches-requires-clause-ready : goal.row_stretches-requires-clause-ready
row_stretches-requires-clause-ready g c =
    let i = c.loop-at.invariant in
    let b = piece_of c.requires.ready c.requires.moves.0 i.0 i.1 c.loop-at-test.true c.piece_at-piece.ensures in
    b.placed

pub returns-in_err-n : goal.returns-in_err-n
returns-in_err-n g c =
    let a = c.args in
    let i = c.loop-at.invariant in
    let b = piece_of c.requires.ready c.requires.moves.0 i.0 i.1 c.loop-at-test.true c.piece_at-piece.ensures in
    rw c.from_residual.ensures
    (passing_stops i.1 b.moves.order i.0
    (stretch_stops a.plan.instrument a.hit (not (eqb g.row.WRITE 0)) (not (eqb g.row.IN_PLACE 0)) b.is c.in_err-n.ensures refl)
    b.ends.upto refl)

pub overflow_add-inexact : goal.overflow_add-inexact
overflow_add-inexact g c =
    let a = c.args in
    let i = c.loop-at.invariant in
    let b = piece_of c.requires.ready c.requires.moves.0 i.0 i.1 c.loop-at-test.true c.piece_at-piece.ensures in
    let q = passing_append i.1 b.moves.order i.0
    (stretch_passing a.plan.instrument a.hit (not (eqb g.row.WRITE 0)) (not (eqb g.row.IN_PLACE 0)) b.is c.in_ok-n.ensures refl
    c.put_piece.ensures.0 c.put_piece.ensures.1)
    refl in
    record { fits = omega (arith, passing_most q, b.inside, few_points b.ready.planned) }

pub put_piece-requires : goal.put_piece-requires
put_piece-requires g c =
    let i = c.loop-at.invariant in
    let b = piece_of c.requires.ready c.requires.moves.0 i.0 i.1 c.loop-at-test.true c.piece_at-piece.ensures in (
      record { order = b.placed.order; above = b.placed.above; room = omega (arith, b.placed.room, c.row_stretches.ensures.long) },
      omega (arith, b.inside, b.ready.older_long),
    )

pub loop-at-preserved : goal.loop-at-preserved
loop-at-preserved g c =
    let a = c.args in
    let i = c.loop-at.invariant in
    let b = piece_of c.requires.ready c.requires.moves.0 i.0 i.1 c.loop-at-test.true c.piece_at-piece.ensures in (
      passing_append i.1 b.moves.order i.0
          (stretch_passing a.plan.instrument a.hit (not (eqb g.row.WRITE 0)) (not (eqb g.row.IN_PLACE 0)) b.is c.in_ok-n.ensures refl
          c.put_piece.ensures.0 c.put_piece.ensures.1) refl,
      omega (arith, i.1, b.ends.some),
      b.ends.upto,
    )
