-- The first point, the inner points, the last point.
use Rattle.std.proofs.Common.{rules, arith, ◌≡◌, sym, false, ℕ, ◌-◌, ◌≤◌, ◌<◌, ℤ, pos, List, length}
use mathlib.Core.Path.{subst}
use Rattle.plans.specs.declared.Plan.{Plan}
use Rattle.stretches.specs.declared.Stretch.{Stretch}
use Rattle.stretches.specs.Stretches.{clamp}
use Rattle.stretches.proofs.StretchLaws.{clamp-low, clamp_high, clamp_rises}
use Rattle.steps.specs.Plan.{Ready}
use Rattle.steps.specs.Run.{Moves, OnLine, FreeEnd, two_beside}
use Rattle.steps.proofs.BesideLaws.{line-beside}
use Rattle.steps.proofs.LineLaws.{three, first-end, last_end, inner-line}
use Rattle.steps.proofs.FillLaws.{tested_append, tested_stops}
use Rattle.steps.proofs.basis.Basis.is_string_within.Goals as goal

-- the points as a stretch
abbrev whole : (from to : ℕ) → Stretch
whole from to = record { from = from; to = to; force = pos 0; base = 0; write = false }

-- where its parts end
record Parts (p : Plan) (from to n a b : ℕ) : Type 0 where
  wide : 3 ≤ n
  first : FreeEnd p.instrument 1 from a
  inner : OnLine p.instrument.grid a b
  last : FreeEnd p.instrument (n - 2) b to
  from-a : from ≤ a
  a-b : a ≤ b
  b-to : b ≤ to

parts : {p : Plan} {older newer : List ℤ} {from to a b : ℕ} → Ready p (pos 0) older newer → p.instrument.grid.rows ≡ 1
    → Moves p.instrument.grid from to → from < to → a ≡ clamp from to 1 → b ≡ clamp from to (length newer - 1)
    → Parts p from to (length newer) a b
parts {p} {newer = newer} {from} {to} {a} {b} r line all some a-is b-is =
    let n = length newer in
    let wide = three (whole from to) r line all some in
    let order : from ≤ to = omega arith in
    record {
      wide = wide;
      first = subst (FreeEnd p.instrument 1 from) (sym a-is) (first-end (whole from to) r line all some);
      inner = coe 1 0 (j. OnLine p.instrument.grid (a-is j) (b-is j)) (inner-line (whole from to) r line all some);
      last = subst (λ (k : ℕ). FreeEnd p.instrument (n - 2) k to) (sym b-is) (last_end (whole from to) r line all some);
      from-a = omega (arith, a-is, clamp-low from to order 1);
      a-b = omega (arith, a-is, b-is, clamp_rises from to order 1 (n - 1) (omega (arith, wide)));
      b-to = omega (arith, b-is, clamp_high from to order (n - 1));
    }

pub overflow_sub-n : goal.overflow_sub-n
overflow_sub-n c =
    let m = c.requires.one_row in omega (arith, three (whole c.args.from c.args.to) c.args.self.ready m.0 m.1 m.2)

pub is_end_within-requires-clause-ready : goal.is_end_within-requires-clause-ready
is_end_within-requires-clause-ready c =
    let r = c.requires.ready in
    let m = c.requires.one_row in
    (r.0, (parts c.args.self.ready m.0 m.1 m.2 c.clamped-first.ensures c.clamped-last.ensures).from-a)

pub is_end_within-requires-clause-free_end : goal.is_end_within-requires-clause-free_end
is_end_within-requires-clause-free_end c =
    let m = c.requires.one_row in (parts c.args.self.ready m.0 m.1 m.2 c.clamped-first.ensures c.clamped-last.ensures).first

pub returns-then-not-is_end_within : goal.returns-then-not-is_end_within
returns-then-not-is_end_within c =
    let m = c.requires.one_row in
    let p = parts c.args.self.ready m.0 m.1 m.2 c.clamped-first.ensures c.clamped-last.ensures in
    tested_stops (omega (arith, p.a-b, p.b-to)) c.is_end_within.ensures c.if-not-is_end_within.true

pub is_run_within-requires-clause-ready : goal.is_run_within-requires-clause-ready
is_run_within-requires-clause-ready c =
    let r = c.requires.ready in
    let m = c.requires.one_row in
    (r.0, (parts c.args.self.ready m.0 m.1 m.2 c.clamped-first.ensures c.clamped-last.ensures).a-b)

pub is_run_within-requires-clause-sums : goal.is_run_within-requires-clause-sums
is_run_within-requires-clause-sums c =
    let r = c.requires.ready in
    let m = c.requires.one_row in
    let p = parts c.args.self.ready m.0 m.1 m.2 c.clamped-first.ensures c.clamped-last.ensures in
    let inner : OnLine c.args.self.plan.instrument.grid c.clamped-first.result c.clamped-last.result = p.inner in
    record {
      callable = λ k a b. search rules;
      gives = λ k sum a b q.
          let e : sum ≡ two_beside c.args.self.newer.now k = search rules in
          rw e (line-beside c.args.self.plan.instrument c.args.self.ready.planned.passes inner r.1 c.args.self.newer.now k a b);
    }

pub returns-then-not-is_run_within : goal.returns-then-not-is_run_within
returns-then-not-is_run_within c =
    let m = c.requires.one_row in
    let p = parts c.args.self.ready m.0 m.1 m.2 c.clamped-first.ensures c.clamped-last.ensures in
    tested_stops p.b-to (tested_append p.from-a c.is_end_within.ensures c.if-not-is_end_within.false c.is_run_within.ensures)
    c.if-not-is_run_within.true

pub overflow_sub-n-2 : goal.overflow_sub-n-2
overflow_sub-n-2 c =
    let m = c.requires.one_row in omega (arith, three (whole c.args.from c.args.to) c.args.self.ready m.0 m.1 m.2)

pub is_end_within-requires-2-clause-ready : goal.is_end_within-requires-2-clause-ready
is_end_within-requires-2-clause-ready c =
    let r = c.requires.ready in
    let m = c.requires.one_row in
    (r.0, (parts c.args.self.ready m.0 m.1 m.2 c.clamped-first.ensures c.clamped-last.ensures).b-to)

pub is_end_within-requires-2-clause-free_end : goal.is_end_within-requires-2-clause-free_end
is_end_within-requires-2-clause-free_end c =
    let m = c.requires.one_row in (parts c.args.self.ready m.0 m.1 m.2 c.clamped-first.ensures c.clamped-last.ensures).last

pub returns : goal.returns
returns c =
    let m = c.requires.one_row in
    let p = parts c.args.self.ready m.0 m.1 m.2 c.clamped-first.ensures c.clamped-last.ensures in
    tested_append (omega (arith, p.from-a, p.a-b))
    (tested_append p.from-a c.is_end_within.ensures c.if-not-is_end_within.false c.is_run_within.ensures)
    c.if-not-is_run_within.false c.is_end_within-2.ensures
