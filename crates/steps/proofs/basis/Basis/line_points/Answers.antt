-- The first point, the inner points, the last point.
use Rattle.std.proofs.Common.{arith, ◌≡◌, refl, sym, ◌∙◌, ℕ, ◌-◌, ◌≤◌, zero-le, ℤ, nat_abs, List, length, Option}
use mathlib.Core.Path.{subst}
use Rattle.plans.specs.declared.Plan.{Plan}
use Rattle.stretches.specs.declared.Stretch.{Stretch}
use Rattle.stretches.specs.Stretches.{part_of}
use Rattle.types.specs.Numbers.{ceiling}
use Rattle.steps.proofs.HitLaws.{forced}
use Rattle.steps.specs.Run.{Advanced, Placed, OnLine, FreeEnd}
use Rattle.steps.proofs.FillLaws.{placed_after}
use Rattle.steps.proofs.PlanLaws.{few_points, m_none, m_some}
use Rattle.steps.proofs.BesideLaws.{is_bar}
use Rattle.steps.proofs.LineLaws.{three, first_part, last_part, inner-line, bar-line, first_stops, inner_stops}
use Rattle.steps.proofs.LineLaws.{part_placed, last_stops, all_parts, all_most}
use Rattle.steps.proofs.basis.Basis.line_points.Goals as goal

-- a part of the stretch, as `part` gave it
part-low : (s : Stretch) {q : Stretch} (a e : ℕ) → q ≡ part_of s a e → nat_abs s.force ≤ ceiling → nat_abs q.force ≤ ceiling
part-low s a e is low = subst (λ (q : Stretch). nat_abs q.force ≤ ceiling) (sym is) low

places : {s q : Stretch} {m n : ℕ} (a e : ℕ) → q ≡ part_of s a e → Placed s n → a ≤ e → m ≡ n → Placed q m
places {m = m} a e is placed h l = subst (λ (q : Stretch). Placed q m) (sym is) (placed_after (part_placed a e h placed) l)

advanced : (p : Plan) (s : Stretch) (older newer : List ℤ) {q : Stretch} {out₀ out : List ℤ} {r : Option ℕ} (a e : ℕ) → q ≡ part_of s a e
    → Advanced p q older newer out₀ out q.from q.to r
    → Advanced p s older newer out₀ out (part_of s a e).from (part_of s a e).to r
advanced p s older newer {out₀ = out₀} {out} {r} a e is t =
    subst (λ (q : Stretch). Advanced p q older newer out₀ out q.from q.to r) is t

pub bar_run-requires-clause-on_line : goal.bar_run-requires-clause-on_line
bar_run-requires-clause-on_line c =
    let m = c.requires.one_row in
    let planned = c.args.self.ready.planned in
    let bar = is_bar c.args.self.plan.instrument planned.passes m.0 (m_some planned c.if-self-ne0.true) in
    (bar-line c.args.s (forced c.args.s.force c.args.self.ready c.requires.ready.0) m.0 m.1 m.2 bar, bar)

pub free_end-requires-clause-ready : goal.free_end-requires-clause-ready
free_end-requires-clause-ready c =
    let r = c.requires.ready in (part-low c.args.s 0 1 c.part.ensures r.0, places 0 1 c.part.ensures r.1 zero-le refl)

pub free_end-requires-clause-free_end : goal.free_end-requires-clause-free_end
free_end-requires-clause-free_end c =
    let m = c.requires.one_row in
    subst (λ (q : Stretch). FreeEnd c.args.self.plan.instrument 1 q.from q.to) (sym c.part.ensures)
    (first_part c.args.s (forced c.args.s.force c.args.self.ready c.requires.ready.0) m.0 m.1 m.2)

pub returns-in_err-first : goal.returns-in_err-first
returns-in_err-first c =
    let r = c.requires.ready in
    let m = c.requires.one_row in
    rw c.from_residual.ensures
    (first_stops c.args.s (forced c.args.s.force c.args.self.ready r.0) m.0 m.1 m.2 r.1.above
    (advanced c.args.self.plan c.args.s c.args.self.older.now c.args.self.newer.now 0 1 c.part.ensures c.in_err-first.ensures) refl)

pub overflow_sub-n : goal.overflow_sub-n
overflow_sub-n c = let m = c.requires.one_row in omega (
  arith,
  three c.args.s (forced c.args.s.force c.args.self.ready c.requires.ready.0)
      m.0 m.1 m.2,
)

pub inner_points-requires-clause-ready : goal.inner_points-requires-clause-ready
inner_points-requires-clause-ready c =
    let r = c.requires.ready in
    let m = c.requires.one_row in
    let n = length c.args.self.newer.now in
    let low : 1 ≤ n - 1 = omega (arith, three c.args.s (forced c.args.s.force c.args.self.ready r.0) m.0 m.1 m.2) in
    (part-low c.args.s 1 (n - 1) c.part-2.ensures r.0, places 1 (n - 1) c.part-2.ensures r.1 low c.free_end.ensures.long)

pub inner_points-requires-clause-on_line : goal.inner_points-requires-clause-on_line
inner_points-requires-clause-on_line c =
    let m = c.requires.one_row in (
      subst (λ (q : Stretch). OnLine c.args.self.plan.instrument.grid q.from q.to) (sym c.part-2.ensures)
          (inner-line c.args.s (forced c.args.s.force c.args.self.ready c.requires.ready.0) m.0 m.1 m.2),
      m_none c.args.self.ready.planned c.if-self-ne0.false,
    )

pub returns-in_err-inner : goal.returns-in_err-inner
returns-in_err-inner c =
    let r = c.requires.ready in
    let m = c.requires.one_row in
    let n = length c.args.self.newer.now in
    rw c.from_residual-in_err-inner.ensures
    (inner_stops c.args.s (forced c.args.s.force c.args.self.ready r.0) m.0 m.1 m.2 r.1.above
    (advanced c.args.self.plan c.args.s c.args.self.older.now c.args.self.newer.now 0 1 c.part.ensures c.in_ok-first.ensures)
    (advanced c.args.self.plan c.args.s c.args.self.older.now c.args.self.newer.now 1 (n - 1) c.part-2.ensures c.in_err-inner.ensures) refl)

pub overflow_sub-n-2 : goal.overflow_sub-n-2
overflow_sub-n-2 c = let m = c.requires.one_row in omega (
  arith,
  three c.args.s
      (forced c.args.s.force c.args.self.ready c.requires.ready.0) m.0 m.1 m.2,
)

pub overflow_sub-n-3 : goal.overflow_sub-n-3
overflow_sub-n-3 c = let m = c.requires.one_row in omega (
  arith,
  three c.args.s
      (forced c.args.s.force c.args.self.ready c.requires.ready.0) m.0 m.1 m.2,
)

pub free_end-requires-2-clause-ready : goal.free_end-requires-2-clause-ready
free_end-requires-2-clause-ready c =
    let r = c.requires.ready in
    let n = length c.args.self.newer.now in
    let low : n - 1 ≤ n = omega arith in (
      part-low c.args.s (n - 1) n c.part-3.ensures r.0,
      places (n - 1) n c.part-3.ensures r.1 low (c.inner_points.ensures.long ∙ c.free_end.ensures.long),
    )

pub free_end-requires-2-clause-free_end : goal.free_end-requires-2-clause-free_end
free_end-requires-2-clause-free_end c =
    let m = c.requires.one_row in
    subst (λ (q : Stretch). FreeEnd c.args.self.plan.instrument (length c.args.self.newer.now - 2) q.from q.to) (sym c.part-3.ensures)
    (last_part c.args.s (forced c.args.s.force c.args.self.ready c.requires.ready.0) m.0 m.1 m.2)

pub returns-in_err-last : goal.returns-in_err-last
returns-in_err-last c =
    let r = c.requires.ready in
    let m = c.requires.one_row in
    let n = length c.args.self.newer.now in
    rw c.from_residual-in_err-last.ensures
    (last_stops c.args.s (forced c.args.s.force c.args.self.ready r.0) m.0 m.1 m.2 r.1.above
    (advanced c.args.self.plan c.args.s c.args.self.older.now c.args.self.newer.now 0 1 c.part.ensures c.in_ok-first.ensures)
    (advanced c.args.self.plan c.args.s c.args.self.older.now c.args.self.newer.now 1 (n - 1) c.part-2.ensures c.in_ok-inner.ensures)
    (advanced c.args.self.plan c.args.s c.args.self.older.now c.args.self.newer.now (n - 1) n c.part-3.ensures c.in_err-last.ensures) refl)

pub overflow_add-result : goal.overflow_add-result
overflow_add-result c =
    let r = c.requires.ready in
    let m = c.requires.one_row in
    let n = length c.args.self.newer.now in
    let most = all_most c.args.s (forced c.args.s.force c.args.self.ready r.0) m.0 m.1 m.2 r.1.above
    (advanced c.args.self.plan c.args.s c.args.self.older.now c.args.self.newer.now 0 1 c.part.ensures c.in_ok-first.ensures)
    (advanced c.args.self.plan c.args.s c.args.self.older.now c.args.self.newer.now 1 (n - 1) c.part-2.ensures c.in_ok-inner.ensures)
    (advanced c.args.self.plan c.args.s c.args.self.older.now c.args.self.newer.now (n - 1) n c.part-3.ensures c.in_ok-last.ensures) in
    record { fits = omega (arith, most, c.args.self.ready.newer_long, few_points c.args.self.ready.planned) }

pub overflow_add-result-2 : goal.overflow_add-result-2
overflow_add-result-2 c =
    let r = c.requires.ready in
    let m = c.requires.one_row in
    let n = length c.args.self.newer.now in
    let most = all_most c.args.s (forced c.args.s.force c.args.self.ready r.0) m.0 m.1 m.2 r.1.above
    (advanced c.args.self.plan c.args.s c.args.self.older.now c.args.self.newer.now 0 1 c.part.ensures c.in_ok-first.ensures)
    (advanced c.args.self.plan c.args.s c.args.self.older.now c.args.self.newer.now 1 (n - 1) c.part-2.ensures c.in_ok-inner.ensures)
    (advanced c.args.self.plan c.args.s c.args.self.older.now c.args.self.newer.now (n - 1) n c.part-3.ensures c.in_ok-last.ensures) in
    record { fits = omega (arith, most, c.args.self.ready.newer_long, few_points c.args.self.ready.planned) }

pub returns : goal.returns
returns c =
    let r = c.requires.ready in
    let m = c.requires.one_row in
    let n = length c.args.self.newer.now in
    all_parts c.args.s (forced c.args.s.force c.args.self.ready r.0) m.0 m.1 m.2 r.1.above
    (advanced c.args.self.plan c.args.s c.args.self.older.now c.args.self.newer.now 0 1 c.part.ensures c.in_ok-first.ensures)
    (advanced c.args.self.plan c.args.s c.args.self.older.now c.args.self.newer.now 1 (n - 1) c.part-2.ensures c.in_ok-inner.ensures)
    (advanced c.args.self.plan c.args.s c.args.self.older.now c.args.self.newer.now (n - 1) n c.part-3.ensures c.in_ok-last.ensures)
