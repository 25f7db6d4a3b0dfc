-- One sum more stands in its place.
use Rattle.std.proofs.Common.{arith, ◌≡◌, refl, sym, ap, ◌∙◌, ◌+◌, ◌-◌, ℕ, ℤ, true, zero-le, to_z, of_z, w64}
use native.Mathlib.Nat.{sub-zero}
use lib.ListN.{set}
use Rattle.bounded.proofs.Num.{back}
use Rattle.steps.specs.Run.{Filled, four_beside}
use Rattle.steps.proofs.FillLaws.{filled_append, filled_one}
use Rattle.steps.proofs.plates.put_first.Goals as goal

pub loop-c-preserved : goal.loop-c-preserved
loop-c-preserved c =
    let a = c.args in
    let at = a.place + c.loop-c.c in
    let sums = c.loop-c.sums in
    let v : ℕ → ℤ = λ j. four_beside a.xs.now a.columns (a.columns + (j - a.place)) in
    let more : a.place + (c.loop-c.c + 1) ≡ at + 1 = omega arith in
    let h = c.sum_around in
    let same : a.columns + c.loop-c.c ≡ a.columns + (at - a.place) = omega arith in
    let is = back h.result h.type_inv ∙ h.ensures ∙ ap (four_beside a.xs.now a.columns) same in
    filled_append v true 0 zero-le (omega arith) (omega arith) c.loop-c.invariant
    (coe 0 1 (j. Filled v true 0 sums (set sums (sub-zero at j) (to_z w64 (of_z w64 h.result))) at (sym more j))
    (filled_one v true 0 sums at (to_z w64 (of_z w64 h.result)) refl zero-le
    (omega (arith, c.requires.le_columns, c.loop-c.invariant.long)) is))
