-- `value` meets its contract: the place is in the table, no product passes 2⁶³, and the quotient is cut toward zero.
use Rattle.std.proofs.Common.{ℕ, ◌-◌, ◌*◌, ◌/◌, ◌≡◌, ◌<◌, ap, ◌∙◌, slice_index_or, arith, pos, ◌*ℤ◌}
use lib.Signed.{quot_z}
use Rattle.bounded.proofs.Expr.{E, at, num, ◌⊠◌, ◌÷◌, fits, is}
use Rattle.types.specs.Numbers.{ceiling}
use Rattle.pluck_table.proofs.TableLaws.{entry_high}
use Rattle.pluck.specs.declared.shape.Shape.{Shape}
use Rattle.pluck.specs.Shapes.{step_of}
use Rattle.pluck.proofs.PlaceLaws.{place_by_steps, in_table}
use Rattle.pluck.proofs.shape.Shape.value.Goals as goal

-- the arithmetic of the code
module _ (s : Shape) (step d : ℕ) (is-step : step ≡ step_of s.width) where
  abbrev place : ℕ
  place = (s.width - d) * step / 4294967296

  inside : place < 1025
  inside = in_table s.width d step is-step s.some s.narrow

  abbrev entry# : E
  entry# = at (pos (slice_index_or s.table.entries.now place 0)) 65536 (entry_high _ s.table.rule place inside)

  abbrev product# : E
  product# = at s.height ceiling s.low ⊠ entry#

  abbrev value# : E
  value# = product# ÷ num 65536

pub bounds-self-j : goal.bounds-self-j
bounds-self-j c = let s = c.args.self.now in omega (arith, inside s c.args.step c.args.d c.requires.0, s.table.rule.long)

pub overflow_mul-result : goal.overflow_mul-result
overflow_mul-result c = fits (product# c.args.self.now c.args.step c.args.d c.requires.0) tt

pub returns : goal.returns
returns c =
    let s = c.args.self.now in
    is (value# s c.args.step c.args.d c.requires.0) tt ∙
    ap (λ (j : ℕ). quot_z (s.height *ℤ pos (slice_index_or s.table.entries.now j 0)) (pos 65536))
    (place_by_steps s.width c.args.d c.args.step c.requires.0 s.some s.narrow)
