-- A line for each sample passed.
use Rattle.std.proofs.Common.{rules, arith, ◌≡◌, ℕ, suc, ◌+◌, ◌^◌, ◌<◌, ℤ, pos, negsuc, nat_abs, get_or, sym, ap, ◌∙◌, subst}
use Rattle.std.proofs.Common.{w16, to_z, of_z}
use native.Mathlib.Numerals.{add-one}
use lib.Signed.{mag}
use mir.Val.{SFits}
use mir.ValLaws.{to_z-of_z}
use Rattle.ring_listing.specs.Text.{pair_line, step_lines}
use Rattle.ring_listing.proofs.TextLaws.{put_put, put_same, put_nothing, pair_fits, pair_ends}
use Rattle.ring_listing.proofs.written.Text.put_steps.Goals as goal

small : (z : ℤ) → mag z < 2 ^ 15 → nat_abs z < 100000
small (pos n) h = omega arith
small (negsuc k) h = omega arith

-- a sample is its bits, and small
low : (z : ℤ) → SFits w16 z → nat_abs (to_z w16 (of_z w16 z)) < 100000
low z f = subst (λ (v : ℤ). nat_abs v < 100000) (sym (to_z-of_z w16 z f)) (small z f.sfits)

line : (z : ℤ) → SFits w16 z → (i : ℕ) → pair_line (i + 1) (to_z w16 (of_z w16 z)) ≡ pair_line (suc i) z
line z f i = ap (pair_line (i + 1)) (to_z-of_z w16 z f) ∙ ap (λ (k : ℕ). pair_line k z) (add-one i)

pub loop-i-init : goal.loop-i-init
unfolding step_lines
loop-i-init c = record { low = omega arith; lines = put_nothing _ }

pub put_pair-requires : goal.put_pair-requires
put_pair-requires c =
    let fits : SFits w16 (get_or c.args.samples.now c.loop-i.i (pos 0)) = search rules in
    let before = c.loop-i.invariant in
    pair_fits _ _ (omega arith) (low _ fits) c.loop-i.self (omega (arith, before.low, before.lines.long))

pub loop-i-preserved : goal.loop-i-preserved
unfolding step_lines
loop-i-preserved c =
    let fits : SFits w16 (get_or c.args.samples.now c.loop-i.i (pos 0)) = search rules in
    let before = c.loop-i.invariant in
    record {
      low = omega (arith, before.low, pair_ends _ _ (omega arith) (low _ fits) c.put_pair.ensures);
      lines = put_same (ap (λ (k : ℕ). step_lines k c.args.samples.now) (sym (add-one c.loop-i.i)))
          (put_put before.lines (put_same (line _ fits c.loop-i.i) c.put_pair.ensures));
    }
