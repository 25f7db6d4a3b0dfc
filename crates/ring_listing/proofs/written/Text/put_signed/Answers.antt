-- The sign, and the magnitude.
use Rattle.std.proofs.Common.{arith, ℤ, nat_abs, length, ap, ◌∙◌, w16}
use mir.ValLaws.{to_z-of_z}
use Rattle.ring_listing.specs.Text.{decimal}
use Rattle.ring_listing.specs.Put.{sign}
use Rattle.ring_listing.proofs.TextLaws.{put_put, put_same, signed_parts, signed_long}
use Rattle.ring_listing.proofs.written.Text.put_signed.Goals as goal

pub put_sign-requires : goal.put_sign-requires
put_sign-requires c =
    let v = c.args.value in omega (arith, signed_long v, ap (λ (z : ℤ). length (sign z)) (to_z-of_z w16 v c.ranges.value))

pub put_decimal-requires : goal.put_decimal-requires
put_decimal-requires c =
    let v = c.args.value in
    let back = to_z-of_z w16 v c.ranges.value in
    let p = c.put_sign.ensures in
    let size = c.from.ensures ∙ c.unsigned_abs.ensures.value ∙ ap nat_abs back in
    omega (arith, signed_long v, p.ends, p.long, ap (λ (z : ℤ). length (sign z)) back, ap (λ n. length (decimal n)) size)

pub returns : goal.returns
returns c =
    let back = to_z-of_z w16 c.args.value c.ranges.value in
    let size = c.from.ensures ∙ c.unsigned_abs.ensures.value ∙ ap nat_abs back in
    put_same (signed_parts c.args.value)
    (put_put (put_same (ap sign back) c.put_sign.ensures) (put_same (ap decimal size) c.put_decimal.ensures))
