-- Four texts, one after the other.
use Rattle.std.proofs.Common.{arith, ℤ, length, ap, w16}
use mir.ValLaws.{to_z-of_z}
use Rattle.ring_line.specs.Lists.{text}
use Rattle.ring_listing.specs.Text.{signed_decimal, pair_line}
use Rattle.ring_listing.proofs.TextLaws.{put_put, put_same, pair_parts}
use Rattle.ring_listing.proofs.written.Text.put_pair.Goals as goal

pub put_decimal-requires : goal.put_decimal-requires
put_decimal-requires c = omega (arith, pair_parts c.args.number c.args.value)

pub put_bytes-requires : goal.put_bytes-requires
put_bytes-requires c =
    let p = c.put_decimal.ensures in omega (arith, pair_parts c.args.number c.args.value, p.ends, p.long)

pub put_signed-requires : goal.put_signed-requires
put_signed-requires c =
    let p = c.put_decimal.ensures in
    let q = c.put_bytes.ensures in
    let value = ap (λ (z : ℤ). length (signed_decimal z)) (to_z-of_z w16 c.args.value c.ranges.value) in
    omega (arith, value, pair_parts c.args.number c.args.value, p.ends, p.long, q.ends, q.long)

pub put_bytes-requires-2 : goal.put_bytes-requires-2
put_bytes-requires-2 c =
    let p = c.put_decimal.ensures in
    let q = c.put_bytes.ensures in
    let r = c.put_signed.ensures in
    let value = ap (λ (z : ℤ). length (signed_decimal z)) (to_z-of_z w16 c.args.value c.ranges.value) in
    omega (arith, value, pair_parts c.args.number c.args.value, p.ends, p.long, q.ends, q.long, r.ends, r.long)

pub returns : goal.returns
unfolding pair_line text
returns c =
    let value = put_same (ap signed_decimal (to_z-of_z w16 c.args.value c.ranges.value)) c.put_signed.ensures in
    put_put c.put_decimal.ensures (put_put c.put_bytes.ensures (put_put value c.put_bytes-2.ensures))
