-- The word, and a line of two numbers.
use Rattle.std.proofs.Common.{arith, length, ap, w16}
use mir.ValLaws.{to_z_pos}
use Rattle.ring_line.specs.Lists.{text}
use Rattle.ring_listing.specs.Text.{pair_line, done_line}
use Rattle.ring_listing.proofs.TextLaws.{put_put, put_same, done_parts}
use Rattle.ring_listing.proofs.written.Text.put_done.Goals as goal

pub put_bytes-requires : goal.put_bytes-requires
put_bytes-requires c = omega (arith, done_parts c.args.count c.args.refusal)

pub put_pair-requires : goal.put_pair-requires
put_pair-requires c =
    let p = c.put_bytes.ensures in
    let pair = ap (pair_line c.args.count) (to_z_pos w16 c.args.refusal (omega arith)) in
    omega (arith, p.ends, p.long, done_parts c.args.count c.args.refusal, ap length pair)

pub returns : goal.returns
unfolding done_line text
returns c =
    let pair = ap (pair_line c.args.count) (to_z_pos w16 c.args.refusal (omega arith)) in
    put_put c.put_bytes.ensures (put_same pair c.put_pair.ensures)
