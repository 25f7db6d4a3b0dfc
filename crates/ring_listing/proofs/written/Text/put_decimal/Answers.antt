-- The fewest digits are the decimal's.
use Rattle.std.proofs.Common.{arith, ◌∙◌, ap, length}
use Rattle.ring_listing.proofs.TextLaws.{put_same, spelled}
use Rattle.ring_listing.proofs.written.Text.put_decimal.Goals as goal

pub put_bytes-requires : goal.put_bytes-requires
put_bytes-requires c =
    omega (arith, ap length (c.decimal-count.ensures.digits ∙ spelled _ c.args.n c.decimal-count.ensures.len), c.requires)

pub returns : goal.returns
returns c = put_same (c.decimal-count.ensures.digits ∙ spelled _ _ c.decimal-count.ensures.len) c.put_bytes.ensures
