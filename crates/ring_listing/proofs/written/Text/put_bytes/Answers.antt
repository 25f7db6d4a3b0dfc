use Rattle.std.proofs.Common.{rules, refl}
use Rattle.std.proofs.lemmas.Slice.{overwrites}
use Rattle.ring_listing.proofs.written.Text.put_bytes.Goals as goal

pub returns : goal.returns
returns c =
    record {
      ends = refl;
      holds = search (rules, overwrites);
      kept = search (rules, overwrites);
      same = refl;
      long = search (rules, overwrites);
    }
