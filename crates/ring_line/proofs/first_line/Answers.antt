-- By where the first line feed stands.
use Rattle.std.proofs.Common.{arith, ℕ, sym, ap, ◌∙◌, take}
use Rattle.ring_line.specs.Requests.{line_feed}
use Rattle.ring_line.proofs.ListLaws.{first_some, first_none, before-take, before_all}
use Rattle.ring_line.proofs.first_line.Goals as goal

pub returns-in-Some : goal.returns-in-Some
returns-in-Some c =
    let bytes = c.args.bytes.now in
    ap (λ (k : ℕ). take k bytes) (first_some line_feed bytes c.in-Some.ensures).0 ∙ before-take line_feed bytes

pub returns-in-None : goal.returns-in-None
returns-in-None c =
    let bytes = c.args.bytes.now in sym (before_all line_feed bytes (omega (arith, first_none line_feed bytes c.in-None.ensures)))
