-- The lines of the steps done, and the last line.
use Rattle.std.proofs.Common.{rules, arith, ◌≡◌, List, ℕ, length, ap, ◌∙◌}
use lib.Seq.{length-take-le}
use Rattle.ring_listing.specs.Text.{listing, over}
use Rattle.ring_listing.proofs.TextLaws.{put_put, put_same, put_over, done-length}
use Rattle.ring_listing.proofs.ListingLaws.{within, lines_first}
use Rattle.ring_listing.proofs.put_all.Goals as goal

pub put_steps-requires : goal.put_steps-requires
put_steps-requires c =
    let w = within (length c.args.out.now) (length c.args.samples.now) c.args.count c.args.refusal c.requires in
    let size = length-take-le c.args.count c.args.samples.now w.there in
    (omega (arith, w.few, size), omega (arith, w.few, w.has_room, size, ap length c.new-text.ensures.value))

pub put_done-requires : goal.put_done-requires
put_done-requires c =
    let w = within (length c.args.out.now) (length c.args.samples.now) c.args.count c.args.refusal c.requires in
    let size = length-take-le c.args.count c.args.samples.now w.there in
    let last = done-length c.args.count c.args.refusal (omega (arith, w.few)) w.two_digits in
    let long : length c.put_steps.new.self.buffer.now ≡ length c.args.out.now =
    c.put_steps.ensures.put.long ∙ ap length c.new-text.ensures.value in
    (w.two_digits, omega (arith, c.put_steps.ensures.upper_bound, w.few, w.has_room, size, last, long, c.new-text.ensures.length))

pub returns-clause-value : goal.returns-clause-value
returns-clause-value c =
    let w = within (length c.args.out.now) (length c.args.samples.now) c.args.count c.args.refusal c.requires in
    let steps = put_same (lines_first _ _ w.there) c.put_steps.ensures.put in
    c.len.ensures ∙ (put_over c.new-text.ensures.length (put_put steps c.put_done.ensures)).0

pub returns-clause-out_after : goal.returns-clause-out_after
returns-clause-out_after c =
    let w = within (length c.args.out.now) (length c.args.samples.now) c.args.count c.args.refusal c.requires in
    let steps = put_same (lines_first _ _ w.there) c.put_steps.ensures.put in
    let after = (put_over c.new-text.ensures.length (put_put steps c.put_done.ensures)).1 in
    let same = c.put_done.ensures.same ∙ c.put_steps.ensures.put.same ∙ c.new-text.ensures.same in
    let text : List ℕ = listing c.args.count c.args.samples.now c.args.refusal in
    let whole : c.put_done.new.self.buffer.now ≡ over text c.args.out.now = after ∙ ap (over text) c.new-text.ensures.value in
    search (rules, same, whole)
