-- The listing of what is heard.
use Rattle.std.proofs.Common.{arith, ◌≤◌, ◌<◌, length, sym, ap, ◌∙◌}
use Rattle.ring_playing.specs.Play.{Heard}
use Rattle.ring_playing.proofs.PlayLaws.{played-steps}
use Rattle.ring_listing.specs.Text.{listing}
use Rattle.ring_listing.proofs.ListingLaws.{lists}
use Rattle.ring_shell.specs.Answer.{played_text}
use Rattle.ring_shell.proofs.AnswerLaws.{written_same, outcome-low}
use Rattle.ring_shell.proofs.put_played.Goals as goal

pub returns : goal.returns
returns c =
    let heard = c.play_numbers-answer.ensures in
    let done = c.play_numbers-answer.result.steps in
    let samples = c.play_numbers-answer.new.samples in
    let refusal = c.number_of.result in
    let there : done ≤ length samples =
    omega (arith, ap (λ (h : Heard). h.answer.steps) heard, played-steps c.args.n c.args.samples.now)
    in
    let two_digits : refusal < 100 = omega (arith, c.number_of.ensures, outcome-low c.play_numbers-answer.result.outcome) in
    let written = lists c.args.out.now done samples refusal (omega arith) (omega arith) there two_digits in
    written_same (sym written ∙ ap (listing done samples) c.number_of.ensures ∙ ap played_text heard)
    (record { ends = c.put_listing.ensures.value; holds = c.put_listing.ensures.out_after })
