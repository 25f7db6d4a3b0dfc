-- The line that was read decides the answer, and all of it is written.
use Rattle.std.proofs.Common.{rules}
use Rattle.ring_shell.proofs.ReadingLaws.{printed}
use Rattle.ring_shell.proofs.print_answer.Goals as goal

pub returns : goal.returns
returns g c =
    printed c.write_all.result (g.R.Read.remaining c.args.input.now) _ _ _ _ _ c.answer-size.result (search rules)
    c.answer-size.ensures.value c.answer-size.ensures.out_after c.in_ok-n.ensures.line c.write_all.ensures.bytes
