-- `input`, or a run.
use Rattle.std.proofs.Common.{rules, ℕ, List, ◌++◌, drop, refl, sym, ap}
use Rattle.ring_line.specs.Lists.{text}
use Rattle.ring_shell.specs.Answer.{text_for, answer}
use Rattle.ring_shell.proofs.AnswerLaws.{written_same, steps_low}
use Rattle.ring_shell.proofs.put_answer.Goals as goal

pub put_run-requires : goal.put_run-requires
put_run-requires c = (search rules, steps_low c.args.bytes.now _ (sym c.in-Some.ensures))

pub returns-in-None : goal.returns-in-None
unfolding text answer
returns-in-None c =
    let holds = ap (λ (l : List ℕ). l ++ drop 6 c.args.out.now) c.copy_from_slice.ensures.after in
    written_same (ap text_for c.in-None.ensures) (record { ends = refl; holds = holds })

pub returns-in-Some : goal.returns-in-Some
unfolding answer
returns-in-Some c = written_same (ap text_for c.in-Some.ensures) c.put_run.ensures
