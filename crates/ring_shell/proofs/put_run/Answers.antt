-- As many places as steps are asked for.
use Rattle.std.proofs.Common.{arith, List, ℤ, pos, ap}
use Rattle.ring_playing.specs.Play.{played}
use Rattle.ring_playing.proofs.PlayLaws.{take-replicate}
use Rattle.ring_shell.specs.Answer.{played_text, run_text}
use Rattle.ring_shell.proofs.AnswerLaws.{written_same}
use Rattle.ring_shell.proofs.put_run.Goals as goal

pub returns : goal.returns
unfolding run_text
returns c =
    let n = c.args.n in
    let silent = take-replicate n.steps 8192 (pos 0) (omega arith) in
    written_same (ap (λ (l : List ℤ). played_text (played n l)) silent) c.put_played.ensures
