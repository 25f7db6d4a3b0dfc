-- `settle` meets its contract: slices of one length are copied and exchanged whole.
use Rattle.std.proofs.Common.{arith, ap, ◌∙◌}
use Rattle.std.proofs.lemmas.Grind.{common_steps}
use Rattle.turns.specs.Turns.{of_two}
use Rattle.slices.proofs.SliceLaws.{copied-whole}
use Rattle.block.proofs.settling.settle.Goals as goal

pub returns-in-Second : goal.returns-in-Second
returns-in-Second c =
    let long = c.requires.1 (ap of_two c.in-Second.is) in
    let older = c.copy.ensures ∙ copied-whole _ _ (omega arith) in
    let newer = c.copy-in-Second.ensures ∙ copied-whole _ _ (omega (arith, long)) in
    grind (arith, common_steps, older, newer)

pub returns-in-Last : goal.returns-in-Last
returns-in-Last c =
    let long = c.requires.1 (ap of_two c.in-Last.is) in
    let newer = c.copy-in-Last.ensures ∙ copied-whole _ _ (omega arith) in
    let older = c.copy-in-Last-2.ensures ∙ copied-whole _ _ (omega (arith, long)) in
    grind (arith, common_steps, older, newer)

pub returns-in-Exchanged : goal.returns-in-Exchanged
returns-in-Exchanged c =
    let older = c.exchange.ensures.0 ∙ copied-whole _ _ (omega arith) in
    let newer = c.exchange.ensures.1 ∙ copied-whole _ _ (omega arith) in
    grind (arith, common_steps, older, newer)
