-- The block at rest, or the refusal.
use Rattle.std.proofs.Common.{◌∙◌}
use Rattle.ring_playing.proofs.PlayLaws.{refused, plays}
use Rattle.ring_playing.proofs.play_numbers.Goals as goal

pub returns-in-Ok : goal.returns-in-Ok
returns-in-Ok c = c.play_at_rest.ensures ∙ plays _ _ _ _ c.set_up-asked.ensures c.in-Ok.is

pub returns-in-Err : goal.returns-in-Err
returns-in-Err c = refused _ _ _ _ c.set_up-asked.ensures c.in-Err.is
