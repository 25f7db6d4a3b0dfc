-- The contract of `block`, over the first points of the arrays.
use Rattle.std.proofs.Common.{ap, ◌∙◌}
use Rattle.ring_playing.specs.Play.{heard_of}
use Rattle.ring_playing.proofs.PlayLaws.{over-rest}
use Rattle.ring_playing.proofs.play_at_rest.Goals as goal

pub returns : goal.returns
returns c = ap heard_of (c.block.ensures ∙ over-rest _ _ _ _ _ c.requires)
