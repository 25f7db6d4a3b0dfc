-- `some_beyond` meets its contract: one more point, one more sign.
use Rattle.std.proofs.Common.{rules}
use Rattle.levels.proofs.SignLaws.{signs}
use Rattle.levels.proofs.levels.some_beyond.Goals as goal

pub loop-v-preserved : goal.loop-v-preserved
loop-v-preserved c = signs c.args.xs.now _ _ _ c.loop-v.invariant (search rules)
