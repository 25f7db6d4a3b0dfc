-- `copy` meets its contract: one more point, and at the end all that both have.
use Rattle.std.proofs.Common.{rules, arith, pos, get_or}
use mir.Syntax.{w64}
use mir.Val.{SFits}
use mir.ValLaws.{to_z-of_z}
use Rattle.slices.proofs.SliceLaws.{passed_none, passed-more, passed-all}
use Rattle.slices.proofs.copy.Goals as goal

pub loop-k-init : goal.loop-k-init
loop-k-init c = passed_none _ _

pub loop-k-preserved : goal.loop-k-preserved
loop-k-preserved c =
    let fits : SFits w64 (get_or c.args.xs.now c.loop-k.k (pos 0)) = search rules in
    passed-more c.loop-k.invariant (omega arith) _ (to_z-of_z w64 _ fits)

pub returns : goal.returns
returns c = passed-all _ _ (omega arith) c.loop-k.invariant
