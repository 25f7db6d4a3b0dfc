use mathlib.Core.Path.{sym, ap, ◌∙◌}
use mathlib.Core.Bool.{Bool, ◌&&◌}
use Prim.Native.Nat.{◌-◌}
use lib.Dec.{leb}
use lib.ListN.{get_or}
use lib.Seq.{take_all}
use Rattle.pluck_table.specs.Loading.{never_falls}
use Rattle.pluck_table.proofs.LoadingLaws.{first_rises, more_rises}
use Rattle.pluck_table.proofs.never_falls.Goals as goal

pub loop-j-init : goal.loop-j-init
loop-j-init c = sym (first_rises c.args.table.now)

pub loop-j-preserved : goal.loop-j-preserved
loop-j-preserved c =
    let t = c.args.table.now in
    let j = c.loop-j.j in
    ap (λ (b : Bool). b && leb (get_or t (j - 1) 0) (get_or t j 0)) c.loop-j.invariant ∙ more_rises t j c.loop-j.auto.j c.loop-j-test.true

pub returns : goal.returns
returns c = c.loop-j.invariant ∙ ap never_falls (take_all c.loop-j.j _ c.loop-j-test.false)
