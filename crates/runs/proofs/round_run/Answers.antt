-- `round_run` meets its contract: the search stops at the first column that moves.
use mathlib.Core.Bool.{not}
use mathlib.Core.Path.{ap, sym}
use native.Mathlib.Omega.{arith}
use borrow.Author.Tests.{not-true}
use Rattle.kinds.proofs.RoundLaws.{edge_said, round_found, round_none}
use Rattle.runs.proofs.round_run.Goals as goal

pub returns-then-not-is_round_fixed : goal.returns-then-not-is_round_fixed
returns-then-not-is_round_fixed c =
    let l = c.loop-a in
    sym (round_found _ _ l.a l.invariant (omega arith)
    (edge_said _ _ _ c.requires.0 (omega arith) c.requires.1 c.is_round_fixed.ensures (not-true _ (ap not c.if-not-is_round_fixed.true))))

pub returns : goal.returns
returns c = sym (round_none _ _ c.loop-a.a c.loop-a.invariant (omega arith))
