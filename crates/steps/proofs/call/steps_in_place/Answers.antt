use Rattle.std.proofs.Common.{arith, rules}
use Rattle.steps.specs.Left.{two}
use Rattle.steps.proofs.CallLaws.{left_in_place}
use Rattle.steps.proofs.call.steps_in_place.Goals as goal

-- a piece is room for a piece
pub steps_from-requires : goal.steps_from-requires
steps_from-requires c = λ none. two (omega arith)

pub returns : goal.returns
returns c =
    let a = c.args in
    left_in_place a.i a.older.now a.newer.now a.samples.now a.pick a.hit (search rules) (search rules) c.steps_from.ensures
