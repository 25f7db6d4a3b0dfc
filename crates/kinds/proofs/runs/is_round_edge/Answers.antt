-- `is_round_edge` meets its contract: the paper's test by the columns and the rows on both sides.
use native.Mathlib.Omega.{arith}
use borrow.Author.Rules.{rules}
use Rattle.kinds.proofs.RoundLaws.{offset-ends, round_edge-ends}
use Rattle.kinds.proofs.runs.is_round_edge.Goals as goal

pub overflow_sub-result-3 : goal.overflow_sub-result-3
overflow_sub-result-3 c = omega (arith, offset-ends c.args.c c.args.b (search rules))

pub returns : goal.returns
returns c = round_edge-ends _ _ _ (search rules) (search rules)
