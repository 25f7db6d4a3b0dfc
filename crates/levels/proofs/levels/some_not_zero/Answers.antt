-- `some_not_zero` meets its contract: each point is looked at until one is not 0.
use Rattle.std.proofs.Common.{rules, tests, ◌∙◌, nat_lt, unsigned_abs}
use Rattle.std.proofs.lemmas.Iterator.{YieldsList-from_slice}
use Rattle.std.proofs.lemmas.Iterator.Search.{any_from_yields_List}
use Rattle.levels.proofs.LevelLaws.{some_of}
use Rattle.levels.proofs.levels.some_not_zero.Goals as goal

pub returns : goal.returns
returns c =
    any_from_yields_List (λ v. nat_lt 0 (unsigned_abs v)) _ _ _ c.any.ensures.ran (YieldsList-from_slice c.args.xs.now (cc))
    (λ x b q k. search (rules, tests)) ∙ some_of c.args.xs.now
