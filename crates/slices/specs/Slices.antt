-- What is left of a slice that another was copied to. Vocabulary between the engine's crates: no call that a maker
-- embeds cites it.
use Rattle.std.specs.Prelude.{cond, List, ltb, ℤ, length}
use Rattle.scheme.specs.Lists.{tabulate, point}

-- ys, with the points of xs as far as both have places
unfoldable pub copied : (xs ys : List ℤ) → List ℤ
copied xs ys = tabulate (length ys) (λ k. cond (ltb k (length xs)) (point xs k) (point ys k))
