-- Lists: what the definitions are written with. Nothing here is of the paper.
use Rattle.std.specs.Prelude.{cond, List, [], ◌∷◌, ℕ, eqb}
use Prim.Native.Char.{code}
use Prim.Native.String as S
use Prim.Native.String.{String}

-- the numbers before the first that is s; all of them where none is
unfoldable pub before : ℕ → List ℕ → List ℕ
before s [] = []
before s (b ∷ bs) = cond (eqb b s) [] (b ∷ before s bs)

-- a number more at the front of the first list
abbrev pub on_first : ℕ → List (List ℕ) → List (List ℕ)
on_first b [] = (b ∷ []) ∷ []
on_first b (f ∷ fs) = (b ∷ f) ∷ fs

-- the lists between the numbers that are s, one list more than there are such numbers
unfoldable pub split_on : ℕ → List ℕ → List (List ℕ)
split_on s [] = [] ∷ []
split_on s (b ∷ bs) =
    let rest = split_on s bs in
    cond (eqb b s) ([] ∷ rest) (on_first b rest)

-- the bytes of a text
unfoldable pub text : String → List ℕ
text S.[] = []
text (S.◌∷◌ c cs) = code c ∷ text cs
