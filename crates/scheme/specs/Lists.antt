-- Lists and counting: what the definitions are written with. Nothing here is of the paper.
use Rattle.std.specs.Prelude.{Bool, true, false, ◌||◌, cond, List, [], ◌∷◌, map, ℕ, zero, suc, ◌+◌, ℤ, pos, ◌*ℤ◌, get_or}

-- the list f 0, f 1, .., f (n − 1)
unfoldable pub tabulate : {A : Type 0} → ℕ → (ℕ → A) → List A
tabulate zero f = []
tabulate (suc n) f = f zero ∷ tabulate n (λ i. f (suc i))

-- entry i of a level, 0 past its end
abbrev pub point : List ℤ → ℕ → ℤ
point xs i = get_or xs i (pos 0)

-- every entry of a level times z
abbrev pub times : ℤ → List ℤ → List ℤ
times z xs = map (λ x. z *ℤ x) xs

-- some number below n passes the test
unfoldable pub some_below : ℕ → (ℕ → Bool) → Bool
some_below zero p = false
some_below (suc n) p = some_below n p || p n

-- how many numbers below n pass the test
unfoldable pub count_below : ℕ → (ℕ → Bool) → ℕ
count_below zero p = 0
count_below (suc n) p = count_below n p + cond (p n) 1 0

-- j alone where the test passes, else nothing
unfoldable pub only : Bool → ℕ → List ℕ
only true j = j ∷ []
only false j = []

abbrev pub square : ℤ → ℤ
square z = z *ℤ z
