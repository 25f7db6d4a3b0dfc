-- The numbers before the first that is sought, and the lists between them.
use mathlib.Core.Path.{◌≡◌, refl, sym, ap, ◌∙◌}
use mathlib.Core.Bool.{Bool, true, false, cond}
use mathlib.Core.List.{List, [], ◌∷◌}
use Prim.Native.Nat.{ℕ, zero, suc, ◌+◌, ◌≤◌, ◌<◌}
use native.Mathlib.Omega.{arith}
use lib.Dec.{eqb}
use lib.ListN.{length, take, drop}
use lib.Seq.{take_all}
use Rattle.std.specs.Prelude.{Some, None}
use Rattle.std.specs.List.{position, position_or_len}
use Rattle.std.proofs.lemmas.Grind.{common_steps}
use Rattle.std.proofs.lemmas.List.Recursion.{is_position_or_len}
use Rattle.ring_line.specs.Lists.{before, on_first, split_on}

-- ---- a search from the front

until : (s : ℕ) (l : List ℕ) → position_or_len (λ b. eqb b s) l ≡ length (before s l)
unfolding before
until s l = sym (is_position_or_len (λ l. length (before s l)) (λ b. eqb b s) refl (λ b bs. go b bs (eqb b s)) l)
  where
    go : (b : ℕ) (bs : List ℕ) (t : Bool) → length (cond t [] (b ∷ before s bs)) ≡ cond t 0 (1 + length (before s bs))
    go b bs true = refl
    go b bs false = omega arith

pub no_longer : (s : ℕ) (l : List ℕ) → length (before s l) ≤ length l
unfolding before
no_longer s [] = omega arith
no_longer s (b ∷ bs) = go (eqb b s) (no_longer s bs)
  where
    go : (t : Bool) → length (before s bs) ≤ length bs → length (cond t [] (b ∷ before s bs)) ≤ suc (length bs)
    go true h = omega arith
    go false h = omega arith

-- where the first stands, or nowhere
module _ (s : ℕ) (l : List ℕ) where
  pub first_some : {n : ℕ} → Some n ≡ position (λ b. eqb b s) l → (n ≡ length (before s l)) × (n < length l)
  first_some {n} e = (grind (arith, common_steps, until s l, e), grind (arith, common_steps, e))

  pub first_none : None ≡ position (λ b. eqb b s) l → length l ≡ length (before s l)
  first_none e = grind (arith, common_steps, until s l, no_longer s l, e)

-- ---- the numbers before the first

pub before-take : (s : ℕ) (l : List ℕ) → take (length (before s l)) l ≡ before s l
unfolding before
before-take s [] = refl
before-take s (b ∷ bs) = go (eqb b s) (before-take s bs)
  where
    go : (t : Bool) → take (length (before s bs)) bs ≡ before s bs →
        take (length (cond t [] (b ∷ before s bs))) (b ∷ bs) ≡ cond t [] (b ∷ before s bs)
    go true e = refl
    go false e = ap (λ (r : List ℕ). b ∷ r) e

-- of the first n numbers
pub before-first : (s n : ℕ) (l : List ℕ) → before s (take n l) ≡ take n (before s l)
unfolding before
before-first s zero l = refl
before-first s (suc n) [] = refl
before-first s (suc n) (b ∷ bs) = go (eqb b s) (before-first s n bs)
  where
    go : (t : Bool) → before s (take n bs) ≡ take n (before s bs) →
        cond t [] (b ∷ before s (take n bs)) ≡ take (suc n) (cond t [] (b ∷ before s bs))
    go true e = refl
    go false e = ap (λ (r : List ℕ). b ∷ r) e

-- all of them, where none is
pub before_all : (s : ℕ) (l : List ℕ) → length l ≤ length (before s l) → before s l ≡ l
before_all s l h = sym (before-take s l) ∙ take_all (length (before s l)) l h

-- ---- the lists between

-- none is s: one list
pub split_last : (s : ℕ) (l : List ℕ) → length l ≤ length (before s l) → split_on s l ≡ l ∷ []
unfolding before split_on
split_last s [] h = refl
split_last s (b ∷ bs) h = go (eqb b s) h (split_last s bs)
  where
    go : (t : Bool) → suc (length bs) ≤ length (cond t [] (b ∷ before s bs)) →
        (length bs ≤ length (before s bs) → split_on s bs ≡ bs ∷ []) →
        cond t ([] ∷ split_on s bs) (on_first b (split_on s bs)) ≡ (b ∷ bs) ∷ []
    go true h e = absurd (omega arith)
    go false h e = ap (on_first b) (e (omega arith))

-- the list before the first that is s, and those of what comes after it
pub split_more : (s : ℕ) (l : List ℕ) → length (before s l) < length l →
    split_on s l ≡ before s l ∷ split_on s (drop (suc (length (before s l))) l)
unfolding before split_on
split_more s [] h = absurd (omega arith)
split_more s (b ∷ bs) h = go (eqb b s) h (split_more s bs)
  where
    go : (t : Bool) → length (cond t [] (b ∷ before s bs)) < suc (length bs) →
        (length (before s bs) < length bs → split_on s bs ≡ before s bs ∷ split_on s (drop (suc (length (before s bs))) bs)) →
        let first = cond t [] (b ∷ before s bs) in
        cond t ([] ∷ split_on s bs) (on_first b (split_on s bs)) ≡ first ∷ split_on s (drop (suc (length first)) (b ∷ bs))
    go true h e = refl
    go false h e = ap (on_first b) (e (omega arith))
