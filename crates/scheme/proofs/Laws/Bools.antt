-- Bools by cases.
use mathlib.Core.Path.{◌≡◌, refl, sym, ap, ◌∙◌}
use mathlib.Core.Bool.{Bool, true, false, ◌&&◌, ◌||◌, true≢false}

pub cases {ℓ} : (P : Bool → Type ℓ) → (b : Bool) → (b ≡ true → P true) → (b ≡ false → P false) → P b
cases P true f g = f refl
cases P false f g = g refl

-- both of two
pub and_both : (a b : Bool) → (a && b) ≡ true → (a ≡ true) × (b ≡ true)
and_both true b e = (refl, e)
and_both false b e = absurd (true≢false (sym e))

-- neither of two
pub or_neither : (a b : Bool) → (a || b) ≡ false → (a ≡ false) × (b ≡ false)
or_neither false b e = (refl, e)
or_neither true b e = absurd (true≢false e)

-- by what the first of two is
pub and_yes : {a b : Bool} → a ≡ true → (a && b) ≡ b
and_yes {b = b} e = ap (λ (x : Bool). x && b) e

pub and_no : {a : Bool} (b : Bool) → a ≡ false → (a && b) ≡ false
and_no b e = ap (λ (x : Bool). x && b) e

pub or_yes : {a : Bool} (b : Bool) → a ≡ true → (a || b) ≡ true
or_yes b e = ap (λ (x : Bool). x || b) e

pub or_no : {a b : Bool} → a ≡ false → (a || b) ≡ b
or_no {b = b} e = ap (λ (x : Bool). x || b) e

pub neither_or : {a b : Bool} → a ≡ false → b ≡ false → (a || b) ≡ false
neither_or p q = or_no p ∙ q

-- what is not true is false
pub not_so : {a : Bool} → (a ≡ true → ⊥) → a ≡ false
not_so {a = true} f = absurd (f refl)
not_so {a = false} f = refl

-- two tests that pass together
pub same : {a b : Bool} → (a ≡ true → b ≡ true) → (b ≡ true → a ≡ true) → a ≡ b
same {a = true} f g = sym (f refl)
same {a = false} f g = sym (not_so (λ e. true≢false (sym (g e))))
