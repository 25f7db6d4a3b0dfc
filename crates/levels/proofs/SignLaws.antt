-- The sign bit: of a number, of two at once, and of what tells a number beyond the ceiling.
use Rattle.std.proofs.Common.{◌≡◌, ℕ, suc, ◌+◌, ◌-◌, ◌%◌, ◌^◌, ◌<◌, ◌≤◌, Bool, true, false, ◌||◌, ltb, List, ℤ, pos, negsuc, sym, add-one}
use Rattle.std.proofs.Common.{refl, ap, ap₂, ◌∙◌, arith, w64, of_z, ltb-false, ltb-true, le-leb, leb-false, leb-true}
use borrow.Author.Tests.{lt-leb}
use lib.Bits.{bit_or, or_lt, or_comm, or_add_and, and_le_r}
use lib.Signed.{mag}
use Rattle.types.specs.Numbers.{ceiling}
use Rattle.scheme.specs.Instruments.{beyond}
use Rattle.scheme.proofs.Laws.Bools.{cases}
use Rattle.scheme.specs.Lists.{point, some_below}
use Rattle.levels.specs.Levels.{signed}

-- ---- of two at once

none_signed : (a b : ℕ) → a < 2 ^ 63 → b < 2 ^ 63 → signed (bit_or a b) ≡ false
none_signed a b h k = lt-leb (2 ^ 63) (bit_or a b) (or_lt 63 a b h k)

first_signed : (a b : ℕ) → 2 ^ 63 ≤ a → signed (bit_or a b) ≡ true
first_signed a b h = le-leb (2 ^ 63) (bit_or a b) (omega (arith, or_add_and a b, and_le_r a b))

second_signed : (a b : ℕ) → 2 ^ 63 ≤ b → signed (bit_or a b) ≡ true
second_signed a b h = ap signed (or_comm a b) ∙ first_signed b a h

pub signed_or : (a b : ℕ) → signed (bit_or a b) ≡ (signed a || signed b)
signed_or a b = go (signed a) (signed b) refl refl
  where
    go : (x y : Bool) → signed a ≡ x → signed b ≡ y → signed (bit_or a b) ≡ (x || y)
    go true y e f = first_signed a b (leb-true (2 ^ 63) a e)
    go false true e f = second_signed a b (leb-true (2 ^ 63) b f)
    go false false e f = none_signed a b (leb-false (2 ^ 63) a e) (leb-false (2 ^ 63) b f)

-- of the points passed, and one more
pub signs : (xs : List ℤ) (k s e : ℕ) → signed s ≡ some_below k (λ i. beyond (point xs i)) → signed e ≡ beyond (point xs k)
    → signed (bit_or s e) ≡ some_below (k + 1) (λ i. beyond (point xs i))
unfolding some_below
signs xs k s e p q =
    signed_or s e ∙ ap₂ ◌||◌ p q ∙ ap (λ (n : ℕ). some_below n (λ i. beyond (point xs i))) (sym (add-one k))

-- ---- v + ceiling or ceiling − v, modulo 2⁶⁴

told : (v : ℤ) (p q : ℕ) → mag v < 2 ^ 63 → p ≡ (of_z w64 v + ceiling) % 2 ^ 64 → q ≡ (ceiling + (2 ^ 64 - of_z w64 v)) % 2 ^ 64
    → signed (bit_or p q) ≡ beyond v
told (pos n) p q h e f = sym (cases (λ (b : Bool). b ≡ signed (bit_or p q)) (ltb ceiling n)
    (λ t. sym (second_signed p q (omega (arith, ltb-true ceiling n t))))
    (λ t. sym (none_signed p q (omega (arith, ltb-false ceiling n t)) (omega (arith, ltb-false ceiling n t)))))
told (negsuc n) p q h e f = sym (cases (λ (b : Bool). b ≡ signed (bit_or p q)) (ltb ceiling (suc n))
    (λ t. sym (first_signed p q (omega (arith, ltb-true ceiling (suc n) t))))
    (λ t. sym (none_signed p q (omega (arith, ltb-false ceiling (suc n) t)) (omega (arith, ltb-false ceiling (suc n) t)))))

pub excess_is : (v : ℤ) → mag v < 2 ^ 63
    → signed (bit_or ((of_z w64 v + ceiling) % 2 ^ 64) ((ceiling + (2 ^ 64 - of_z w64 v)) % 2 ^ 64)) ≡ beyond v
excess_is v h = told v ((of_z w64 v + ceiling) % 2 ^ 64) ((ceiling + (2 ^ 64 - of_z w64 v)) % 2 ^ 64) h refl refl
