-- A number on its way through signed code at 64 bits:
-- `Num r z B` says that r, as the machine has it, is the number z, whose magnitude is at most B.
-- `x ⊕ y`, `x ⊖ y`, `x ⊗ y` and `x ⊘ y` follow the code's operations.
-- `kept x tt` is the number after it has been stored to a local and read back,
-- `fits x tt` says that it may be stored. The `tt` is checked by computing,
-- since B is a numeral wherever the bounds of what goes in are numerals.
use mathlib.Core.Path.{◌≡◌, refl, sym, ◌∙◌, subst}
use Prim.Native.Nat.{ℕ, ◌+◌, ◌*◌, ◌^◌, ◌≤◌, ◌<◌}
use native.Mathlib.Nat.{le_refl, le_trans, div-le_self, mul-le-mul}
use native.Mathlib.Omega.{arith}
use lib.Dec.{T, ltb, ltb→lt}
use lib.IntN.{ℤ, pos, nat_abs, ◌+ℤ◌, ◌-ℤ◌, ◌*ℤ◌}
use lib.Signed.{mag, quot_z}
use mir.Syntax.{w16, w64}
use mir.Val.{SFits, to_z, of_z}
use mir.ValLaws.{to_z-of_z}
use Rattle.integers.proofs.Size.{size-add, size-minus, size-mul}
use Rattle.bounded.proofs.Size.{size_quot, mag_size}

pub record Num (r z : ℤ) (B : ℕ) : Type 0 where
  pub is : r ≡ z
  pub size : nat_abs z ≤ B

-- ---- what goes in

pub exact : {z : ℤ} {B : ℕ} → nat_abs z ≤ B → Num z z B
exact h = record { is = refl; size = h }

pub lit : (n : ℕ) → Num (pos n) (pos n) n
lit n = record { is = refl; size = le_refl n }

-- ---- what is stored and read back

small : {z : ℤ} {B : ℕ} → nat_abs z ≤ B → T (ltb B (2 ^ 63)) → SFits w64 z
small {z} {B} h t = record { sfits = omega (arith, mag_size z, ltb→lt B (2 ^ 63) t) }

pub fits : {r z : ℤ} {B : ℕ} → Num r z B → T (ltb B (2 ^ 63)) → SFits w64 r
fits {r} {z} {B} x t = subst (SFits w64) (sym x.is) (small x.size t)

pub kept : {r z : ℤ} {B : ℕ} → Num r z B → T (ltb B (2 ^ 63)) → Num (to_z w64 (of_z w64 r)) z B
kept {r} x t = record { is = to_z-of_z w64 r (fits x t) ∙ x.is; size = x.size }

-- a parameter, or what a callee returned
pub given : {z : ℤ} {B : ℕ} → nat_abs z ≤ B → T (ltb B (2 ^ 63)) → Num (to_z w64 (of_z w64 z)) z B
given h t = kept (exact h) t

-- the same of any signed number: by the range that its place in the code gives
pub back : (z : ℤ) → mag z < 2 ^ 63 → to_z w64 (of_z w64 z) ≡ z
back z h = to_z-of_z w64 z (record { sfits = h })

-- ---- the operations

module _ {r s x y : ℤ} {A B : ℕ} where
  infixl 6 ◌⊕◌ ◌⊖◌
  infixl 7 ◌⊗◌ ◌⊘◌
  pub ◌⊕◌ : Num r x A → Num s y B → Num (r +ℤ s) (x +ℤ y) (A + B)
  a ⊕ b = record { is = λ i. a.is i +ℤ b.is i; size = omega (arith, size-add x y, a.size, b.size) }

  pub ◌⊖◌ : Num r x A → Num s y B → Num (r -ℤ s) (x -ℤ y) (A + B)
  a ⊖ b = record { is = λ i. a.is i -ℤ b.is i; size = omega (arith, size-minus x y, a.size, b.size) }

  pub ◌⊗◌ : Num r x A → Num s y B → Num (r *ℤ s) (x *ℤ y) (A * B)
  a ⊗ b = record { is = λ i. a.is i *ℤ b.is i; size = subst (λ (n : ℕ). n ≤ A * B) (sym (size-mul x y)) (mul-le-mul a.size b.size) }

  pub ◌⊘◌ : Num r x A → Num s y B → Num (quot_z r s) (quot_z x y) A
  a ⊘ b = record {
    is = λ i. quot_z (a.is i) (b.is i);
    size =
        subst (λ (n : ℕ). n ≤ A) (sym (size_quot x y)) (le_trans (div-le_self (nat_abs x) (nat_abs y)) a.size);
  }

-- ---- at 16 bits

pub fits16 : (z : ℤ) {B : ℕ} → nat_abs z ≤ B → T (ltb B (2 ^ 15)) → SFits w16 z
fits16 z {B} h t = record { sfits = omega (arith, mag_size z, ltb→lt B (2 ^ 15) t) }

pub back16 : (z : ℤ) {B : ℕ} → nat_abs z ≤ B → T (ltb B (2 ^ 15)) → to_z w16 (of_z w16 z) ≡ z
back16 z h t = to_z-of_z w16 z (fits16 z h t)
