-- The size |z| of a whole number, nat_abs z, under negation, sum, difference and product.
use mathlib.Core.Path.{◌≡◌, refl, sym, ap, subst}
use mathlib.Core.Bool.{Bool, true, false, not, cond}
use mathlib.Core.List.{List, [], ◌∷◌}
use Prim.Native.Nat.{ℕ, zero, suc, ◌+◌, ◌-◌, ◌*◌, ◌≤◌}
use native.Mathlib.Nat.{le_refl}
use native.Mathlib.Omega.{arith}
use borrow.Author.Tests.{le-ltb}
use lib.Dec.{T, ltb, ltb→lt}
use lib.IntN.{ℤ, pos, negsuc, neg_ℤ, nat_abs, sub_ℕ, ◌+ℤ◌, ◌-ℤ◌, ◌*ℤ◌}
use lib.ListN.{length}
use Rattle.integers.specs.Sum.{sum_over}

-- by cases on a Bool, with what each case knows of it
pub cond_ind {ℓ} : {X : Type 0} (b : Bool) (x y : X) (P : X → Type ℓ) → (T b → P x) → (T (not b) → P y) → P (cond b x y)
cond_ind true x y P f g = f tt
cond_ind false x y P f g = g tt

pub size-neg : (z : ℤ) → nat_abs (neg_ℤ z) ≡ nat_abs z
size-neg (pos zero) = refl
size-neg (pos (suc n)) = refl
size-neg (negsuc n) = refl

size-sub : (a b : ℕ) → nat_abs (sub_ℕ a b) ≤ a + b
size-sub a b =
    cond_ind (ltb a b) (negsuc (b - suc a)) (pos (a - b)) (λ (z : ℤ). nat_abs z ≤ a + b)
    (λ t. omega (arith, ltb→lt a b t)) (λ t. omega arith)

pub size-add : (x y : ℤ) → nat_abs (x +ℤ y) ≤ nat_abs x + nat_abs y
size-add (pos a) (pos b) = le_refl (a + b)
size-add (pos a) (negsuc b) = size-sub a (suc b)
size-add (negsuc a) (pos b) = omega (arith, size-sub b (suc a))
size-add (negsuc a) (negsuc b) = omega arith

pub size-minus : (x y : ℤ) → nat_abs (x -ℤ y) ≤ nat_abs x + nat_abs y
size-minus x y = omega (arith, size-add x (neg_ℤ y), size-neg y)

pub size-mul : (x y : ℤ) → nat_abs (x *ℤ y) ≡ nat_abs x * nat_abs y
size-mul (pos a) (pos b) = refl
size-mul (pos a) (negsuc b) = size-neg (pos (a * suc b))
size-mul (negsuc a) (pos b) = size-neg (pos (suc a * b))
size-mul (negsuc a) (negsuc b) = refl

pub square-size : (z : ℤ) → z *ℤ z ≡ pos (nat_abs z * nat_abs z)
square-size (pos n) = refl
square-size (negsuc n) = refl

-- a whole number taken from one that is at least as large
pub pos_less : (n k : ℕ) → k ≤ n → pos n -ℤ pos k ≡ pos (n - k)
pos_less n zero h = ap pos (omega arith)
pos_less n (suc k) h = ap (λ (t : Bool). cond t (negsuc (suc k - suc n)) (pos (n - suc k))) (le-ltb n (suc k) h)

pub size_less : (n k : ℕ) → k ≤ n → nat_abs (pos n -ℤ pos k) ≤ n
size_less n k h = subst (λ (z : ℤ). nat_abs z ≤ n) (sym (pos_less n k h)) (omega arith)

-- a sum of terms that are each at most B
pub size-over : (js : List ℕ) (f : ℕ → ℤ) (B : ℕ) → ((j : ℕ) → nat_abs (f j) ≤ B) → nat_abs (sum_over js f) ≤ length js * B
unfolding sum_over
size-over [] f B h = omega arith
size-over (j ∷ js) f B h = omega (arith, size-add (f j) (sum_over js f), h j, size-over js f B h)
