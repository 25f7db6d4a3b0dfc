-- Rounding to the nearest, halves up, of a fraction: one fraction for another of the same size, and where the whole number lies.
use mathlib.Core.Path.{◌≡◌, refl, sym, ap, ap₂, ◌∙◌}
use mathlib.Core.Bool.{Bool, true, false, cond}
use Prim.Native.Nat.{ℕ, zero, suc, ◌+◌, ◌-◌, ◌*◌, ◌/◌, ◌^◌, ◌≤◌, ◌<◌}
use native.Mathlib.Nat.{mul-pos, zero-lt-suc, mul_comm, mul_right_comm, mul-div-mul_right, div-div-eq-div-mul, add-div_right}
use native.Mathlib.Nat.{div-eq_of_lt, div-eq_of_lt-le, le-div_iff_mul-le}
use native.Mathlib.Omega.{arith}
use borrow.Author.Tests.{le-leb, lt-leb}
use lib.IntN.{ℤ, pos, negsuc, neg_ℤ, ◌+ℤ◌, ◌*ℤ◌}
use lib.Pow.{pow-add, pow_pos}
use lib.Signed.{shr_z}
use Rattle.integers.proofs.Ring.{◌⊕◌, ◌⊗◌, ⊝◌, #◌, ◌≈◌, ring}
use Rattle.std.specs.Prelude.{Some, None}
use Rattle.types.specs.Numbers.{D}
use Rattle.scheme.specs.Step.{nearest}
use Rattle.nearest.specs.Nearest.{signed, halves_up, whole_in}

-- ---- a factor that numerator and divisor share

less_one : (n k : ℕ) → 0 < k → (suc n * k - 1) / k ≡ n
less_one n k K = div-eq_of_lt-le k (omega arith) (omega arith)

shr_minus : (x m : ℕ) → 0 < x → shr_z (neg_ℤ (pos x)) m ≡ negsuc ((x - 1) / m)
shr_minus zero m X = absurd (omega arith)
shr_minus (suc x) m X = let e : x ≡ suc x - 1 = omega arith in ap (λ (y : ℕ). negsuc (y / m)) e

shr_scaled : (z : ℤ) (m k : ℕ) → 0 < k → shr_z (z *ℤ pos k) (m * k) ≡ shr_z z m
shr_scaled (pos n) m k K = ap pos (mul-div-mul_right n m K)
shr_scaled (negsuc n) m k K =
    shr_minus (suc n * k) (m * k) (mul-pos (zero-lt-suc n) K)
    ∙ ap negsuc (ap (λ (y : ℕ). (suc n * k - 1) / y) (mul_comm m k)
    ∙ sym (div-div-eq-div-mul (suc n * k - 1) k m) ∙ ap (λ (y : ℕ). y / m) (less_one n k K))

-- one fraction for another of the same size
pub same_fraction : (z z' : ℤ) (d d' : ℕ) → 0 < d → 0 < d' → z *ℤ pos d' ≡ z' *ℤ pos d → halves_up z d ≡ halves_up z' d'
unfolding halves_up
same_fraction z z' d d' p p' h =
    sym (shr_scaled (pos 2 *ℤ z +ℤ pos d) (2 * d) d' p')
    ∙ ap₂ shr_z cross (mul_right_comm 2 d d')
    ∙ shr_scaled (pos 2 *ℤ z' +ℤ pos d') (2 * d') d p
  where
    cross : (pos 2 *ℤ z +ℤ pos d) *ℤ pos d' ≡ (pos 2 *ℤ z' +ℤ pos d') *ℤ pos d
    cross =
        ring 3 (λ z d e. (# 2 ⊗ z ⊕ d) ⊗ e ≈ # 2 ⊗ (z ⊗ e) ⊕ d ⊗ e) refl z (pos d) (pos d')
        ∙ ap (λ x. pos 2 *ℤ x +ℤ pos d *ℤ pos d') h
        ∙ ring 3 (λ z d e. # 2 ⊗ (z ⊗ d) ⊕ d ⊗ e ≈ (# 2 ⊗ z ⊕ e) ⊗ d) refl z' (pos d) (pos d')

-- ---- where it lies

pub plus : (n d : ℕ) → halves_up (pos n) d ≡ pos (nearest n d)
unfolding halves_up
plus n d = refl

-- −n / d rounds to 0 from −1/2 on, and below that to a number below 0
pub minus_half : (n d : ℕ) → 0 < d → 2 * n ≤ d → halves_up (neg_ℤ (pos n)) d ≡ pos 0
unfolding halves_up
minus_half n d p h =
    let j = d - 2 * n in
    let e : d ≡ 2 * n + j = omega arith in
    ap (λ (y : ℕ). shr_z (pos 2 *ℤ neg_ℤ (pos n) +ℤ pos y) (2 * d)) e
    ∙ ap (λ z. shr_z z (2 * d)) (ring 2 (λ n j. # 2 ⊗ ⊝ n ⊕ (# 2 ⊗ n ⊕ j) ≈ j) refl (pos n) (pos j))
    ∙ ap pos (div-eq_of_lt (omega arith))

pub minus-below : (n d : ℕ) → d < 2 * n → whole_in (halves_up (neg_ℤ (pos n)) d) ≡ None
unfolding halves_up
minus-below n d h =
    let j = 2 * n - d - 1 in
    let e : 2 * n ≡ d + suc j = omega arith in
    ap (λ z. whole_in (shr_z z (2 * d)))
    (ring 2 (λ n d. # 2 ⊗ ⊝ n ⊕ d ≈ ⊝ (# 2 ⊗ n) ⊕ d) refl (pos n) (pos d)
    ∙ ap (λ (y : ℕ). neg_ℤ (pos y) +ℤ pos d) e
    ∙ ring 2 (λ d j. ⊝ (d ⊕ j) ⊕ d ≈ ⊝ j) refl (pos d) (pos (suc j)))

-- a whole number from 0 to D, and one above D
pub is_whole : (n : ℕ) → n ≤ D → whole_in (pos n) ≡ Some n
is_whole n h = ap (λ (b : Bool). cond b (Some n) None) (le-leb n D h)

pub above-whole : (n : ℕ) → D < n → whole_in (pos n) ≡ None
above-whole n h = ap (λ (b : Bool). cond b (Some n) None) (lt-leb n D h)

-- below a half either way it is 0, and from D + 1/2 on there is none
pub small : (s : Bool) (n d : ℕ) → 2 * n < d → whole_in (halves_up (signed s n) d) ≡ Some 0
small false n d h = ap whole_in (plus n d ∙ ap pos (div-eq_of_lt (omega arith)))
small true n d h = ap whole_in (minus_half n d (omega arith) (omega arith))

pub large : (s : Bool) (n d : ℕ) → 0 < d → (2 * D + 1) * d ≤ 2 * n → whole_in (halves_up (signed s n) d) ≡ None
large false n d p h = ap whole_in (plus n d) ∙ above-whole (nearest n d) ((le-div_iff_mul-le (mul-pos (zero-lt-suc 1) p)).1 (omega arith))
large true n d p h = minus-below n d (omega arith)

-- n / 2ᵏ to the nearest, by a shift of one place less
pub by_shift : (n k : ℕ) → 1 ≤ k → (n / 2 ^ (k - 1) + 1) / 2 ≡ nearest n (2 ^ k)
by_shift n k h =
    let c = 2 ^ (k - 1) in
    let e : k ≡ k - 1 + 1 = omega arith in
    ap (λ (y : ℕ). y / 2) (sym (add-div_right n (pow_pos (k - 1))))
    ∙ div-div-eq-div-mul (n + c) c 2
    ∙ sym (mul-div-mul_right (n + c) (c * 2) (zero-lt-suc 1))
    ∙ ap₂ ◌/◌ (even n c) (mul_comm (c * 2) 2)
    ∙ ap (λ (y : ℕ). nearest n y) (sym (pow-add 2 (k - 1) 1) ∙ ap (λ (y : ℕ). 2 ^ y) (sym e))
  where
    even : (n c : ℕ) → (n + c) * 2 ≡ 2 * n + c * 2
    even n c = omega arith
