-- The product of a float and D in floats is exact, or an infinity.
use mathlib.Core.Path.{◌≡◌, refl, sym, ap, ◌∙◌, subst}
use mathlib.Core.Bool.{Bool, true, false, ◌&&◌, cond}
use Prim.Native.Nat.{ℕ, zero, suc, ◌+◌, ◌-◌, ◌*◌, ◌/◌, ◌%◌, ◌^◌, ◌≤◌, ◌<◌, compare}
use native.Mathlib.Nat.{le_trans, le_of_eq, lt_of_lt_of_le, lt_irrefl, mul-one, one-mul, mul_assoc, mul_comm, mul_right_comm, mul-pos}
use native.Mathlib.Nat.{mul-div_cancel, mul-le-mul_right, le_of_mul-le-mul_right, div-div-eq-div-mul}
use native.Mathlib.Omega.{arith}
use borrow.Author.Tests.{le-ltb, leb-true, leb-false}
use lib.Dec.{T, ltb, leb, eqb, eqb→eq, ltb→lt, leb→le, lit<, lit≤}
use lib.IntN.{ℤ, pos, negsuc}
use lib.Pow.{pow-add, pow_pos, pow_mono, shl_lt, shl-shr}
use lib.Ieee.{Float, nan, inf, fin, up, down, unlike, binary64, size, nearest, odd, units, round, mul, of_int, fits}
use lib.Ieee.Digits.{back, size-le}
use lib.Ieee.Exact.{round_exact}
use lib.Ieee.Fits.{round_is, down_pos, and_l, and_r}
use lib.Ieee.Nearest.{nearest-ge}
use Rattle.types.specs.Numbers.{D}
use Rattle.nearest.specs.Nearest.{signed, halves_up, whole_in, nearest_times, nearest_whole}
use Rattle.nearest.specs.Claims.{ProductAlike}
use Rattle.nearest.proofs.Fields.{same_size, by_value, two_or_more}

-- ---- a fraction of q × 2ʲ units, with q of a float's digits and 2²⁰⁹⁸ units or more, rounds to an infinity

spare : (z j : ℕ) → z ≤ 53 + j → z - 53 ≤ j
spare z j h = omega arith

units_over : (s : Bool) (q k : ℕ) → 2 ^ 2098 ≤ q * 2 ^ k → units binary64 s q k ≡ inf s
unfolding units
units_over s q k h = ap (λ (b : Bool). cond b (odd 54 s q k 1074) (inf s)) (le-ltb (q * 2 ^ k) (2 ^ 2098) h)

round_over : (s : Bool) (num den q j : ℕ) → 0 < den → q < 2 ^ 53 → 2 ^ 2098 ≤ q * 2 ^ j
    → num * 2 ^ 1074 ≡ q * 2 ^ j * den → round binary64 s num den ≡ inf s
round_over s num den q j D Q big h =
    let n = num * 2 ^ 1074 in
    let e1 : n / den ≡ q * 2 ^ j = ap (λ (x : ℕ). x / den) h ∙ mul-div_cancel (q * 2 ^ j) D in
    let k = size (n / den) - 53 in
    let u = den * 2 ^ k in
    let k-le : k ≤ j = spare (size (n / den)) j (size-le (n / den) (53 + j)
    (subst (λ (x : ℕ). x < 2 ^ (53 + j)) (sym e1) (shl_lt 53 j Q))) in
    let e2 : q * 2 ^ (j - k) * 2 ^ k ≡ q * 2 ^ j = mul_assoc q (2 ^ (j - k)) (2 ^ k)
    ∙ ap (λ (x : ℕ). q * x) (sym (pow-add 2 (j - k) k) ∙ ap (λ (x : ℕ). 2 ^ x) (back j k k-le)) in
    let e3 : n / u ≡ q * 2 ^ (j - k) = sym (div-div-eq-div-mul n den (2 ^ k))
    ∙ ap (λ (x : ℕ). x / 2 ^ k) (e1 ∙ sym e2) ∙ shl-shr (q * 2 ^ (j - k)) k in
    let r = nearest (n / u) (compare (n % u * 2) u) in
    let up : q * 2 ^ j ≤ r * 2 ^ k = le_trans (le_of_eq (sym e2 ∙ ap (λ (x : ℕ). x * 2 ^ k) (sym e3)))
    (mul-le-mul_right (2 ^ k) (nearest-ge (n / u) (compare (n % u * 2) u))) in
    round_is binary64 s num den ∙ units_over s r k (le_trans big up)

-- ---- a float of the format: its digits, and 2ᵉ in units

in_format : (s : Bool) (m : ℕ) (e : ℤ) → T (fits binary64 (fin s m e)) → (m < 2 ^ 53) × (down e ≤ 2 ^ 1074)
unfolding fits
in_format s zero (pos a) h = (pow_pos 53, pow_pos 1074)
in_format s zero (negsuc a) h = (pow_pos 53, le_trans (le_of_eq (sym (one-mul (2 ^ suc a)) ∙ eqb→eq (1 * 2 ^ suc a) 1 h)) (pow_pos 1074))
in_format s (suc m) e h =
    let A = eqb (suc m % 2) 1 in
    let B = ltb (suc m) (2 ^ 53) in
    let C = leb (down e) (2 ^ 1074) in
    let t = and_l (A && B && C) (ltb (suc m * up e) (2 ^ 1024 * down e)) h in
    (ltb→lt (suc m) (2 ^ 53) (and_r A B (and_l (A && B) C t)), leb→le (down e) (2 ^ 1074) (and_r (A && B) C t))

place : (e : ℤ) → down e ≤ 2 ^ 1074 → (j : ℕ) × (up e * 2 ^ 1074 ≡ 2 ^ j * down e)
place (pos a) h = (a + 1074, sym (pow-add 2 a 1074) ∙ sym (mul-one (2 ^ (a + 1074))))
place (negsuc a) h = (
  1074 - suc a,
  one-mul (2 ^ 1074)
      ∙ ap (λ (y : ℕ). 2 ^ y) (sym (back 1074 (suc a) (go (leb (suc a) 1074) refl))) ∙ pow-add 2 (1074 - suc a) (suc a),
)
  where
    go : (b : Bool) → leb (suc a) 1074 ≡ b → suc a ≤ 1074
    go true e = leb-true (suc a) 1074 e
    go false e = absurd (lt_irrefl (2 ^ 1074) (lt_of_lt_of_le (lit< tt) (le_trans (pow_mono (leb-false (suc a) 1074 e)) h)))

-- ---- the product

module _ (s : Bool) (m : ℕ) (e : ℤ) (M : m < 2 ^ 53) (E : down e ≤ 2 ^ 1074) where
  abbrev num : ℕ
  num = m * up e * D

  abbrev den : ℕ
  den = down e * 1

  abbrev j : ℕ
  j = (place e E).0 + 16

  den_pos : 0 < den
  den_pos = mul-pos (down_pos e) (lit< tt)

  in_units : num * 2 ^ 1074 ≡ m * 2 ^ j * den
  in_units =
      mul_right_comm (m * up e) D (2 ^ 1074)
      ∙ ap (λ (y : ℕ). y * D) (mul_assoc m (up e) (2 ^ 1074) ∙ ap (λ (y : ℕ). m * y) (place e E).1
      ∙ sym (mul_assoc m (2 ^ (place e E).0) (down e)))
      ∙ mul_right_comm (m * 2 ^ (place e E).0) (down e) D
      ∙ ap (λ (y : ℕ). y * down e) (mul_assoc m (2 ^ (place e E).0) D ∙ ap (λ (y : ℕ). m * y) (sym (pow-add 2 (place e E).0 16)))
      ∙ ap (λ (y : ℕ). m * 2 ^ j * y) (sym (mul-one (down e)))

  exact : m * 2 ^ j < 2 ^ 2098 → nearest_times 1 (round binary64 s num den) ≡ whole_in (halves_up (signed s num) (down e))
  exact h =
      by_value 1 (round binary64 s num den) s num den den_pos (round_exact binary64 s num den m j den_pos M h in_units)
      ∙ same_size s (num * 1) den num (down e) den_pos (down_pos e)
      (mul_assoc num 1 (down e) ∙ ap (λ (y : ℕ). num * y) (mul_comm 1 (down e)))

  too_far : 2 ^ 2098 ≤ m * 2 ^ j → 2 * down e ≤ m * up e
  too_far h =
      le_of_mul-le-mul_right
      (le_trans (le_of_eq (mul_right_comm 2 (down e) (2 ^ 1090)))
      (le_trans (mul-le-mul_right (down e) (le_trans (lit≤ tt) h))
      (le_of_eq (ap (λ (y : ℕ). m * 2 ^ j * y) (sym (mul-one (down e))) ∙ sym in_units ∙ mul_assoc (m * up e) D (2 ^ 1074)))))
      (pow_pos 1090)

  outside : 2 ^ 2098 ≤ m * 2 ^ j → nearest_times 1 (round binary64 s num den) ≡ whole_in (halves_up (signed s num) (down e))
  unfolding nearest_times
  outside h = ap (nearest_times 1) (round_over s num den m j den_pos M h in_units)
      ∙ sym (two_or_more s (m * up e) (down e) (down_pos e) (too_far h))

  product : nearest_times 1 (round binary64 s num den) ≡ whole_in (halves_up (signed s num) (down e))
  product = go (leb (2 ^ 2098) (m * 2 ^ j)) refl
    where
      go : (b : Bool) → leb (2 ^ 2098) (m * 2 ^ j) ≡ b
          → nearest_times 1 (round binary64 s num den) ≡ whole_in (halves_up (signed s num) (down e))
      go true e = outside (leb-true (2 ^ 2098) (m * 2 ^ j) e)
      go false e = exact (leb-false (2 ^ 2098) (m * 2 ^ j) e)

plus_sign : (s : Bool) → unlike s false ≡ s
plus_sign true = refl
plus_sign false = refl

D_float : of_int binary64 (pos D) ≡ fin false 1 (pos 16)
unfolding of_int round
D_float = refl

times-D : (x : Float) → T (fits binary64 x) → nearest_times 1 (mul binary64 x (fin false 1 (pos 16))) ≡ nearest_whole x
unfolding mul nearest_times
times-D nan h = refl
times-D (inf s) h = refl
times-D (fin s m e) h =
    ap (λ (b : Bool). nearest_times 1 (round binary64 b (m * up e * D) (down e * 1))) (plus_sign s)
    ∙ product s m e (in_format s m e h).0 (in_format s m e h).1

pub product_alike : ProductAlike
product_alike x h = ap (λ (y : Float). nearest_times 1 (mul binary64 x y)) D_float ∙ times-D x h
