-- The place in the table, by steps that are a little too long.
use mathlib.Core.Path.{◌≡◌, sym, ap, ◌∙◌}
use Prim.Native.Nat.{ℕ, suc, ◌+◌, ◌-◌, ◌*◌, ◌/◌, ◌≤◌, ◌<◌}
use native.Mathlib.Nat.{mul-one, mul_comm, mul_assoc, mul-add, suc-mul, lt_of_le_of_lt, sub-le}
use native.Mathlib.Nat.{mul-le-mul, mul-le-mul_left, mul-le-mul_right}
use native.Mathlib.Nat.{div-lt_iff_lt-mul, le-div_iff_mul-le, div-le_of_le-mul, mul-div-le, lt-mul-div-succ, div-eq_of_lt-le}
use native.Mathlib.Omega.{arith}

-- the entry that is looked up is there
pub place_inside : (w d : ℕ) → 1 ≤ w → 1024 * (w - d) / w < 1025
place_inside w d h = (div-lt_iff_lt-mul h).1 (lt_of_le_of_lt (mul-le-mul_left 1024 (sub-le w d)) (omega arith))

-- k steps end in the entry of the quotient, though each is a little too long: p is 2³²
module _ (p w k : ℕ) (some : 1 ≤ w) (narrow : w ≤ 1024) (in-width : k ≤ w) (fine : 1049600 * w ≤ p) where
  abbrev reciprocal : ℕ
  reciprocal = p / w + 1

  abbrev quotient : ℕ
  quotient = 1024 * k / w

  steps : k * (1024 * reciprocal) ≡ 1024 * k * reciprocal
  steps = sym (mul_assoc k 1024 reciprocal) ∙ ap (λ (n : ℕ). n * reciprocal) (mul_comm k 1024)

  reach : (n : ℕ) → w * n * reciprocal ≡ n * (w * reciprocal)
  reach n = ap (λ (m : ℕ). m * reciprocal) (mul_comm w n) ∙ mul_assoc n w reciprocal

  low : quotient * p ≤ k * (1024 * reciprocal)
  low =
      let a : quotient * p ≤ quotient * (w * reciprocal) = mul-le-mul_left quotient (omega (arith, lt-mul-div-succ p some)) in
      let b : w * quotient * reciprocal ≤ 1024 * k * reciprocal = mul-le-mul_right reciprocal (mul-div-le (1024 * k) w) in
      omega (arith, a, b, reach quotient, steps)

  high : k * (1024 * reciprocal) < (quotient + 1) * p
  high =
      let n = quotient + 1 in
      let most : 1024 * k ≤ w * 1024 = omega (arith, mul_comm w 1024) in
      let few : n ≤ 1025 = omega (arith, div-le_of_le-mul w most) in
      let wide : 1049600 ≤ p / w = (le-div_iff_mul-le some).1 fine in
      let a : suc (1024 * k) * reciprocal ≤ w * n * reciprocal = mul-le-mul_right reciprocal (lt-mul-div-succ (1024 * k) some) in
      let b : n * (w * reciprocal) ≤ n * (p + w) = mul-le-mul_left n (omega (arith, mul-add w (p / w) 1, mul-one w, mul-div-le p w)) in
      let c : n * w ≤ 1025 * 1024 = mul-le-mul few narrow in
      omega (arith, a, b, c, wide, reach n, steps, suc-mul (1024 * k) reciprocal, mul-add n p w)

  pub place_is : k * (1024 * reciprocal) / p ≡ quotient
  place_is = div-eq_of_lt-le p low high

-- the steps from the first entry to that of distance d, of a half width w
module _ (w d step : ℕ) (is : step ≡ 1024 * (4294967296 / w + 1)) (some : 1 ≤ w) (narrow : w ≤ 1024) where
  pub place_by_steps : (w - d) * step / 4294967296 ≡ 1024 * (w - d) / w
  place_by_steps =
      ap (λ (n : ℕ). (w - d) * n / 4294967296) is ∙ place_is 4294967296 w (w - d) some narrow (sub-le w d) (omega arith)

  pub in_table : (w - d) * step / 4294967296 < 1025
  in_table = omega (arith, place_by_steps, place_inside w d some)
