-- Laws of `round_away`, `remainder_of` and `sample_of`.
use mathlib.Core.Path.{◌≡◌, refl, sym, ap, ◌∙◌, subst}
use mathlib.Core.Bool.{Bool, true, false, cond, not, true≢false}
use Prim.Native.Nat.{ℕ, zero, suc, ◌+◌, ◌-◌, ◌*◌, ◌/◌, ◌%◌, ◌^◌, ◌≤◌, ◌<◌, zero-le}
use native.Mathlib.Nat.{mul-mod_left, div-add-mod'}
use native.Mathlib.Nat.{div-eq_of_lt, div-eq_of_lt-le, div-mul-le_self, lt-div-mul-add, div-lt_iff_lt-mul, le-div_iff_mul-le}
use native.Mathlib.Nat as N
use native.Mathlib.Omega.{arith}
use borrow.Author.Tests.{eqb-true, eq-eqb, ltb-true, ltb-false, lt-ltb, le-ltb}
use lib.Dec.{ltb, ltb→lt, nltb→le}
use lib.IntN.{ℤ, pos, negsuc, neg_ℤ, nat_abs, sub_ℕ, ◌+ℤ◌, ◌-ℤ◌, ◌*ℤ◌, neg_ℤ-neg_ℤ}
use lib.Signed.{lt_z}
use Rattle.integers.proofs.Ring.{#◌, ⊝◌, ◌⊕◌, ◌⊖◌, ◌⊗◌, ◌≈◌, ring}
use Rattle.integers.proofs.Size.{cond_ind, size-neg, size-mul}
use Rattle.scheme.proofs.Laws.Bools.{not_so}
use Rattle.scheme.specs.Step.{nearest, round_away, remainder_of, is_multiple, RemaindersKeepRule, sample_of, SampleRule}

near : (m k q : ℕ) → 0 < k → (2 * m + k) / (2 * k) ≡ q → (2 * (k * q) ≤ 2 * m + k) × (2 * m ≤ 2 * (k * q) + k)
near m k q h e =
    let low : q * (2 * k) ≤ 2 * m + k = subst (λ (v : ℕ). v * (2 * k) ≤ 2 * m + k) e (div-mul-le_self (2 * m + k) (2 * k)) in
    let high : 2 * m + k < q * (2 * k) + 2 * k = subst (λ (v : ℕ). 2 * m + k < v * (2 * k) + 2 * k) e (lt-div-mul-add (omega arith)) in
    (omega arith, omega arith)

gap : (a b k : ℕ) → 2 * b ≤ 2 * a + k → 2 * a ≤ 2 * b + k → 2 * nat_abs (sub_ℕ a b) ≤ k
gap a b k h l =
    cond_ind (ltb a b) (negsuc (b - suc a)) (pos (a - b)) (λ (z : ℤ). 2 * nat_abs z ≤ k)
    (λ t. omega (arith, ltb→lt a b t)) (λ t. omega (arith, nltb→le a b t))

neg-gap : (a b k : ℕ) → 2 * b ≤ 2 * a + k → 2 * a ≤ 2 * b + k → 2 * nat_abs (neg_ℤ (pos a) +ℤ pos b) ≤ k
neg-gap zero b k h l = omega arith
neg-gap (suc a) b k h l = gap b (suc a) k l h

neg_near : (m k q : ℕ) → (2 * (k * q) ≤ 2 * suc m + k) × (2 * suc m ≤ 2 * (k * q) + k) → 2 * nat_abs (pos k *ℤ neg_ℤ (pos q) -ℤ negsuc m)
    ≤ k
neg_near m k zero w = omega arith
neg_near m k (suc q) w = neg-gap (k * suc q) (suc m) k w.1 w.0

-- 2·|d·r − n| ≤ d for the rounded quotient r of n by d
pub round_near : (n : ℤ) (d : ℕ) → 0 < d → 2 * nat_abs (pos d *ℤ round_away n d -ℤ n) ≤ d
unfolding round_away
round_near (pos zero) k h = omega (arith, ap (λ (q : ℕ). k * q) (div-eq_of_lt {n = 2 * zero + k} {m = 2 * k} (omega arith)))
round_near (pos (suc m)) k h =
    let w = near (suc m) k (nearest (suc m) k) h refl in
    gap (k * nearest (suc m) k) (suc m) k w.1 w.0
round_near (negsuc m) k h = neg_near m k (nearest (suc m) k) (near (suc m) k (nearest (suc m) k) h refl)

-- ---- as code computes it: half of d is added to the size of n, and the quotient is cut

half_way : (m k q : ℕ) → q * k ≤ m + k / 2 → m + k / 2 < q * k + k → (2 * m + k) / (2 * k) ≡ q
half_way m k q low high = div-eq_of_lt-le (2 * k) (omega arith) (omega arith)

nearest_half : (m k : ℕ) → 0 < k → (m + k / 2) / k ≡ nearest m k
nearest_half m k h = sym (half_way m k ((m + k / 2) / k) (div-mul-le_self (m + k / 2) k) (lt-div-mul-add h))

-- it has the sign of n
pub round_signed : (n : ℤ) (d : ℕ) → 0 < d
    → cond (lt_z n (pos 0)) (neg_ℤ (pos ((nat_abs n + d / 2) / d))) (pos ((nat_abs n + d / 2) / d)) ≡ round_away n d
unfolding round_away
round_signed (pos m) d h =
    ap (λ (t : Bool). cond t (neg_ℤ (pos ((m + d / 2) / d))) (pos ((m + d / 2) / d))) (le-ltb m 0 zero-le) ∙ ap pos (nearest_half m d h)
round_signed (negsuc m) d h = ap (λ (q : ℕ). neg_ℤ (pos q)) (nearest_half (suc m) d h)

-- ---- how large the rounded quotient is

pub round_size : (n : ℤ) (d : ℕ) → nat_abs (round_away n d) ≡ nearest (nat_abs n) d
unfolding round_away
round_size (pos n) d = refl
round_size (negsuc n) d = size-neg (pos (nearest (suc n) d))

-- it is beyond C exactly where the size of n with half of d added is not below (C + 1)·d: no division is needed to tell
pub round_limit : (n : ℤ) (d C : ℕ) → 0 < d → ltb (nat_abs n + d / 2) ((C + 1) * d) ≡ not (ltb C (nat_abs (round_away n d)))
round_limit n d C h =
    go (ltb m ((C + 1) * d)) refl ∙ sym (ap (λ (q : ℕ). not (ltb C q)) (round_size n d ∙ sym (nearest_half (nat_abs n) d h)))
  where
    m : ℕ
    m = nat_abs n + d / 2

    go : (t : Bool) → ltb m ((C + 1) * d) ≡ t → t ≡ not (ltb C (m / d))
    go true e = sym (ap not (le-ltb C (m / d) (omega (arith, (div-lt_iff_lt-mul {k = d} {x = m} {y = C + 1} h).1 (ltb-true m _ e)))))
    go false e = sym (ap not (lt-ltb C (m / d) (omega (arith, (le-div_iff_mul-le {k = d} {x = C + 1} {y = m} h).1 (ltb-false m _ e)))))

-- odd: the quotient of −n is minus that of n
pub round_odd : (n : ℤ) (d : ℕ) → 0 < d → round_away (neg_ℤ n) d ≡ neg_ℤ (round_away n d)
unfolding round_away
round_odd (pos zero) d h =
    let z : nearest zero d ≡ 0 = div-eq_of_lt (omega arith) in
    ap pos z ∙ sym (ap (λ (q : ℕ). neg_ℤ (pos q)) z)
round_odd (pos (suc n)) d h = refl
round_odd (negsuc n) d h = sym (neg_ℤ-neg_ℤ (pos (nearest (suc n) d)))

-- within C times the divisor the quotient lies within C
round_fits : (n : ℤ) (d C : ℕ) → 0 < d → nat_abs n ≤ C * d → nat_abs (round_away n d) ≤ C
round_fits n d C h l =
    ltb-false C (nat_abs (round_away n d)) (not-true _ (sym (round_limit n d C h) ∙
    lt-ltb (nat_abs n + d / 2) ((C + 1) * d) (omega (arith, l, N.add-mul C 1 d))))
  where
    not-true : (t : Bool) → not t ≡ true → t ≡ false
    not-true true e = absurd (true≢false (sym e))
    not-true false e = refl

-- less than half of the divisor is rounded to 0
round_small : (n : ℤ) (d : ℕ) → 2 * nat_abs n < d → round_away n d ≡ pos 0
unfolding round_away
round_small (pos n) d l = ap pos (div-eq_of_lt {n = 2 * n + d} {m = 2 * d} (omega arith))
round_small (negsuc n) d l = ap (λ (q : ℕ). neg_ℤ (pos q)) (div-eq_of_lt {n = 2 * suc n + d} {m = 2 * d} (omega arith))

-- ---- the remainder

-- of a multiple the rounded quotient is the whole number of divisors
whole_of : (n : ℤ) (d : ℕ) → 0 < d → is_multiple n d ≡ true → round_away n d *ℤ pos d ≡ n
unfolding round_away
whole_of n d h e = go n (nat_abs n / d) (div-add-mod' (nat_abs n) d) (eqb-true (nat_abs n % d) 0 e)
  where
    near_is : (m q r : ℕ) → q * d + r ≡ m → r ≡ 0 → nearest m d ≡ q
    near_is m q r f z = half_way m d q (omega arith) (omega arith)

    go : (n : ℤ) (q : ℕ) → q * d + nat_abs n % d ≡ nat_abs n → nat_abs n % d ≡ 0 → round_away n d *ℤ pos d ≡ n
    go (pos m) q f z =
        let whole : q * d ≡ m = omega (arith, f, z) in
        ap (λ (q : ℕ). pos (q * d)) (near_is m q (m % d) f z) ∙ ap pos whole
    go (negsuc m) q f z =
        let whole : q * d ≡ suc m = omega (arith, f, z) in
        ap (λ (q : ℕ). neg_ℤ (pos q) *ℤ pos d) (near_is (suc m) q (suc m % d) f z) ∙
        ring 2 (λ q d. (⊝ q) ⊗ d ≈ ⊝ (q ⊗ d)) refl (pos q) (pos d) ∙ ap (λ (k : ℕ). neg_ℤ (pos k)) whole

pub remainder_rule : RemaindersKeepRule
remainder_rule n d h = record {
  small = subst (λ (k : ℕ). 2 * k ≤ d)
      (sym (size-neg (pos d *ℤ round_away n d -ℤ n)) ∙
      ap nat_abs (ring 3 (λ n d w. ⊝ (d ⊗ w ⊖ n) ≈ n ⊖ w ⊗ d) refl n (pos d) (round_away n d))) (round_near n d h);
  none = λ e. ap (λ z. n -ℤ z) (whole_of n d h e) ∙ ring 1 (λ n. n ⊖ n ≈ # 0) refl n;
  whole = λ e. ring 2 (λ n z. n ≈ (n ⊖ z) ⊕ z) refl n (round_away n d *ℤ pos d) ∙
      ap (λ z. z +ℤ round_away n d *ℤ pos d) e ∙ ring 1 (λ z. # 0 ⊕ z ≈ z) refl (round_away n d *ℤ pos d);
  multiple = λ w e. eq-eqb (nat_abs n % d) 0 (ap (λ (z : ℤ). nat_abs z % d) e ∙ ap (λ (k : ℕ). k % d) (size-mul w (pos d)) ∙
      mul-mod_left (nat_abs w) d);
}

-- by the remainder
pub remainder_none : (n : ℤ) (d : ℕ) → 0 < d → remainder_of n d ≡ pos 0 → is_multiple n d ≡ true
remainder_none n d h e = let rule = remainder_rule n d h in rule.multiple (round_away n d) (rule.whole e)

pub remainder_some : (n : ℤ) (d : ℕ) → 0 < d → (remainder_of n d ≡ pos 0 → ⊥) → is_multiple n d ≡ false
remainder_some n d h e = not_so (λ t. e ((remainder_rule n d h).none t))

-- as code computes it: the remainder of the quotient that is cut, less half of d, with the sign of n
pub remainder_signed : (n : ℤ) (d : ℕ) → 0 < d → let z : ℤ = pos ((nat_abs n + d / 2) % d) -ℤ pos (d / 2) in
    cond (lt_z n (pos 0)) (neg_ℤ z) z ≡ remainder_of n d
remainder_signed n d h =
    go n ((nat_abs n + d / 2) / d) ((nat_abs n + d / 2) % d) (div-add-mod' (nat_abs n + d / 2) d) ∙
    ap (λ z. n -ℤ z *ℤ pos d) (round_signed n d h)
  where
    split : (m q r k : ℕ) → q * d + r ≡ m + k → pos m ≡ pos q *ℤ pos d +ℤ (pos r -ℤ pos k)
    split m q r k e =
        ring 2 (λ m k. m ≈ (m ⊕ k) ⊖ k) refl (pos m) (pos k) ∙ ap (λ (j : ℕ). pos j -ℤ pos k) (sym e) ∙
        ring 3 (λ a r k. (a ⊕ r) ⊖ k ≈ a ⊕ (r ⊖ k)) refl (pos (q * d)) (pos r) (pos k)

    go : (n : ℤ) (q r : ℕ) → q * d + r ≡ nat_abs n + d / 2
        → cond (lt_z n (pos 0)) (neg_ℤ (pos r -ℤ pos (d / 2))) (pos r -ℤ pos (d / 2))
        ≡ n -ℤ cond (lt_z n (pos 0)) (neg_ℤ (pos q)) (pos q) *ℤ pos d
    go (pos m) q r e =
        ap (λ (t : Bool). cond t (neg_ℤ (pos r -ℤ pos (d / 2))) (pos r -ℤ pos (d / 2))) (le-ltb m 0 zero-le) ∙
        ring 2 (λ a z. z ≈ (a ⊕ z) ⊖ a) refl (pos q *ℤ pos d) (pos r -ℤ pos (d / 2)) ∙
        ap (λ z. z -ℤ pos q *ℤ pos d) (sym (split m q r (d / 2) e)) ∙
        ap (λ (t : Bool). pos m -ℤ cond t (neg_ℤ (pos q)) (pos q) *ℤ pos d) (sym (le-ltb m 0 zero-le))
    go (negsuc m) q r e =
        ring 3 (λ q d z. ⊝ z ≈ (⊝ (q ⊗ d ⊕ z)) ⊖ (⊝ q) ⊗ d) refl (pos q) (pos d) (pos r -ℤ pos (d / 2)) ∙
        ap (λ z. neg_ℤ z -ℤ neg_ℤ (pos q) *ℤ pos d) (sym (split (suc m) q r (d / 2) e))

-- ---- the sample: rounding by 2²⁸

pub sample_rule : SampleRule
unfolding round_away sample_of
sample_rule = record {
  near = λ z. round_near z (2 ^ 28) (omega arith);
  odd = λ z. round_odd z (2 ^ 28) (omega arith);
  silent = λ z l. round_small z (2 ^ 28) (omega arith);
  fits = λ z h. round_fits z (2 ^ 28) 32767 (omega arith) h;
  highest = refl;
  lowest = refl;
}
