-- The program's literals, and its tests of a float, as the definitions have them.
use mathlib.Core.Path.{◌≡◌, refl, sym, ap, ◌∙◌}
use mathlib.Core.Logic.{◌⊎◌, inl, inr}
use mathlib.Core.Bool.{Bool, true, false, ◌&&◌, or-true}
use Prim.Native.Nat.{ℕ, zero, suc, ◌+◌, ◌*◌, ◌^◌, ◌%◌, ◌-◌, ◌≤◌, ◌<◌, zero-le}
use native.Mathlib.Nat.{mul-pos, zero-mul, zero-lt-suc, le_of_suc-le-suc, eq-or-lt_of_le}
use native.Mathlib.Nat.{mul_assoc, mul-le-mul, mul-le-mul_right, lt_of_mul-lt-mul_right}
use native.Mathlib.Omega.{arith}
use borrow.Author.Tests.{lt-ltb, le-ltb, eq-eqb, ne_eqb, leb-true, leb-false}
use lib.Dec.{T, leb, ltb, eqb, ltb→lt, lit<, eqb-suc-zero}
use lib.Pow.{pow-add, pow_mono, pow_pos}
use lib.IntN.{ℤ, pos, negsuc}
use lib.Ieee.{Float, nan, inf, fin, up, down, binary64, lt, le, eq, fits, mul, div, round, of_bits}
use lib.Ieee.Fits.{up_pos, down_pos}
use Rattle.sheet.specs.declared.Speed.TheVariants.{Hertz}
use Rattle.sheet.specs.declared.Loss.TheVariants.{Seconds}
use Rattle.sheet.specs.Coefficients.{nearest_float, courant_squared, loss_per_step}
use Rattle.sheet.specs.Numbers.{non_negative, positive}

-- ---- the program's literals, by their bit patterns

abbrev two : Float
two = of_bits binary64 0x4000_0000_0000_0000

abbrev decay : Float
decay = of_bits binary64 0x401b_a18a_998f_ffa0

two_is : two ≡ nearest_float 2 1
unfolding of_bits round
two_is = refl

decay_is : decay ≡ nearest_float 6907755278982137 (10 ^ 15)
unfolding of_bits round
decay_is = refl

-- the program's sequences that have them
abbrev hertz_squared : (two g rate f : Float) → Float
hertz_squared two g rate f = let z = div binary64 (mul binary64 (mul binary64 two f) g) rate in mul binary64 z z

pub hertz_is : (g h rate f : Float) → hertz_squared two g rate f ≡ courant_squared g h rate (Hertz f)
hertz_is g h rate f = ap (λ z. hertz_squared z g rate f) two_is

pub seconds_is : (rate t : Float) → div binary64 (div binary64 decay t) rate ≡ loss_per_step rate (Seconds t)
seconds_is rate t = ap (λ z. div binary64 (div binary64 z t) rate) decay_is

-- ---- the tests. 0.0, and the largest finite number
abbrev pub zero_float : Float
zero_float = of_bits binary64 0

abbrev pub largest : Float
largest = of_bits binary64 0x7fef_ffff_ffff_ffff

size-pos : (m : ℕ) (e : ℤ) → 0 < suc m * up e
size-pos m e = mul-pos (zero-lt-suc m) (up_pos e)

-- m × 2ᵏ, below (p + 1) × 2ᵇ and with m at most p, is at most p × 2ᵇ
at_most : (p b m k : ℕ) → m ≤ p → m * 2 ^ k < suc p * 2 ^ b → m * 2 ^ k ≤ p * 2 ^ b
at_most p b m k h l = go (leb k b) (leb-true k b) (leb-false k b)
  where
    split : b < k → m * 2 ^ k ≡ m * 2 ^ (k - b) * 2 ^ b
    split h =
        let j : k ≡ k - b + b = omega arith in
        ap (λ (x : ℕ). m * 2 ^ x) j ∙ ap (λ (x : ℕ). m * x) (pow-add 2 (k - b) b) ∙ sym (mul_assoc m (2 ^ (k - b)) (2 ^ b))

    go : (t : Bool) → (t ≡ true → k ≤ b) → (t ≡ false → b < k) → m * 2 ^ k ≤ p * 2 ^ b
    go true low high = mul-le-mul h (pow_mono (low refl))
    go false low high =
        let e = split (high refl) in
        rw e (mul-le-mul_right (2 ^ b) (le_of_suc-le-suc (lt_of_mul-lt-mul_right (2 ^ b) (rw e at l))))

of_size : (p b m : ℕ) (e : ℤ) → m ≤ p → m * up e < suc p * 2 ^ b * down e → m * up e * 1 ≤ p * 2 ^ b * down e
of_size p b m (pos k) h l = mul-le-mul_right 1 (at_most p b m k h (omega arith))
of_size p b m (negsuc k) h l = mul-le-mul (mul-le-mul h (pow_pos b)) (pow_pos (suc k))

-- no float is above the largest, (2⁵³ − 1) × 2⁹⁷¹
top : ℕ → ℕ
top d = (2 ^ 53 - 1) * 2 ^ 971 * d

up_to_top : (m : ℕ) (e : ℤ) → T (fits binary64 (fin false m e)) → m * up e * 1 ≤ top (down e)
unfolding fits top
up_to_top zero e h = rw zero-mul zero-le
up_to_top (suc m) e h =
    let p = parts (eqb (suc m % 2) 1) (ltb (suc m) (2 ^ 53)) (leb (down e) (2 ^ 1074)) (ltb (suc m * up e) (2 ^ 1024 * down e)) h in
    let low = ltb→lt (suc m) (2 ^ 53) p.0 in
    of_size (2 ^ 53 - 1) 971 (suc m) e (le_of_suc-le-suc low) (ltb→lt (suc m * up e) (2 ^ 1024 * down e) p.1)
  where
    parts : (a b c d : Bool) → T (a && b && c && d) → T b × T d
    parts true true true true t = (tt, tt)
    parts true true true false t = absurd t
    parts true true false d t = absurd t
    parts true false c d t = absurd t
    parts false b c d t = absurd t

plus_below : (m : ℕ) (e : ℤ) → T (fits binary64 (fin false m e)) → le (fin false m e) largest ≡ true
unfolding lt eq le of_bits top
plus_below m e h = go (eq-or-lt_of_le (up_to_top m e h))
  where
    go : (m * up e * 1 ≡ top (down e)) ⊎ (m * up e * 1 < top (down e)) → le (fin false m e) largest ≡ true
    go (inl q) = simp (eq-eqb (m * up e * 1) (top (down e)) q, or-true (ltb (m * up e * 1) (top (down e))))
    go (inr l) = simp (lt-ltb (m * up e * 1) (top (down e)) l)

minus-below : (m : ℕ) (e : ℤ) → le (fin true m e) largest ≡ true
unfolding lt eq le of_bits top
minus-below m e =
    let p = mul-pos {m = (2 ^ 53 - 1) * 2 ^ 971} (lit< tt) (down_pos e) in
    simp (lt-ltb 0 (m * up e * 1 + top (down e)) (more (m * up e * 1) (top (down e)) p))
  where
    more : (a b : ℕ) → 0 < b → 0 < a + b
    more a b h = omega arith

pub non_negative_is : (x : Float) → T (fits binary64 x) → (le zero_float x && le x largest) ≡ non_negative x
unfolding lt eq le of_bits non_negative
non_negative_is nan h = refl
non_negative_is (inf true) h = refl
non_negative_is (inf false) h = refl
non_negative_is (fin false zero e) h =
    simp (le-ltb (0 * down e) (0 * up e * 1) (omega arith), eq-eqb (0 * down e) (0 * up e * 1) (omega arith), plus_below zero e h)
non_negative_is (fin false (suc m) e) h =
    let p = size-pos m e in simp (lt-ltb (0 * down e) (suc m * up e * 1) (omega arith), plus_below (suc m) e h)
non_negative_is (fin true zero e) h =
    simp (eq-eqb (0 * down e) (0 * up e * 1) (omega arith), eq-eqb (0 * down e) 0 (omega arith), minus-below zero e)
non_negative_is (fin true (suc m) e) h =
    let p = size-pos m e in
    let n : 0 * down e ≡ suc m * up e * 1 → ⊥ = λ q. omega arith in
    simp (ne_eqb (0 * down e) (suc m * up e * 1) n, eqb-suc-zero m)

pub positive_is : (x : Float) → T (fits binary64 x) → (lt zero_float x && le x largest) ≡ positive x
unfolding lt eq le of_bits positive
positive_is nan h = refl
positive_is (inf true) h = refl
positive_is (inf false) h = refl
positive_is (fin true m e) h = refl
positive_is (fin false zero e) h = simp (le-ltb (0 * down e) (0 * up e * 1) (omega arith))
positive_is (fin false (suc m) e) h =
    let p = size-pos m e in simp (lt-ltb (0 * down e) (suc m * up e * 1) (omega arith), plus_below (suc m) e h, eqb-suc-zero m)
