-- The nearest whole number by the fields of a float's bit pattern.
use mathlib.Core.Path.{◌≡◌, refl, sym, ap, ◌∙◌, subst}
use mathlib.Core.Logic.{◌⊎◌, inl, inr}
use mathlib.Core.Bool.{Bool, true, false, not, cond, true≢false}
use Prim.Native.Nat.{ℕ, zero, suc, ◌+◌, ◌-◌, ◌*◌, ◌/◌, ◌%◌, ◌^◌, ◌≤◌, ◌<◌}
use native.Mathlib.Nat.{lt_of_lt_of_le, eq-or-lt_of_le, le_of_suc-le-suc, mul_assoc, mul_right_comm, mul-le-mul, mod-lt}
use native.Mathlib.Omega.{arith}
use borrow.Author.Tests.{le-leb, lt-leb, ne_eqb, leb-true, leb-false}
use lib.Dec.{T, leb, eqb, lit≤}
use lib.IntN.{pos, neg_ℤ, ◌*ℤ◌}
use lib.Pow.{pow-add, pow_pos, pow_mono, field}
use lib.Ieee.{Float, nan, inf, fin, up, down, binary64, of_fields, of_bits, ne, is_nan}
use lib.Ieee.Compare.{differs_from_itself, nan_differs}
use lib.Ieee.Exact.{HasValue, odd_sign}
use lib.Ieee.Fits.{down_pos}
use Rattle.integers.proofs.Ring.{◌⊗◌, ⊝◌, ◌≈◌, ring}
use Rattle.std.specs.Prelude.{Some, None}
use Rattle.types.specs.Numbers.{D}
use Rattle.scheme.specs.Step.{nearest}
use Rattle.nearest.specs.Nearest.{signed, halves_up, whole_in, nearest_times, nearest_whole}
use Rattle.nearest.proofs.HalvesUp.{is_whole, above-whole, same_fraction, plus, minus_half, minus-below, small, large}

-- ---- a float that is a / c in size

signed_mul : (s : Bool) (a b : ℕ) → signed s (a * b) ≡ signed s a *ℤ pos b
signed_mul false a b = refl
signed_mul true a b = ring 2 (λ a b. ⊝ (a ⊗ b) ≈ ⊝ a ⊗ b) refl (pos a) (pos b)

pub same_size : (s : Bool) (a b c d : ℕ) → 0 < b → 0 < d → a * d ≡ c * b
    → whole_in (halves_up (signed s a) b) ≡ whole_in (halves_up (signed s c) d)
same_size s a b c d p q h = ap whole_in (same_fraction (signed s a) (signed s c) b d p q
    (sym (signed_mul s a d) ∙ ap (signed s) h ∙ signed_mul s c b))

pub by_value : (k : ℕ) (v : Float) (s : Bool) (a c : ℕ) → 0 < c → HasValue v s a c
    → nearest_times k v ≡ whole_in (halves_up (signed s (a * k)) c)
unfolding nearest_times
by_value k nan s a c p h = absurd h
by_value k (inf t) s a c p h = absurd h
by_value k (fin t m e) s a c p h =
    ap (λ (b : Bool). whole_in (halves_up (signed b (m * up e * k)) (down e))) h.0
    ∙ same_size s (m * up e * k) (down e) (a * k) c (down_pos e) p
    (mul_right_comm (m * up e) k c ∙ ap (λ (x : ℕ). x * k) h.1 ∙ mul_right_comm a (down e) k)

-- ---- the fields: the exponent's field e, and the digits t below the leading one

abbrev pub leading : ℕ
leading = 2 ^ 52

-- the mantissa; a field of 0 has no leading digit
abbrev pub mantissa : ℕ → ℕ → ℕ
mantissa zero t = t
mantissa (suc x) t = leading + t

pub mantissa-below : (e t : ℕ) → t < leading → mantissa e t < 2 ^ 53
mantissa-below zero t h = omega arith
mantissa-below (suc x) t h = omega arith

fields_value : (s : Bool) (e t : ℕ) → e < 2047 → HasValue (of_fields binary64 s e t) s (mantissa e t * 2 ^ (e - 1)) (2 ^ 1074)
unfolding of_fields
fields_value s zero t h = odd_sign 53 s t 0 1074
fields_value s (suc x) t h =
    let n : eqb (suc x) 2047 ≡ false = ne_eqb (suc x) 2047 (λ e. omega arith) in
    let y : suc x - 1 ≡ x = omega arith in
    simp (n, y) (odd_sign 53 s (leading + t) x 1074)

of_fields_lem : (s : Bool) (e t : ℕ) → e < 2047
    → nearest_whole (of_fields binary64 s e t) ≡ whole_in (halves_up (signed s (mantissa e t * 2 ^ (e - 1) * D)) (2 ^ 1074))
of_fields_lem s e t h = by_value D (of_fields binary64 s e t) s (mantissa e t * 2 ^ (e - 1)) (2 ^ 1074) (pow_pos 1074)
    (fields_value s e t h)

-- D times a float below 2³⁶ is its mantissa over a power of two
mantissa-over : (m x : ℕ) → x ≤ 1058 → m * 2 ^ x * D * 2 ^ (1058 - x) ≡ m * 2 ^ 1074
mantissa-over m x h =
    mul_assoc (m * 2 ^ x) D (2 ^ (1058 - x)) ∙ mul_assoc m (2 ^ x) (D * 2 ^ (1058 - x))
    ∙ ap (λ (y : ℕ). m * (2 ^ x * y)) (sym (pow-add 2 16 (1058 - x)))
    ∙ ap (λ (y : ℕ). m * y) (sym (pow-add 2 x (16 + (1058 - x))) ∙ ap (λ (y : ℕ). 2 ^ y) (total x h))
  where
    total : (x : ℕ) → x ≤ 1058 → x + (16 + (1058 - x)) ≡ 1074
    total x h = omega arith

pub of_low_fields : (s : Bool) (e t : ℕ) → e ≤ 1059
    → nearest_whole (of_fields binary64 s e t) ≡ whole_in (halves_up (signed s (mantissa e t)) (2 ^ (1058 - (e - 1))))
of_low_fields s e t h =
    of_fields_lem s e t (omega arith)
    ∙ same_size s (mantissa e t * 2 ^ (e - 1) * D) (2 ^ 1074) (mantissa e t) (2 ^ (1058 - (e - 1)))
    (pow_pos 1074) (pow_pos (1058 - (e - 1))) (mantissa-over (mantissa e t) (e - 1) (omega arith))

no_number : (s b : Bool) → nearest_whole (cond b (inf s) nan) ≡ None
unfolding nearest_times
no_number s true = refl
no_number s false = refl

-- a field of ones is an infinity or not a number, and any other above 1023 is 2 or more in size
at_ones : (s : Bool) (t : ℕ) → nearest_whole (of_fields binary64 s 2047 t) ≡ None
unfolding of_fields
at_ones s t = no_number s (eqb t 0)

pub two_or_more : (s : Bool) (a d : ℕ) → 0 < d → 2 * d ≤ a → whole_in (halves_up (signed s (a * D)) d) ≡ None
two_or_more s a d p h = large s (a * D) d p (omega arith)

pub of_high_fields : (s : Bool) (e t : ℕ) → 1023 < e → e < 2048 → nearest_whole (of_fields binary64 s e t) ≡ None
of_high_fields s zero t h k = absurd (omega arith)
of_high_fields s (suc x) t h k = go (eq-or-lt_of_le (le_of_suc-le-suc k))
  where
    lead : (t : ℕ) → 2 ^ 52 ≤ leading + t
    lead t = omega arith

    high : 1023 ≤ suc x - 1
    high = omega arith

    go : (suc x ≡ 2047) ⊎ (suc x < 2047) → nearest_whole (of_fields binary64 s (suc x) t) ≡ None
    go (inl e) = ap (λ (y : ℕ). nearest_whole (of_fields binary64 s y t)) e ∙ at_ones s t
    go (inr l) =
        of_fields_lem s (suc x) t l
        ∙ two_or_more s ((leading + t) * 2 ^ (suc x - 1)) (2 ^ 1074) (pow_pos 1074) (mul-le-mul (lead t) (pow_mono high))

pub of_middle_fields : (s : Bool) (e t : ℕ) → 1006 ≤ e → e ≤ 1023
    → nearest_whole (of_fields binary64 s e t) ≡ whole_in (halves_up (signed s (leading + t)) (2 ^ (1059 - e)))
of_middle_fields s zero t h k = absurd (omega arith)
of_middle_fields s (suc x) t h k =
    let e : 1058 - (suc x - 1) ≡ 1059 - suc x = omega arith in
    of_low_fields s (suc x) t (omega arith) ∙ ap (λ (y : ℕ). whole_in (halves_up (signed s (leading + t)) (2 ^ y))) e

-- ---- the same of a bit pattern, with the fields as the code reads them

abbrev pub sign : ℕ
sign = 2 ^ 63

abbrev pub exponent : ℕ → ℕ
exponent b = b / leading % 2048

abbrev pub digits : ℕ → ℕ
digits b = b % leading

module _ (b : ℕ) where
  read_as : (s : Bool) → leb sign b ≡ s → nearest_whole (of_bits binary64 b) ≡ nearest_whole (of_fields binary64 s (exponent b) (digits b))
  unfolding of_bits
  read_as s h = ap (λ (x : ℕ). nearest_whole (of_fields binary64 (leb sign b) x (digits b))) (field b 11 52)
      ∙ ap (λ (u : Bool). nearest_whole (of_fields binary64 u (exponent b) (digits b))) h

  bits_small : exponent b < 1006 → nearest_whole (of_bits binary64 b) ≡ Some 0
  bits_small h =
      let d = 1058 - (exponent b - 1) in
      let m = mantissa (exponent b) (digits b) in
      let k : 54 ≤ d = omega arith in
      read_as (leb sign b) refl
      ∙ of_low_fields (leb sign b) (exponent b) (digits b) (omega arith)
      ∙ small (leb sign b) m (2 ^ d) (lt_of_lt_of_le (twice (mantissa-below (exponent b) (digits b) (mod-lt b (pow_pos 52)))) (pow_mono k))
    where
      twice : {m : ℕ} → m < 2 ^ 53 → 2 * m < 2 ^ 54
      twice h = omega arith

  bits_large : 1023 < exponent b → nearest_whole (of_bits binary64 b) ≡ None
  bits_large h = read_as (leb sign b) refl ∙ of_high_fields (leb sign b) (exponent b) (digits b) h (mod-lt (b / leading) (pow_pos 11))

  module _ (low : 1006 ≤ exponent b) (high : exponent b ≤ 1023) where
    bits_plus : b < sign → {d n : ℕ} → d ≡ digits b → n ≡ nearest (leading + d) (2 ^ (1059 - exponent b))
        → nearest_whole (of_bits binary64 b) ≡ whole_in (pos n)
    bits_plus h e f =
        read_as false (lt-leb sign b h)
        ∙ of_middle_fields false (exponent b) (digits b) low high
        ∙ ap whole_in (plus (leading + digits b) (2 ^ (1059 - exponent b)))
        ∙ ap (λ (n : ℕ). whole_in (pos n)) (sym (f ∙ ap (λ (d : ℕ). nearest (leading + d) (2 ^ (1059 - exponent b))) e))

    bits_minus : sign ≤ b
        → nearest_whole (of_bits binary64 b) ≡ whole_in (halves_up (neg_ℤ (pos (leading + digits b))) (2 ^ (1059 - exponent b)))
    bits_minus h = read_as true (le-leb sign b h) ∙ of_middle_fields true (exponent b) (digits b) low high

    bits_minus_half : sign ≤ b → exponent b ≡ 1006 → digits b ≡ 0 → nearest_whole (of_bits binary64 b) ≡ Some 0
    bits_minus_half h e t = bits_minus h
        ∙ ap whole_in (minus_half (leading + digits b) (2 ^ (1059 - exponent b)) (pow_pos (1059 - exponent b)) (simp (e, t) (lit≤ tt)))

    bits_minus_below : sign ≤ b → (exponent b ≡ 1006 → digits b ≡ 0 → ⊥) → nearest_whole (of_bits binary64 b) ≡ None
    bits_minus_below h n = bits_minus h ∙ minus-below (leading + digits b) (2 ^ (1059 - exponent b)) (go (eq-or-lt_of_le low))
      where
        over : {p : ℕ} → p ≤ 2 ^ 52 → p < 2 * (leading + digits b)
        over h = omega arith

        go : (1006 ≡ exponent b) ⊎ (1006 < exponent b) → 2 ^ (1059 - exponent b) < 2 * (leading + digits b)
        go (inl e) = let k = n (sym e) in rw (← e) (omega arith)
        go (inr l) = let k : 1059 - exponent b ≤ 52 = omega arith in over (pow_mono k)

  -- ---- the same by sign and exponent in one field, as the code reads them

  no_sign : b / leading < 2048 → exponent b ≡ b / leading
  no_sign h = omega arith

  pub field_small : b / leading < 1006 → nearest_whole (of_bits binary64 b) ≡ Some 0
  field_small h = bits_small (omega arith)

  pub field_middle : 1006 ≤ b / leading → b / leading ≤ 1023
      → {d n : ℕ} → d ≡ digits b → n ≡ nearest (leading + d) (2 ^ (1059 - b / leading)) → nearest_whole (of_bits binary64 b) ≡ whole_in
      (pos n)
  field_middle low high {d} e f =
      bits_plus (omega arith) (omega arith) (omega arith) e
      (f ∙ ap (λ (x : ℕ). nearest (leading + d) (2 ^ (1059 - x))) (sym (no_sign (omega arith))))

  -- and whether what is rounded is past D
  pub bits_whole : {n : ℕ} → 1006 ≤ b / leading → b / leading ≤ 1023 → n ≡ nearest (leading + digits b) (2 ^ (1059 - b / leading))
      → n ≤ D → nearest_whole (of_bits binary64 b) ≡ Some n
  bits_whole {n} low high e h = field_middle low high refl e ∙ is_whole n h

  pub bits_above : {n : ℕ} → 1006 ≤ b / leading → b / leading ≤ 1023 → n ≡ nearest (leading + digits b) (2 ^ (1059 - b / leading))
      → D < n → nearest_whole (of_bits binary64 b) ≡ None
  bits_above {n} low high e h = field_middle low high refl e ∙ above-whole n h

  pub field_large : 1023 < b / leading → b < sign → nearest_whole (of_bits binary64 b) ≡ None
  field_large low high = bits_large (omega arith)

  -- a negative number from −1/2 on, and one below
  pub minus_near : sign ≤ b → b ≤ sign + 1006 * leading → nearest_whole (of_bits binary64 b) ≡ Some 0
  minus_near low high = go (eq-or-lt_of_le at_most)
    where
      at_most : exponent b ≤ 1006
      at_most = omega arith

      go : (exponent b ≡ 1006) ⊎ (exponent b < 1006) → nearest_whole (of_bits binary64 b) ≡ Some 0
      go (inl e) = bits_minus_half (omega arith) (omega arith) low e (omega arith)
      go (inr l) = bits_small l

  pub minus_far : sign + 1006 * leading < b → b < 2 * sign → nearest_whole (of_bits binary64 b) ≡ None
  minus_far low high = go (leb (exponent b) 1023) (leb-true (exponent b) 1023) (leb-false (exponent b) 1023)
    where
      go : (t : Bool) → (t ≡ true → exponent b ≤ 1023) → (t ≡ false → 1023 < exponent b) → nearest_whole (of_bits binary64 b) ≡ None
      go true h k = let l = h refl in bits_minus_below (omega arith) l (omega arith) (λ e t. omega arith)
      go false h k = bits_large (k refl)

-- ---- not a number

pub nan_outside : (x : Float) → ne x x ≡ true → nearest_whole x ≡ None
unfolding nearest_times
nan_outside x h = ap nearest_whole (differs_from_itself x (subst T (sym h) tt))

pub no_nan : (x : Float) → ne x x ≡ false → T (not (is_nan x))
unfolding is_nan
no_nan nan h = absurd (true≢false (sym nan_differs ∙ h))
no_nan (inf s) h = tt
no_nan (fin s m e) h = tt
