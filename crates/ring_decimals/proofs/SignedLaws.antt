-- A number that may be negative, by whether a minus leads.
use mathlib.Core.Path.{◌≡◌, refl, ap}
use mathlib.Core.Bool.{Bool, true, false, cond}
use mathlib.Core.List.{List}
use Prim.Native.Nat.{ℕ, ◌^◌}
use borrow.Author.Tests.{eq-eqb, ne_eqb}
use lib.IntN.{ℤ, pos, neg_ℤ}
use lib.ListN.{drop, get_or}
use Rattle.std.specs.Prelude.{Some, None}
use Rattle.ring_decimals.specs.Decimals.{digits_value, unsigned_to, is_unsigned, is_negative, is_signed, signed_value, minus, signed_read}

-- what was read tells
module _ (f : List ℕ) where
  pub signed_wrong : signed_read f ≡ None → is_signed f ≡ false
  unfolding signed_read
  signed_wrong = go (is_signed f)
    where
      go : (t : Bool) → cond t (Some (signed_value f)) None ≡ None → t ≡ false
      go true e = absurd (cc)
      go false e = refl

  pub signed-right : {z : ℤ} → signed_read f ≡ Some z → (is_signed f ≡ true) × (signed_value f ≡ z)
  unfolding signed_read
  signed-right {z} = go (is_signed f)
    where
      go : (t : Bool) → cond t (Some (signed_value f)) None ≡ Some z → (t ≡ true) × (signed_value f ≡ z)
      go true e = (refl, cc)
      go false e = absurd (cc)

  pub not-signed-read : is_signed f ≡ false → signed_read f ≡ None
  unfolding signed_read
  not-signed-read e = ap (λ (t : Bool). cond t (Some (signed_value f)) None) e

module _ (f : List ℕ) (h : get_or f 0 0 ≡ minus) where
  negative : is_negative f ≡ true
  negative = eq-eqb (get_or f 0 0) minus h

  pub signed-minus : is_signed f ≡ unsigned_to (2 ^ 63) (drop 1 f)
  unfolding is_signed
  signed-minus = ap (λ (t : Bool). cond t (unsigned_to (2 ^ 63) (drop 1 f)) (is_unsigned f)) negative

  value-minus : signed_value f ≡ neg_ℤ (pos (digits_value (drop 1 f)))
  unfolding signed_value
  value-minus = ap (λ (t : Bool). cond t (neg_ℤ (pos (digits_value (drop 1 f)))) (pos (digits_value f))) negative

  pub minus_read : cond (unsigned_to (2 ^ 63) (drop 1 f)) (Some (neg_ℤ (pos (digits_value (drop 1 f))))) None ≡ signed_read f
  unfolding signed_read
  minus_read = simp (signed-minus, value-minus)

module _ (f : List ℕ) (h : get_or f 0 0 ≡ minus → ⊥) where
  not_negative : is_negative f ≡ false
  not_negative = ne_eqb (get_or f 0 0) minus h

  pub signed_plus : is_signed f ≡ is_unsigned f
  unfolding is_signed
  signed_plus = ap (λ (t : Bool). cond t (unsigned_to (2 ^ 63) (drop 1 f)) (is_unsigned f)) not_negative

  value_plus : signed_value f ≡ pos (digits_value f)
  unfolding signed_value
  value_plus = ap (λ (t : Bool). cond t (neg_ℤ (pos (digits_value (drop 1 f)))) (pos (digits_value f))) not_negative

  pub plus_read : cond (is_unsigned f) (Some (pos (digits_value f))) None ≡ signed_read f
  unfolding signed_read
  plus_read = simp (signed_plus, value_plus)
