-- The value of a field of digits, and what was read of it.
use mathlib.Core.Path.{◌≡◌, refl, sym, ap, ◌∙◌}
use mathlib.Core.Bool.{Bool, true, false, true≢false, ◌&&◌, cond, and-false}
use mathlib.Core.List.{List}
use Prim.Native.Nat.{ℕ, ◌-◌, ◌≤◌, ◌<◌}
use native.Mathlib.Nat.{le_of_eq}
use native.Mathlib.Omega.{arith}
use borrow.Author.Tests.{lt-ltb, ltb-true, le-leb, leb-true}
use lib.Dec.{ltb, leb}
use lib.ListN.{length, take, drop, length-drop}
use lib.Seq.{take_all}
use Rattle.scheme.proofs.Laws.Bools.{and_yes, and_both}
use Rattle.std.specs.Prelude.{Some, None}
use Rattle.ring_decimals.specs.Decimals.{all, is_digit, digits_value, unsigned_to, unsigned_read}

-- a part of a list that goes to its end
pub tail_is : {A : Type 0} (l : List A) (n : ℕ) → take (length l - n) (drop n l) ≡ drop n l
tail_is l n = take_all (length l - n) (drop n l) (le_of_eq (length-drop n l))

pub and_no_second : (a : Bool) {b : Bool} → b ≡ false → (a && b) ≡ false
and_no_second a e = ap (λ (x : Bool). a && x) e ∙ and-false a

pub digit_range : (b : ℕ) → is_digit b ≡ true → (48 ≤ b) × (b ≤ 57)
digit_range b e = let h = and_both (leb 48 b) (leb b 57) e in (leb-true 48 b h.0, leb-true b 57 h.1)

-- ---- whether a field is a number

-- the parts of the test
pub record Digits (most : ℕ) (f : List ℕ) : Type 0 where
  pub some : 0 < length f
  pub digits : all is_digit f ≡ true
  pub low : digits_value f ≤ most

module _ (most : ℕ) (f : List ℕ) where
  pub within : Digits most f → unsigned_to most f ≡ true
  unfolding unsigned_to
  within d = and_yes (lt-ltb 0 (length f) d.some) ∙ and_yes d.digits ∙ le-leb (digits_value f) most d.low

  pub parts : unsigned_to most f ≡ true → Digits most f
  unfolding unsigned_to
  parts e =
      let first = and_both (ltb 0 (length f)) (all is_digit f && leb (digits_value f) most) e in
      let second = and_both (all is_digit f) (leb (digits_value f) most) first.1 in
      record { some = ltb-true _ _ first.0; digits = second.0; low = leb-true _ _ second.1 }

  pub no_number : unsigned_to most f ≡ false → unsigned_read most f ≡ None
  unfolding unsigned_read
  no_number e = ap (λ (t : Bool). cond t (Some (digits_value f)) None) e

  -- what was read tells
  pub wrong_read : unsigned_read most f ≡ None → unsigned_to most f ≡ false
  unfolding unsigned_read
  wrong_read = go (unsigned_to most f)
    where
      go : (t : Bool) → cond t (Some (digits_value f)) None ≡ None → t ≡ false
      go true e = absurd (cc)
      go false e = refl

  pub right_read : {n : ℕ} → unsigned_read most f ≡ Some n → (unsigned_to most f ≡ true) × (digits_value f ≡ n)
  unfolding unsigned_read
  right_read {n} = go (unsigned_to most f)
    where
      go : (t : Bool) → cond t (Some (digits_value f)) None ≡ Some n → (t ≡ true) × (digits_value f ≡ n)
      go true e = (refl, cc)
      go false e = absurd (cc)

-- ---- of a smaller value

module _ (most more : ℕ) (f : List ℕ) where
  not_without : (Digits most f → ⊥) → unsigned_read most f ≡ None
  unfolding unsigned_read
  not_without n = go (unsigned_to most f) refl
    where
      go : (t : Bool) → unsigned_to most f ≡ t → cond t (Some (digits_value f)) None ≡ None
      go true e = absurd (n (parts most f e))
      go false e = refl

  pub none_read : most ≤ more → unsigned_read more f ≡ None → unsigned_read most f ≡ None
  none_read h e = not_without (λ d. true≢false (sym (wider d) ∙ wrong_read more f e))
    where
      wider : Digits most f → unsigned_to more f ≡ true
      wider d = within more f (record { some = d.some; digits = d.digits; low = omega arith })

  pub above_read : {n : ℕ} → unsigned_read more f ≡ Some n → most < n → unsigned_read most f ≡ None
  above_read e h = not_without (λ d. omega (arith, d.low, (right_read more f e).1))

  pub low_read : {n : ℕ} → unsigned_read more f ≡ Some n → n ≤ most → unsigned_read most f ≡ Some n
  unfolding unsigned_read
  low_read {n} e h =
      let r = right_read more f e in
      let p = parts more f r.0 in
      let w : unsigned_to most f ≡ true = within most f (record { some = p.some; digits = p.digits; low = omega (arith, r.1) }) in
      simp w (ap Some r.1)
