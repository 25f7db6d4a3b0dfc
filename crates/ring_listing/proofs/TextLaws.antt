-- Text: one after the other, the digits of a number, and how long the lines are.
use mathlib.Core.Path.{◌≡◌, refl, sym, ap, ap₂, ◌∙◌, subst, subst⁻¹}
use mathlib.Core.Bool.{Bool, true, false, true≢false}
use mathlib.Core.List.{List, [], ◌∷◌, ◌++◌, append_assoc, append-nil}
use Prim.Native.Nat.{ℕ, zero, suc, ◌+◌, ◌-◌, ◌/◌, ◌%◌, ◌^◌, ◌≤◌, ◌<◌}
use native.Mathlib.Nat.{div-lt_iff_lt-mul, le-div_iff_mul-le, mod-lt, pow-suc, div-lt_self}
use native.Mathlib.Omega.{arith}
use borrow.Author.Tests.{lt-ltb, le-ltb, ltb-true, ltb-false}
use lib.Dec.{ltb}
use lib.IntN.{ℤ, pos, negsuc, nat_abs}
use lib.ListN.{length, take, drop, length-append, take-append-drop}
use lib.Seq.{drop-drop}
use lib.Signed.{lt_z}
use Rattle.io.specs.Digits.{hex_digit_ascii, last_digits, IsDigitCount}
use Rattle.ring_line.specs.Lists.{text}
use Rattle.ring_listing.specs.Text.{digit, digits_in, decimal, signed_decimal, pair_line, done_line, over}
use Rattle.ring_listing.specs.declared.written.Text.{Text}
use Rattle.ring_listing.specs.Put.{sign, Put, Room}

-- ---- one text after the other

-- what is kept from a place on is kept further on
kept_on : (m n : ℕ) (a b : List ℕ) → drop m b ≡ drop m a → drop (m + n) b ≡ drop (m + n) a
kept_on m n a b e = sym (drop-drop n m b) ∙ ap (drop n) e ∙ drop-drop n m a

pub put_put : {a b c : Text} {s t : List ℕ} → Put a s b → Put b t c → Put a (s ++ t) c
put_put {a} {b} {c} {s} {t} p q =
    record {
      ends = omega (arith, p.ends, q.ends, length-append s t);
      holds = q.holds ∙ ap (λ (l : List ℕ). l ++ t) p.holds ∙ append_assoc (take a.length a.buffer.now) s t;
      kept = q.kept ∙ subst⁻¹ (λ (k : ℕ). drop k b.buffer.now ≡ drop k a.buffer.now) q.ends
          (kept_on b.length (length t) a.buffer.now b.buffer.now p.kept);
      same = q.same ∙ p.same;
      long = q.long ∙ p.long;
    }

pub put_same : {a b : Text} {s t : List ℕ} → s ≡ t → Put a s b → Put a t b
put_same {a} {b} e p = subst (λ (l : List ℕ). Put a l b) e p

pub put_nothing : (a : Text) → Put a [] a
put_nothing a = record { ends = omega arith; holds = sym (append-nil (take a.length a.buffer.now)); kept = refl; same = refl; long = refl }

-- a text from the start, and the whole buffer
pub put_over : {a b : Text} {s : List ℕ} → a.length ≡ 0 → Put a s b → (b.length ≡ length s) × (b.buffer.now ≡ over s a.buffer.now)
put_over {a} {b} {s} z p =
    let long : b.length ≡ length s = omega (arith, p.ends, z) in
    let first : take b.length b.buffer.now ≡ s = p.holds ∙ ap (λ (k : ℕ). take k a.buffer.now ++ s) z in
    (long, sym (take-append-drop b.length b.buffer.now) ∙ ap₂ ◌++◌ first p.kept ∙ ap (λ (k : ℕ). s ++ drop k a.buffer.now) long)

-- ---- the digits of a number

shorter : (n k : ℕ) → 10 ≤ n → n ≤ suc k → n / 10 ≤ k
shorter n k h l = omega (arith, div-lt_self {n = n} {k = 10} (omega arith) (omega arith))

-- more than enough places change nothing
enough : (j k n : ℕ) → n ≤ j → n ≤ k → digits_in j n ≡ digits_in k n
unfolding digits_in
enough zero zero n a b = refl
enough zero (suc k) n a b = simp (lt-ltb n 10 (omega arith))
enough (suc j) zero n a b = simp (lt-ltb n 10 (omega arith))
enough (suc j) (suc k) n a b = go (ltb n 10) refl (λ h. enough j k (n / 10) (shorter n j h a) (shorter n k h b))
  where
    go : (t : Bool) → ltb n 10 ≡ t → (10 ≤ n → digits_in j (n / 10) ≡ digits_in k (n / 10)) → digits_in (suc j) n ≡ digits_in (suc k) n
    go true e more = simp e
    go false e more = simp (e, more (ltb-false n 10 e))

pub decimal_one : (n : ℕ) → n < 10 → decimal n ≡ digit (n % 10) ∷ []
unfolding decimal digits_in
decimal_one zero h = refl
decimal_one (suc k) h = simp (lt-ltb (suc k) 10 h)

pub decimal-more : (n : ℕ) → 10 ≤ n → decimal n ≡ decimal (n / 10) ++ (digit (n % 10) ∷ [])
unfolding decimal digits_in
decimal-more zero h = absurd (omega arith)
decimal-more (suc k) h =
    simp (le-ltb (suc k) 10 h, enough k (suc k / 10) (suc k / 10) (shorter (suc k) k h (omega arith)) (omega arith))

glyph_is : (d : ℕ) → d < 10 → hex_digit_ascii d ≡ digit d
glyph_is d h = simp (lt-ltb d 10 h)

ten_powers : (k : ℕ) → 10 ≤ 10 ^ suc k
ten_powers zero = omega arith
ten_powers (suc k) = omega (arith, pow-suc 10 (suc k), ten_powers k)

-- without its last digit
tenth : (n k : ℕ) → n < 10 ^ suc k → n / 10 < 10 ^ k
tenth n k h = (div-lt_iff_lt-mul {k = 10} (omega arith)).1 (subst (λ (p : ℕ). n < p) (pow-suc 10 k) h)

-- the fewest digits are the decimal's
pub spelled : (k n : ℕ) → IsDigitCount 10 1 n k → last_digits 10 k n ≡ decimal n
spelled zero n f = absurd (omega (arith, f.0))
spelled (suc zero) n f = ap (λ (d : ℕ). d ∷ []) (glyph_is (n % 10) (mod-lt n (omega arith))) ∙ sym (decimal_one n (omega (arith, f.1)))
spelled (suc (suc k)) n f =
    let less : suc (suc k) - 1 ≡ suc k = omega arith in
    let less-still : suc k - 1 ≡ k = omega arith in
    let low : 10 ^ suc k ≤ n = subst (λ (j : ℕ). 10 ^ j ≤ n) less (f.2 (omega arith)) in
    let rest-high : n / 10 < 10 ^ suc k = tenth n (suc k) f.1 in
    let rest-low : 10 ^ k ≤ n / 10 = (le-div_iff_mul-le {k = 10} (omega arith)).1 (subst (λ (p : ℕ). p ≤ n) (pow-suc 10 k) low) in
    let rest = spelled (suc k) (n / 10) (omega arith, rest-high, λ h. subst⁻¹ (λ (j : ℕ). 10 ^ j ≤ n / 10) less-still rest-low) in
    ap (λ (l : List ℕ). l ++ (hex_digit_ascii (n % 10) ∷ [])) rest
    ∙ ap (λ (d : ℕ). decimal (n / 10) ++ (d ∷ [])) (glyph_is (n % 10) (mod-lt n (omega arith)))
    ∙ sym (decimal-more n (omega (arith, low, ten_powers k)))

-- ---- lengths

pub decimal-length : (k n : ℕ) → n < 10 ^ suc k → length (decimal n) ≤ suc k
decimal-length zero n h = omega (arith, ap length (decimal_one n (omega arith)))
decimal-length (suc k) n h =
    go (ltb n 10) refl (decimal-length k (n / 10) (tenth n (suc k) h))
  where
    go : (t : Bool) → ltb n 10 ≡ t → length (decimal (n / 10)) ≤ suc k → length (decimal n) ≤ suc (suc k)
    go true e l = omega (arith, ap length (decimal_one n (ltb-true n 10 e)))
    go false e l = omega (arith, ap length (decimal-more n (ltb-false n 10 e)), length-append (decimal (n / 10)) (digit (n % 10) ∷ []))

-- ---- signs

pub sign_below : (v : ℤ) → lt_z v (pos 0) ≡ true → sign v ≡ 45 ∷ []
sign_below (pos n) e = absurd (omega (arith, ltb-true n 0 e))
sign_below (negsuc n) e = refl

pub sign-from_0 : (v : ℤ) → lt_z v (pos 0) ≡ false → sign v ≡ []
sign-from_0 (pos n) e = refl
sign-from_0 (negsuc n) e = absurd (true≢false e)

pub signed_parts : (v : ℤ) → sign v ++ decimal (nat_abs v) ≡ signed_decimal v
unfolding signed_decimal text
signed_parts (pos n) = refl
signed_parts (negsuc n) = refl

pub signed_long : (v : ℤ) → length (signed_decimal v) ≡ length (sign v) + length (decimal (nat_abs v))
signed_long v = omega (arith, ap length (signed_parts v), length-append (sign v) (decimal (nat_abs v)))

pub signed-length : (v : ℤ) → nat_abs v < 100000 → length (signed_decimal v) ≤ 6
unfolding signed_decimal text
signed-length (pos n) h = omega (arith, decimal-length 4 n h)
signed-length (negsuc n) h = omega (arith, decimal-length 4 (suc n) h)

pub pair_parts : (number : ℕ) (v : ℤ) → length (pair_line number v) ≡ length (decimal number) + 1 + length (signed_decimal v) + 1
unfolding pair_line text
pair_parts number v =
    let end = signed_decimal v ++ (10 ∷ []) in
    omega (arith, length-append (decimal number) (32 ∷ end), length-append (signed_decimal v) (10 ∷ []))

-- a line of two numbers of this size
module _ (number : ℕ) (v : ℤ) (h : number < 10000) (k : nat_abs v < 100000) where
  pair_length : length (pair_line number v) ≤ 12
  pair_length = omega (arith, pair_parts number v, decimal-length 3 number h, signed-length v k)

  pub pair_fits : (t : Text) → t.length + 12 ≤ length t.buffer.now → Room t (pair_line number v)
  pair_fits t l = omega (arith, pair_length)

  pub pair_ends : {a b : Text} → Put a (pair_line number v) b → b.length ≤ a.length + 12
  pair_ends p = omega (arith, p.ends, pair_length)

pub done_parts : (count refusal : ℕ) → length (done_line count refusal) ≡ 5 + length (pair_line count (pos refusal))
unfolding done_line text
done_parts count refusal = omega arith

pub done-length : (count refusal : ℕ) → count < 10000 → refusal < 100 → length (done_line count refusal) ≤ 13
unfolding signed_decimal
done-length count refusal h k =
    let parts = done_parts count refusal in
    omega (arith, parts, pair_parts count (pos refusal), decimal-length 3 count h, decimal-length 1 refusal k)
