-- What the library's `parse` reads of a text that no plus leads, and which fields are such texts.
use Rattle.std.proofs.Common.{rules, arith, ◌≡◌, ◌≢◌, ℕ, ◌+◌, ◌-◌, ◌*◌, ◌^◌, ◌≤◌, ◌<◌, Bool, true, false, List, [], ◌∷◌, length}
use Rattle.std.proofs.Common.{drop, get_or, refl, sym, ap, subst, ◌∙◌, ℤ, pos, neg_ℤ, w64}
use mathlib.Core.Bool.{cond, true≢false}
use mathlib.Core.List.{foldl}
use lib.Dec.{eqb}
use borrow.Author.Tests.{eq-eqb, eqb-true, eqb-false}
use Rattle.std.specs.Prelude.{Option, Some, None, Ok, Err, MatchOption, MatchResult}
use Rattle.std.specs.List.{starts_with}
use denote.Bor.{Bor}
use Rattle.std.specs.declared.result.Result.{Result}
use Rattle.std.specs.Result.{OkIff, result_ok}
use Rattle.std.specs.Str.{IsUtf8, IsAscii}
use Rattle.std.specs.Str.Parse.{ParsesUnsigned, ParsesSigned}
use Rattle.std.proofs.lemmas.Str.{IsUtf8-from_ascii}
use Rattle.std.proofs.lemmas.Str.Ascii.{IsAscii-nil, IsAscii-cons}
use Rattle.std.proofs.lemmas.Str.Parse.{IsNumeralModel, numerals_by_fold, parse_plain, parse_signed_plain, parse_signed_minus}
use Rattle.scheme.proofs.Laws.Bools.{and_both}
use Rattle.ring_decimals.specs.Decimals.{all, minus, is_digit, digits_value, unsigned_to, is_unsigned, is_signed}
use Rattle.ring_decimals.specs.Decimals.{unsigned_read, signed_read}
use Rattle.ring_decimals.specs.Text.{plus, NoNumber, Plain}
use Rattle.ring_decimals.proofs.DecimalLaws.{within, parts, digit_range}
use Rattle.ring_decimals.proofs.SignedLaws.{signed-minus, signed_plus, minus_read, plus_read}

-- ---- the library's words for digits and their value

own : IsNumeralModel (λ ds. all is_digit ds ≡ true) digits_value
unfolding all
own = numerals_by_fold _ (search rules) (λ n ds. foldl (λ n b. 10 * n + (b - 48)) n ds) (search rules)

module _ {T E : Type 0} (g : List ℕ) (most : ℕ) (z : T) {Low : Type 0} (low : Low → digits_value g ≤ most)
    (back : digits_value g ≤ most → Low) where
  read : (r : Result T E) → OkIff r ((all is_digit g ≡ true) × (0 < length g) × Low) z →
      result_ok r ≡ cond (unsigned_to most g) (Some z) None
  read (Ok x) h =
      let w : unsigned_to most g ≡ true = within most g (record { some = h.0.1; digits = h.0.0; low = low h.0.2 }) in
      simp w (ap Some h.1)
  read (Err e) h = go (unsigned_to most g) refl
    where
      go : (t : Bool) → unsigned_to most g ≡ t → None ≡ cond t (Some z) None
      go true e = let p = parts most g e in absurd (h (p.digits, p.some, back p.low))
      go false e = refl

module _ {E : Type 0} (f : List ℕ) (no_plus : get_or f 0 0 ≢ plus) where
  pub parsed : (r : Result ℕ E) → ParsesUnsigned 64 10 f r → result_ok r ≡ unsigned_read (2 ^ 64 - 1) f
  unfolding unsigned_read
  parsed r h = read f (2 ^ 64 - 1) (digits_value f) (λ l. omega arith) (λ l. omega arith) r (parse_plain own 64 f r h no_plus)

  pub parsed_signed : (r : Result ℤ E) → ParsesSigned w64 10 f r → result_ok r ≡ signed_read f
  parsed_signed r h = go (eqb (get_or f 0 0) minus) refl
    where
      go : (t : Bool) → eqb (get_or f 0 0) minus ≡ t → result_ok r ≡ signed_read f
      go true e =
          let led = eqb-true _ _ e in
          read (drop 1 f) (2 ^ 63) (neg_ℤ (pos (digits_value (drop 1 f)))) (λ l. l) (λ l. l) r (parse_signed_minus own w64 f r h led)
          ∙ minus_read f led
      go false e =
          let plain = eqb-false _ _ e in
          read f (2 ^ 63 - 1) (pos (digits_value f)) (λ l. omega arith) (λ l. omega arith) r
          (parse_signed_plain own w64 f r h no_plus plain)
          ∙ plus_read f plain

-- ---- fields that are no number

all-ascii : (f : List ℕ) → all is_digit f ≡ true → IsAscii f
unfolding all
all-ascii [] e = IsAscii-nil
all-ascii (b ∷ bs) e =
    let both = and_both (is_digit b) (all is_digit bs) e in
    IsAscii-cons b bs (omega (arith, digit_range b both.0)) (all-ascii bs both.1)

-- a number is ASCII
unsigned-ascii : (most : ℕ) (f : List ℕ) → unsigned_to most f ≡ true → IsAscii f
unsigned-ascii most f e = all-ascii f (parts most f e).digits

signed-ascii : (f : List ℕ) → is_signed f ≡ true → IsAscii f
signed-ascii [] e = IsAscii-nil
signed-ascii (b ∷ bs) e = go (eqb b minus) refl
  where
    go : (t : Bool) → eqb b minus ≡ t → IsAscii (b ∷ bs)
    go true k =
        let led = eqb-true _ _ k in
        IsAscii-cons b bs (omega (arith, led)) (unsigned-ascii (2 ^ 63) bs (sym (signed-minus (b ∷ bs) led) ∙ e))
    go false k = unsigned-ascii (2 ^ 63 - 1) (b ∷ bs) (sym (signed_plus (b ∷ bs) (eqb-false _ _ k)) ∙ e)

neither : (t : Bool) → (t ≡ true → ⊥) → t ≡ false
neither true n = absurd (n refl)
neither false n = refl

pub no_text : (f : List ℕ) → (IsUtf8 f → ⊥) → NoNumber f
no_text f n = record {
  unsigned = neither _ (λ e. n (IsUtf8-from_ascii f (unsigned-ascii (2 ^ 63 - 1) f e)));
  signed = neither _ (λ e. n (IsUtf8-from_ascii f (signed-ascii f e)));
}

-- a plus is no digit
pub plus_leads : (f : List ℕ) → get_or f 0 0 ≡ plus → NoNumber f
unfolding all
plus_leads [] e = absurd (omega (arith, e))
plus_leads (b ∷ bs) e =
    let none : is_unsigned (b ∷ bs) ≡ false = neither _ (λ u. omega (
      arith,
      e,
      digit_range b (and_both (is_digit b) (all is_digit bs) (parts (2 ^ 63 - 1) (b ∷ bs) u).digits).0,
    )) in
    record { unsigned = none; signed = signed_plus (b ∷ bs) (λ m. omega (arith, e, m)) ∙ none }

led_by_plus : (f : List ℕ) (t : Bool) → t ≡ starts_with eqb f (plus ∷ []) → cond t (get_or f 0 0 ≡ plus) (get_or f 0 0 ≢ plus)
led_by_plus [] true h = absurd (true≢false h)
led_by_plus [] false h = λ e. omega (arith, e)
led_by_plus (b ∷ bs) true h = sym (eqb-true plus b (and_both (eqb plus b) true (sym h)).0)
led_by_plus (b ∷ bs) false h = λ e. let same : eqb plus b ≡ true = eq-eqb plus b (sym e) in true≢false (sym (simp same) ∙ sym h)

pub has_plus : (f : List ℕ) → true ≡ starts_with eqb f (plus ∷ []) → get_or f 0 0 ≡ plus
has_plus f h = led_by_plus f true h

-- the text, or no number
pub text-told : {E : Type 0} (Q : E → Type 0) (f : List ℕ) (r : Result (Bor (List ℕ)) E) (o : Option (Bor (List ℕ))) →
    false ≡ starts_with eqb f (plus ∷ []) → o ≡ result_ok r →
    MatchResult r (λ s. (s.now ≡ f) × IsUtf8 f) (λ e. ¬ (IsUtf8 f) × Q e) → MatchOption o (NoNumber f) (λ t. Plain f t.now)
text-told Q f (Ok s) o h e m = simp e (record { same = m.0; no_plus = led_by_plus f false h })
text-told Q f (Err d) o h e m = simp e (no_text f m.0)

-- what is read of the text
module _ {E : Type 0} {f t : List ℕ} (p : Plain f t) where
  pub parsed_of : (r : Result ℕ E) → ParsesUnsigned 64 10 t r → result_ok r ≡ unsigned_read (2 ^ 64 - 1) f
  parsed_of r h = parsed f p.no_plus r (subst (λ (l : List ℕ). ParsesUnsigned 64 10 l r) p.same h)

  pub parsed_signed_of : (r : Result ℤ E) → ParsesSigned w64 10 t r → result_ok r ≡ signed_read f
  parsed_signed_of r h = parsed_signed f p.no_plus r (subst (λ (l : List ℕ). ParsesSigned w64 10 l r) p.same h)
