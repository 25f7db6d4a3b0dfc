-- From what was read of a line to what it asks for.
use mathlib.Core.Path.{◌≡◌, refl, sym, ap, ◌∙◌}
use mathlib.Core.Bool.{Bool, true, false, ◌&&◌, cond}
use mathlib.Core.List.{List, [], ◌∷◌}
use Prim.Native.Nat.{ℕ, ◌-◌, ◌^◌, ◌≤◌, ◌<◌}
use native.Mathlib.Omega.{arith}
use borrow.Author.Tests.{lt-leb, leb-true, leb-false, eqb-true, ne_eqb}
use lib.Dec.{ltb, leb, eqb, lit<}
use lib.IntN.{ℤ}
use lib.ListN.{length, take, get_or}
use lib.Seq.{take_all, length-take-le}
use Rattle.scheme.proofs.Laws.Bools.{and_both}
use Rattle.std.specs.Prelude.{Option, Some, None}
use Rattle.ring_decimals.specs.Decimals.{all, minus, is_digit, digits_value, unsigned_to, is_unsigned, is_signed, signed_value, signed_read}
use Rattle.ring_decimals.proofs.DecimalLaws.{digit_range}
use Rattle.ring_decimals.proofs.SignedLaws.{signed_wrong, signed-right}
use Rattle.ring_line.specs.declared.asked.Numbers.{Numbers}
use Rattle.ring_line.specs.Lists.{before}
use Rattle.ring_line.specs.Requests.{line_feed, space, fields, field, well_formed, numbers, line_request, request_of}
use Rattle.ring_line.specs.Reading.{ten, Read}
use Rattle.ring_line.specs.Claims.{FirstBytesTell}
use Rattle.ring_line.proofs.ListLaws.{before-first, split_last, split_more}
use Rattle.ring_line.proofs.FieldLaws.{all_take, not-signed, not-steps, all_right, last_length, last_is, too_many}

-- ---- a line

pub turned_down : (line : List ℕ) → well_formed (fields line) ≡ false → None ≡ line_request line
unfolding line_request
turned_down line e = sym (ap (λ (t : Bool). cond t (Some (numbers (fields line))) None) e)

-- ---- the tenth field has no space

digits-whole : (f : List ℕ) → all is_digit f ≡ true → before space f ≡ f
unfolding all before
digits-whole [] e = refl
digits-whole (b ∷ bs) e =
    let both = and_both (is_digit b) (all is_digit bs) e in
    simp (ne_eqb b space (λ z. omega (arith, digit_range b both.0)), digits-whole bs both.1)

unsigned_whole : (most : ℕ) (f : List ℕ) → unsigned_to most f ≡ true → before space f ≡ f
unfolding unsigned_to
unsigned_whole most f e =
    let low = leb (digits_value f) most in
    digits-whole f (and_both (all is_digit f) low (and_both (ltb 0 (length f)) (all is_digit f && low) e).1).0

signed-whole : (f : List ℕ) → is_signed f ≡ true → before space f ≡ f
unfolding is_signed before
signed-whole [] e = refl
signed-whole (b ∷ bs) e = go (eqb b minus) refl e
  where
    go : (t : Bool) → eqb b minus ≡ t → cond t (unsigned_to (2 ^ 63) bs) (is_unsigned (b ∷ bs)) ≡ true → before space (b ∷ bs) ≡ b ∷ bs
    go true k u = simp (ne_eqb b space (λ z. omega (arith, eqb-true b minus k)), unsigned_whole (2 ^ 63) bs u)
    go false k u = unsigned_whole (2 ^ 63 - 1) (b ∷ bs) u

-- ---- nine fields were read

module _ (line values rest : List ℕ) (r : Read line 9 values rest) where
  abbrev fs : List (List ℕ)
  fs = fields line

  -- whether the tenth is the last
  abbrev ends : Bool
  ends = leb (length rest) (length (before space rest))

  alone : ends ≡ true → fields rest ≡ rest ∷ []
  alone k = split_last space rest (leb-true _ _ k)

  more : ends ≡ false → well_formed fs ≡ false
  more k = too_many line values 9 rest r _ _ (split_more space rest (leb-false _ _ k)) (omega arith)

  pub force_turned_down : signed_read rest ≡ None → None ≡ line_request line
  force_turned_down e = turned_down line (go ends refl)
    where
      go : (t : Bool) → ends ≡ t → well_formed fs ≡ false
      go true k = not-signed fs (ap is_signed (last_is line values 9 rest r (alone k)) ∙ signed_wrong rest e)
      go false k = more k

  pub steps_turned_down : 8192 < get_or values 7 0 → None ≡ line_request line
  steps_turned_down b = turned_down line (not-steps fs (omega (arith, r.value 7 (lit< tt))))

  pub taken : (v : ℤ) → signed_read rest ≡ Some v → get_or values 7 0 ≤ 8192 → Some (ten values v) ≡ line_request line
  unfolding line_request
  taken v e b =
      let f = signed-right rest e in
      let alone : fields rest ≡ rest ∷ [] = split_last space rest (omega (arith, ap length (signed-whole rest f.0))) in
      let last = last_is line values 9 rest r alone in
      let fields-ten : length fs ≡ 10 = last_length line values 9 rest r alone in
      let low : digits_value (field fs 7) ≤ 8192 = omega (arith, r.value 7 (lit< tt)) in
      let ok = all_right fs fields-ten (all_take is_unsigned [] 9 fs r.each) (ap is_signed last ∙ f.0) low in
      let value : v ≡ signed_value (field fs 9) = sym (ap signed_value last ∙ f.1) in
      let same : ten values v ≡ numbers fs =
      λ j. record {
        kind = r.value 0 (lit< tt) j;
        columns = r.value 1 (lit< tt) j;
        rows = r.value 2 (lit< tt) j;
        q = r.value 3 (lit< tt) j;
        m = r.value 4 (lit< tt) j;
        s = r.value 5 (lit< tt) j;
        pick = r.value 6 (lit< tt) j;
        steps = r.value 7 (lit< tt) j;
        point = r.value 8 (lit< tt) j;
        force = value j;
      } in
      ap Some same ∙ sym (ap (λ (t : Bool). cond t (Some (numbers fs)) None) ok)

-- ---- the first bytes

pub first_bytes_tell : FirstBytesTell
unfolding request_of
first_bytes_tell bytes = ap told (before-first line_feed 256 bytes) ∙ cases (before line_feed bytes)
  where
    told : List ℕ → Option Numbers
    told l = cond (leb (length l) 255) (line_request l) None

    cases : (l : List ℕ) → told (take 256 l) ≡ told l
    cases l = go (leb (length l) 255) refl
      where
        go : (t : Bool) → leb (length l) 255 ≡ t → told (take 256 l) ≡ told l
        go true e = ap told (take_all 256 l (omega (arith, leb-true (length l) 255 e)))
        go false e =
            let h : 256 ≤ length l = omega (arith, leb-false (length l) 255 e) in
            let f = take 256 l in
            ap (λ (t : Bool). cond t (line_request f) None) (lt-leb (length f) 255 (omega (arith, length-take-le 256 l h)))
            ∙ sym (ap (λ (t : Bool). cond t (line_request l) None) e)
