-- The fields of a line, one after the other, and when they are well formed.
use mathlib.Core.Path.{◌≡◌, refl, sym, ap, ◌∙◌}
use mathlib.Core.Bool.{Bool, true, false, cond}
use mathlib.Core.List.{List, [], ◌∷◌}
use Prim.Native.Nat.{ℕ, zero, suc, ◌+◌, ◌≤◌, ◌<◌}
use native.Mathlib.Numerals.{add-one}
use native.Mathlib.Omega.{arith}
use borrow.Author.Count.{below_none, below_more}
use borrow.Author.Tests.{eq-eqb, ne_eqb, le-leb, lt-leb}
use lib.Dec.{eqb}
use lib.ListN.{length, take, drop, set, get_or, length-drop}
use lib.Seq.{drop-cons, get_or-set_same, get_or-set_other}
use Rattle.scheme.proofs.Laws.Bools.{and_yes, and_no}
use Rattle.ring_decimals.specs.Decimals.{all, digits_value, is_unsigned, is_signed}
use Rattle.ring_line.specs.Lists.{on_first, split_on}
use Rattle.ring_line.specs.Requests.{space, fields, field, well_formed}
use Rattle.ring_line.specs.Reading.{Read}
use Rattle.ring_decimals.proofs.DecimalLaws.{and_no_second}

-- ---- well formed or not

module _ (fs : List (List ℕ)) where
  pub not-ten : (length fs ≡ 10 → ⊥) → well_formed fs ≡ false
  unfolding well_formed
  not-ten f = and_no _ (ne_eqb (length fs) 10 f)

  pub not_unsigned : all is_unsigned (take 9 fs) ≡ false → well_formed fs ≡ false
  unfolding well_formed
  not_unsigned e = and_no_second (eqb (length fs) 10) (and_no _ e)

  pub not-signed : is_signed (field fs 9) ≡ false → well_formed fs ≡ false
  unfolding well_formed
  not-signed e = and_no_second (eqb (length fs) 10) (and_no_second (all is_unsigned (take 9 fs)) (and_no _ e))

  pub not-steps : 8192 < digits_value (field fs 7) → well_formed fs ≡ false
  unfolding well_formed
  not-steps h =
      and_no_second (eqb (length fs) 10)
      (and_no_second (all is_unsigned (take 9 fs)) (and_no_second (is_signed (field fs 9)) (lt-leb (digits_value (field fs 7)) 8192 h)))

  pub all_right : length fs ≡ 10 → all is_unsigned (take 9 fs) ≡ true → is_signed (field fs 9) ≡ true → digits_value (field fs 7) ≤ 8192 →
      well_formed fs ≡ true
  unfolding well_formed
  all_right l w f h = and_yes (eq-eqb (length fs) 10 l) ∙ and_yes w ∙ and_yes f ∙ le-leb (digits_value (field fs 7)) 8192 h

-- ---- all of the first n, one by one

module _ {A : Type 0} (p : A → Bool) (d : A) where
  pub all_take : (n : ℕ) (l : List A) → ((k : ℕ) → k < n → p (get_or l k d) ≡ true) → all p (take n l) ≡ true
  unfolding all
  all_take zero l h = refl
  all_take (suc n) [] h = refl
  all_take (suc n) (x ∷ xs) h = and_yes (h 0 (omega arith)) ∙ all_take n xs (λ k q. h (suc k) (omega arith))

  pub not-all-take : (n : ℕ) (l : List A) (k : ℕ) → k < n → k < length l → p (get_or l k d) ≡ false → all p (take n l) ≡ false
  unfolding all
  not-all-take zero l k h q e = absurd (omega arith)
  not-all-take (suc n) [] k h q e = absurd (omega arith)
  not-all-take (suc n) (x ∷ xs) zero h q e = and_no _ e
  not-all-take (suc n) (x ∷ xs) (suc k) h q e = and_no_second (p x) (not-all-take n xs k (omega arith) (omega arith) e)

-- ---- what stands at a place

module _ {A : Type 0} (l : List A) {r : List A} {x : A} (i : ℕ) (d : A) (e : drop i l ≡ x ∷ r) where
  pub at_inside : i < length l
  at_inside = omega (arith, length-drop i l, ap length e)

  pub at_is : get_or l i d ≡ x
  at_is = cc (drop-cons l i d at_inside, e)

  pub after_is : drop (suc i) l ≡ r
  after_is = cc (drop-cons l i d at_inside, e)

-- ---- field by field

pub some_field : (s : ℕ) (l : List ℕ) → 0 < length (split_on s l)
unfolding split_on
some_field s [] = omega arith
some_field s (b ∷ bs) = go (eqb b s) (split_on s bs)
  where
    go : (t : Bool) (r : List (List ℕ)) → 0 < length (cond t ([] ∷ r) (on_first b r))
    go true r = omega arith
    go false [] = omega arith
    go false (f ∷ fs) = omega arith

-- after the first i fields
module _ (line values : List ℕ) (i : ℕ) (rest : List ℕ) (r : Read line i values rest) where
  abbrev fs : List (List ℕ)
  fs = fields line

  -- the next field is the last
  module _ (e : fields rest ≡ rest ∷ []) where
    last : drop i fs ≡ rest ∷ []
    last = r.others ∙ e

    pub last_length : length fs ≡ i + 1
    last_length = omega (arith, length-drop i fs, ap length last)

    pub last_is : field fs i ≡ rest
    last_is = at_is fs i [] last

    pub too_few : i < 9 → well_formed fs ≡ false
    too_few b = not-ten fs (λ e. omega (arith, last_length))

  -- others come after it
  module _ (f after : List ℕ) (e : fields rest ≡ f ∷ fields after) where
    more : drop i fs ≡ f ∷ fields after
    more = r.others ∙ e

    more-length : i + 1 < length fs
    more-length = omega (arith, length-drop i fs, ap length more, some_field space after)

    more_is : field fs i ≡ f
    more_is = at_is fs i [] more

    pub too_many : 9 ≤ i → well_formed fs ≡ false
    too_many b = not-ten fs (λ e. omega (arith, more-length))

    pub wrong_field : i < 9 → is_unsigned f ≡ false → well_formed fs ≡ false
    wrong_field b e = not_unsigned fs (not-all-take is_unsigned [] 9 fs i b (omega (arith, more-length)) (ap is_unsigned more_is ∙ e))

    pub read_more : (v : ℕ) → i < length values → is_unsigned f ≡ true → digits_value f ≡ v → Read line (i + 1) (set values i v) after
    read_more v b e d =
        record {
          others = rw (add-one i) (after_is fs i [] more);
          each = below_more _ i r.each (ap is_unsigned more_is ∙ e);
          value = below_more _ i earlier (get_or-set_same values i v 0 b ∙ sym this);
        }
      where
        this : digits_value (field fs i) ≡ v
        this = ap digits_value more_is ∙ d

        earlier : (k : ℕ) → k < i → get_or (set values i v) k 0 ≡ digits_value (field fs k)
        earlier k q = get_or-set_other values i k v 0 (λ e. omega arith) ∙ r.value k q

pub read_none : (line values : List ℕ) → Read line 0 values line
read_none line values = record { others = refl; each = below_none _; value = below_none _ }
