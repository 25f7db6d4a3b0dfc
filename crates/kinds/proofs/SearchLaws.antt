-- A search from 0 upward finds the first that does not pass; some or none of the first n numbers.
use mathlib.Core.Path.{◌≡◌, refl, sym, ap, ap₂, ◌∙◌}
use mathlib.Core.Bool.{Bool, true, false, not, ◌&&◌, ◌||◌, and-false, or-false, or_assoc, cond}
use Prim.Native.Nat.{ℕ, zero, suc, ◌+◌, ◌-◌, ◌*◌, ◌≤◌, ◌<◌}
use native.Mathlib.Nat.{add-suc, add-zero, zero-mul, suc-mul}
use native.Mathlib.Omega.{arith}
use borrow.Author.Count.{below_none, below_more}
use borrow.Author.Tests.{lt-ltb, le-ltb, le-leb, lt-leb, not-true}
use lib.Dec.{leb, ltb}
use Rattle.scheme.specs.Lists.{some_below}
use Rattle.scheme.proofs.Laws.Bools.{and_yes, and_no, cases}
use Rattle.scheme.proofs.Laws.Lists.{none_below}
use Rattle.kinds.specs.Search.{leading, Passed}

-- ---- the first that does not pass

module _ (n : ℕ) (p : ℕ → Bool) where
  pub passed_none : Passed n p 0
  passed_none = record { reached = omega arith; each = below_none _ }

  pub passed-more : {k : ℕ} → k < n → Passed n p k → p k ≡ true → Passed n p (k + 1)
  passed-more {k} h s e = record { reached = omega arith; each = below_more _ k s.each e }

pub leading_is : (n : ℕ) (p : ℕ → Bool) (k : ℕ) → Passed n p k → (k < n → p k ≡ false) → leading n p ≡ k
unfolding leading
leading_is zero p k s e = omega (arith, s.reached)
leading_is (suc n) p zero s e = ap (λ (b : Bool). cond b (suc (leading n (λ i. p (suc i)))) 0) (e (omega arith))
leading_is (suc n) p (suc k) s e =
    ap (λ (b : Bool). cond b (suc (leading n (λ i. p (suc i)))) 0) (s.each 0 (omega arith)) ∙
    ap suc (leading_is n (λ i. p (suc i)) k (record { reached = omega (arith, s.reached); each = λ i h. s.each (suc i) (omega arith) })
    (λ h. e (omega arith)))

-- by whether the first passes
leading_cases : (n : ℕ) (p : ℕ → Bool) (P : ℕ → Type 0) → (p 0 ≡ true → P (suc (leading n (λ i. p (suc i))))) → (p 0 ≡ false → P 0)
    → P (leading (suc n) p)
unfolding leading
leading_cases n p P f g = cases (λ b. P (cond b (suc (leading n (λ i. p (suc i)))) 0)) (p 0) f g

pub leading-passed : (n : ℕ) (p : ℕ → Bool) → Passed n p (leading n p)
unfolding leading
leading-passed zero p = passed_none zero p
leading-passed (suc n) p = leading_cases n p (Passed (suc n) p)
    (λ e. one (leading n (λ i. p (suc i))) e (leading-passed n (λ i. p (suc i)))) (λ e. passed_none (suc n) p)
  where
    one : (k : ℕ) → p 0 ≡ true → Passed n (λ i. p (suc i)) k → Passed (suc n) p (suc k)
    one k e s = record { reached = omega (arith, s.reached); each = at }
      where
        at : (i : ℕ) → i < suc k → p i ≡ true
        at zero h = e
        at (suc i) h = s.each i (omega arith)

pub leading_stops : (n : ℕ) (p : ℕ → Bool) → leading n p < n → p (leading n p) ≡ false
leading_stops zero p = λ h. absurd (omega arith)
leading_stops (suc n) p = leading_cases n p (λ k. k < suc n → p k ≡ false) (λ e h. leading_stops n (λ i. p (suc i)) (omega arith))
    (λ e h. e)

-- ---- some of the first n

-- the same tests
pub some_ext : (n : ℕ) {p q : ℕ → Bool} → ((i : ℕ) → i < n → p i ≡ q i) → some_below n p ≡ some_below n q
unfolding some_below
some_ext zero h = refl
some_ext (suc n) h = ap₂ ◌||◌ (some_ext n (λ i l. h i (omega arith))) (h n (omega arith))

pub some_none : (n : ℕ) (p : ℕ → Bool) {k : ℕ} → Passed n (λ i. not (p i)) k → n ≤ k → some_below n p ≡ false
some_none n p s h = none_below n p (λ i l. not-true (p i) (s.each i (omega arith)))

-- of the first m, or of the n after them
pub some_add : (m n : ℕ) (p : ℕ → Bool) → some_below (m + n) p ≡ (some_below m p || some_below n (λ i. p (m + i)))
unfolding some_below
some_add m zero p = ap (λ (k : ℕ). some_below k p) (add-zero m) ∙ sym (or-false (some_below m p))
some_add m (suc n) p =
    ap (λ (k : ℕ). some_below k p) (add-suc m n) ∙ ap (λ (b : Bool). b || p (m + n)) (some_add m n p) ∙
    or_assoc (some_below m p) (some_below n (λ i. p (m + i))) (p (m + n))

-- row by row
pub some_rows : (r c : ℕ) (p : ℕ → Bool) → some_below (r * c) p ≡ some_below r (λ b. some_below c (λ a. p (b * c + a)))
unfolding some_below
some_rows zero c p = ap (λ (k : ℕ). some_below k p) (zero-mul c)
some_rows (suc r) c p =
    ap (λ (k : ℕ). some_below k p) (suc-mul r c) ∙ some_add (r * c) c p
    ∙ ap (λ (b : Bool). b || some_below c (λ a. p (r * c + a))) (some_rows r c p)

-- only outside from..to
module _ (c from to : ℕ) (p : ℕ → Bool) (l : from ≤ to) (h : to ≤ c) where
  abbrev out : ℕ → Bool
  out a = not (leb from a && ltb a to) && p a

  inside : (a : ℕ) {b : Bool} → (leb from a && ltb a to) ≡ b → out a ≡ (not b && p a)
  inside a e = ap (λ (b : Bool). not b && p a) e

  pub some_outside_lem : some_below c out ≡ (some_below from p || some_below (c - to) (λ a. p (to + a)))
  some_outside_lem =
      let m : c ≡ to + (c - to) = omega arith in
      let k : to ≡ from + (to - from) = omega arith in
      let before : some_below from out ≡ some_below from p = some_ext from (λ i q. inside i (and_no _ (lt-leb from i q))) in
      let within : some_below (to - from) (λ i. out (from + i)) ≡ false =
      none_below (to - from) (λ i. out (from + i)) (λ i q. inside (from + i)
      (and_yes (le-leb from (from + i) (omega arith)) ∙ lt-ltb (from + i) to (omega arith))) in
      let after : some_below (c - to) (λ i. out (to + i)) ≡ some_below (c - to) (λ i. p (to + i)) =
      some_ext (c - to) (λ i q. inside (to + i) (ap (λ (b : Bool). leb from (to + i) && b) (le-ltb (to + i) to (omega arith))
      ∙ and-false (leb from (to + i)))) in
      ap (λ (n : ℕ). some_below n out) m ∙ some_add to (c - to) out ∙
      ap₂ ◌||◌ (ap (λ (n : ℕ). some_below n out) k ∙ some_add from (to - from) out ∙ ap₂ ◌||◌ before within ∙ or-false (some_below from p))
      after
