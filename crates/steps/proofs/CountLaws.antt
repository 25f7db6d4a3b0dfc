-- How many of the points of a run pass a test.
use mathlib.Core.Path.{◌≡◌, refl, sym, ap, ap₂, ◌∙◌}
use mathlib.Core.Bool.{Bool, false, cond}
use Prim.Native.Nat.{ℕ, zero, suc, ◌+◌, ◌-◌, ◌≤◌, ◌<◌}
use native.Mathlib.Omega.{arith}
use Rattle.scheme.specs.Lists.{count_below}
use Rattle.scheme.proofs.Laws.Lists.{count_next, count_most, count_none}
use Rattle.steps.specs.Run.{Counted}

-- those below a, and those from a on
count_split : (p : ℕ → Bool) (a n : ℕ) → count_below (a + n) p ≡ count_below a p + count_below n (λ k. p (a + k))
unfolding count_below
count_split p a zero =
    let e : a + 0 ≡ a = omega arith in
    let f : count_below a p ≡ count_below a p + 0 = omega arith in
    ap (λ (n : ℕ). count_below n p) e ∙ f
count_split p a (suc n) =
    let e : a + suc n ≡ suc (a + n) = omega arith in
    ap (λ (n : ℕ). count_below n p) e ∙ omega (arith, count_split p a n)

count_same : (p q : ℕ → Bool) (n : ℕ) → ((k : ℕ) → k < n → p k ≡ q k) → count_below n p ≡ count_below n q
unfolding count_below
count_same p q zero h = refl
count_same p q (suc n) h =
    ap₂ (λ (m : ℕ) (t : Bool). m + cond t 1 0) (count_same p q n (λ k l. h k (omega arith))) (h n (omega arith))

-- those of a..b
between : (p : ℕ → Bool) (a b : ℕ) → a ≤ b → count_below b p ≡ count_below a p + count_below (b - a) (λ k. p (a + k))
between p a b h = let e : b ≡ a + (b - a) = omega arith in ap (λ (n : ℕ). count_below n p) e ∙ count_split p a (b - a)

module _ {p : ℕ → Bool} where
  pub counted_none : (a : ℕ) → Counted p a a 0
  counted_none a = record { sum = omega arith }

  -- one point
  pub counted_one : (a n : ℕ) → n ≡ cond (p a) 1 0 → Counted p a (a + 1) n
  counted_one a n e = record { sum = ap (λ (m : ℕ). count_below a p + m) e ∙ sym (count_next p a) }

  pub counted_append : {a b c m n : ℕ} → Counted p a b m → Counted p b c n → Counted p a c (m + n)
  counted_append q r = record { sum = omega (arith, q.sum, r.sum) }

  -- points that do not pass
  pub counted_not : {a b : ℕ} → a ≤ b → ((k : ℕ) → a ≤ k → k < b → p k ≡ false) → Counted p a b 0
  counted_not {a} {b} h f = record {
    sum = sym (between p a b h ∙ ap (λ (m : ℕ). count_below a p + m) (count_none (λ k. p (a + k)) (b - a)
        (λ k l. f (a + k) (omega arith) (omega arith))));
  }

  -- no more than there are
  pub counted_most : {a b n : ℕ} → Counted p a b n → n ≤ b
  counted_most {b = b} q = omega (arith, q.sum, count_most p b)

  -- from the first point
  pub counted_all : {b n : ℕ} → Counted p 0 b n → n ≡ count_below b p
  unfolding count_below
  counted_all q = omega (arith, q.sum)

-- the same test in other words
pub counted_same : {p q : ℕ → Bool} {a b n : ℕ} → a ≤ b → ((k : ℕ) → a ≤ k → k < b → p k ≡ q k) → Counted p a b n → Counted q a b n
counted_same {p} {q} {a} {b} {n} h f c = record {
  sum = omega (
    arith,
    c.sum,
    between p a b h,
    between q a b h,
    count_same (λ k. p (a + k)) (λ k. q (a + k)) (b - a) (λ k l. f (a + k) (omega arith) (omega arith)),
  );
}
