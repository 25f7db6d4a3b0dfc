-- A list that is filled, and runs that fill it: how they begin, grow and end.
use Rattle.std.proofs.Common.{Option, Some, None}
use mathlib.Core.Path.{◌≡◌, refl, sym, ap, ◌∙◌, subst}
use mathlib.Core.Bool.{Bool, true, false, cond, not, ◌&&◌, true≢false}
use mathlib.Core.List.{List}
use mathlib.Core.Logic.{◌⊎◌, inl, inr}
use Prim.Native.Nat.{ℕ, ◌+◌, ◌-◌, ◌≤◌, ◌<◌}
use native.Mathlib.Decide.{dec_lt}
use native.Mathlib.Omega.{arith}
use borrow.Author.Tests.{not-true, not-false}
use lib.IntN.{ℤ, pos}
use lib.ListN.{length, set, length-set}
use lib.Seq.{get_or-set_same, get_or-set_other}
use Rattle.scheme.specs.Lists.{point}
use Rattle.scheme.specs.Instruments.{beyond}
use Rattle.stretches.specs.declared.Stretch.{Stretch}
use Rattle.steps.specs.Run.{Next, Filled, NoneBeyond, OneBeyond, Tested, Counted, Ran, Placed, all_within, inexact_of}
use Rattle.steps.proofs.CountLaws.{counted_none, counted_one, counted_append, counted_most, counted_same}

-- k between from and from + 1 is from
one_place : (from k : ℕ) → from ≤ k → k < from + 1 → k ≡ from
one_place from k a b = omega arith

-- below b, or not
by : {P : Type 0} {b : ℕ} (k : ℕ) → (k < b → P) → (b ≤ k → P) → P
by {P} {b} k f g = go (dec_lt k b)
  where
    go : Dec (k < b) → P
    go (yes s) = f s
    go (no s) = g (omega (arith, s))

-- a place of another point, or any place where nothing is written
abbrev Apart : (write : Bool) (base j from to : ℕ) → Type 0
Apart write base j from to = (write ≡ false) ⊎ ((j + base < from) ⊎ (to ≤ j + base))

-- ---- a list that is filled

module _ (v : ℕ → ℤ) (write : Bool) (base : ℕ) where
  pub filled_none : (out : List ℤ) (a : ℕ) → Filled v write base out out a a
  filled_none out a = record { long = refl; written = λ w k p q. absurd (omega arith); kept = λ j o. refl }

  -- nothing is written
  pub filled_not : (out : List ℤ) (a b : ℕ) → write ≡ false → Filled v write base out out a b
  filled_not out a b e = record { long = refl; written = λ w. absurd (true≢false (sym w ∙ e)); kept = λ j o. refl }

  -- one value
  pub filled_one : (out : List ℤ) (at : ℕ) (x : ℤ) → write ≡ true → base ≤ at → at < base + length out → x ≡ v at
      → Filled v write base out (set out (at - base) x) at (at + 1)
  filled_one out at x w low high e = record {
    long = length-set out (at - base) x;
    written = λ t k p q. subst (λ (k : ℕ). point (set out (at - base) x) (k - base) ≡ v k) (sym (one_place at k p q))
        (get_or-set_same out (at - base) x (pos 0) (omega arith) ∙ e);
    kept = λ j o. get_or-set_other out (at - base) j x (pos 0) (other j o);
  }
    where
      other : (j : ℕ) → Apart write base j at (at + 1) → j ≡ at - base → ⊥
      other j (inl f) s = true≢false (sym w ∙ f)
      other j (inr (inl h)) s = omega arith
      other j (inr (inr h)) s = omega arith

  module _ {out₀ out₁ out₂ : List ℤ} {a b c : ℕ} where
    pub filled_append : base ≤ a → a ≤ b → b ≤ c → Filled v write base out₀ out₁ a b → Filled v write base out₁ out₂ b c
        → Filled v write base out₀ out₂ a c
    filled_append above l m p q = record {
      long = q.long ∙ p.long;
      written = λ w k s h. by k (λ t. q.kept (k - base) (inr (inl (omega arith))) ∙ p.written w k s t) (λ t. q.written w k t h);
      kept = λ j o. q.kept j (second j o) ∙ p.kept j (first j o);
    }
      where
        first : (j : ℕ) → Apart write base j a c → Apart write base j a b
        first j (inl f) = inl f
        first j (inr (inl h)) = inr (inl h)
        first j (inr (inr h)) = inr (inr (omega arith))

        second : (j : ℕ) → Apart write base j a c → Apart write base j b c
        second j (inl f) = inl f
        second j (inr (inl h)) = inr (inl (omega arith))
        second j (inr (inr h)) = inr (inr h)

  -- points that have their values already
  pub filled_there : (out : List ℤ) (a b : ℕ) → ((k : ℕ) → a ≤ k → k < b → point out (k - base) ≡ v k) → Filled v write base out out a b
  filled_there out a b there = record { long = refl; written = λ w. there; kept = λ j o. refl }

-- ---- runs

low_there : (v : ℕ → ℤ) (at : ℕ) → beyond (v at) ≡ false → NoneBeyond v at (at + 1)
low_there v at b k p q = subst (λ (k : ℕ). beyond (v k) ≡ false) (sym (one_place at k p q)) b

-- the values, and what is counted of them
abbrev value_of : (ℕ → Next) → ℕ → ℤ
value_of v k = (v k).value

abbrev test_of : Bool → (ℕ → Next) → ℕ → Bool
test_of write v k = write && (v k).inexact

module _ {v : ℕ → Next} {write : Bool} {base : ℕ} where
  -- all of the points
  pub ran_all : {out₀ out : List ℤ} {a b n : ℕ} → Filled (value_of v) write base out₀ out a b → NoneBeyond (value_of v) a b
      → Counted (test_of write v) a b n
      → Ran v write base out₀ out a b (Some n)
  ran_all f low c = record { long = f.long; filled = λ t. f; low = λ t. low; counted = λ t. c; stopped = λ t. absurd (true≢false t) }

  -- none of them
  pub ran_none : (out : List ℤ) (a : ℕ) → Ran v write base out out a a (Some 0)
  ran_none out a = ran_all (filled_none (value_of v) write base out a) (λ k p q. absurd (omega arith)) (counted_none a)

  -- one lies beyond the ceiling
  pub ran_not : {out₀ out : List ℤ} {a b : ℕ} {r : Option ℕ} → length out ≡ length out₀ → OneBeyond (value_of v) a b → all_within r ≡ false
      → Ran v write base out₀ out a b r
  ran_not l o e = record {
    long = l;
    filled = λ t. absurd (true≢false (sym t ∙ e));
    low = λ t. absurd (true≢false (sym t ∙ e));
    counted = λ t. absurd (true≢false (sym t ∙ e));
    stopped = λ t. o;
  }

  -- one point: beyond the ceiling, written, or tested alone
  module _ (out : List ℤ) (at : ℕ) where
    pub point-beyond : beyond (v at).value ≡ true → Ran v write base out out at (at + 1) None
    point-beyond b = ran_not refl (record { at = at; first = omega arith; last = omega arith; beyond_there = b }) refl

    pub point_written : (x : ℤ) (n : ℕ) → write ≡ true → base ≤ at → at < base + length out → x ≡ (v at).value → n ≡ cond (v at).inexact 1 0
        → beyond (v at).value ≡ false → Ran v write base out (set out (at - base) x) at (at + 1) (Some n)
    point_written x n w low high e c b =
        ran_all (filled_one (value_of v) write base out at x w low high e) (low_there (value_of v) at b)
        (counted_one at n (c ∙ ap (λ (t : Bool). cond (t && (v at).inexact) 1 0) (sym w)))

    pub point_tested : write ≡ false → beyond (v at).value ≡ false → Ran v write base out out at (at + 1) (Some 0)
    point_tested w b = ran_all (filled_not (value_of v) write base out at (at + 1) w) (low_there (value_of v) at b)
        (counted_one at 0 (ap (λ (t : Bool). cond (t && (v at).inexact) 1 0) (sym w)))

  -- what was answered, by the test that was made of it
  pub ran_passed : {out₀ out : List ℤ} {a b : ℕ} {r : Option ℕ} → all_within r ≡ true → Ran v write base out₀ out a b r
      → Ran v write base out₀ out a b (Some (inexact_of r))
  ran_passed {r = Some n} e q = q
  ran_passed {r = None} e q = absurd (true≢false (sym e))

  module _ {out₀ out₁ out₂ : List ℤ} {a b c m : ℕ} (above : base ≤ a) (l : a ≤ b) (h : b ≤ c)
      (p : Ran v write base out₀ out₁ a b (Some m))
    where
      -- one run after the other
      pub ran_append : {n : ℕ} → Ran v write base out₁ out₂ b c (Some n) → Ran v write base out₀ out₂ a c (Some (m + n))
      ran_append q = record {
        long = q.long ∙ p.long;
        filled = λ t. filled_append (value_of v) write base above l h (p.filled refl) (q.filled refl);
        low = λ t k s h. by k (λ u. p.low refl k s u) (λ u. q.low refl k u h);
        counted = λ t. counted_append (p.counted refl) (q.counted refl);
        stopped = λ t. absurd (true≢false t);
      }

      -- the other one stopped
      pub ran_stops : {d : ℕ} {r : Option ℕ} → c ≤ d → Ran v write base out₁ out₂ b c r → all_within r ≡ false
          → Ran v write base out₀ out₂ a d r
      ran_stops m q e =
          let o = q.stopped e in
          ran_not (q.long ∙ p.long)
          (record { at = o.at; first = omega (arith, o.first); last = omega (arith, o.last); beyond_there = o.beyond_there }) e

-- the same run, by other words for what is made of its points
pub ran_same : {v w : ℕ → Next} {write : Bool} {base : ℕ} {out₀ out : List ℤ} {a b : ℕ} {r : Option ℕ} → a ≤ b
    → ((k : ℕ) → a ≤ k → k < b → v k ≡ w k)
    → Ran v write base out₀ out a b r → Ran w write base out₀ out a b r
ran_same {write = write} l same p = record {
  long = p.long;
  filled = λ t. let f = p.filled t in record {
    long = f.long;
    written = λ u k s h. f.written u k s h ∙ ap (λ (x : Next). x.value) (same k s h);
    kept = f.kept;
  };
  low = λ t k s h. subst (λ (x : Next). beyond x.value ≡ false) (same k s h) (p.low t k s h);
  counted = λ t. counted_same l (λ k s h. ap (λ (x : Next). write && x.inexact) (same k s h)) (p.counted t);
  stopped = λ t. let o = p.stopped t in record {
    at = o.at;
    first = o.first;
    last = o.last;
    beyond_there = subst (λ (x : Next). beyond x.value ≡ true) (same o.at o.first o.last) o.beyond_there;
  };
}

-- a stretch finds its places in as many others
pub placed_after : {s : Stretch} {m n : ℕ} → Placed s m → n ≡ m → Placed s n
placed_after {s} p e = subst (Placed s) (sym e) p

-- ---- a loop over a run: the points from..at are done, n of them inexact

pub record Running (v : ℕ → Next) (write : Bool) (base : ℕ) (out₀ : List ℤ) (from to : ℕ) (out : List ℤ) (at n : ℕ) : Type 0 where
  pub ran : Ran v write base out₀ out from at (Some n)
  pub above : base ≤ from
  pub order : from ≤ at
  pub upto : at ≤ to

module _ {v : ℕ → Next} {write : Bool} {base : ℕ} where
  module _ {out₀ out out' : List ℤ} {from to at next n : ℕ} {r : Option ℕ} (g : Running v write base out₀ from to out at n) (h : at ≤ next)
      (q : Ran v write base out out' at next r) where
    -- some points more
    module _ (e : all_within r ≡ true) where
      more : Ran v write base out₀ out' from next (Some (n + inexact_of r))
      more = ran_append g.above g.order h g.ran (ran_passed e q)

      pub running_on : next ≤ to → Running v write base out₀ from to out' next (n + inexact_of r)
      running_on l = record { ran = more; above = g.above; order = omega (arith, g.order); upto = l }

      -- no more of them are inexact than there are
      pub running_most : n + inexact_of r ≤ next
      running_most = counted_most (more.counted refl)

    -- one of them lies beyond the ceiling
    pub running_stops : next ≤ to → all_within r ≡ false → Ran v write base out₀ out' from to r
    running_stops l e = ran_stops g.above g.order h g.ran l q e

  -- at its end
  pub running_done : {out₀ out : List ℤ} {from to at n : ℕ} → Running v write base out₀ from to out at n → to ≤ at
      → Ran v write base out₀ out from to (Some n)
  running_done {out₀} {out} {from} {to} {n = n} g h =
      subst (λ (m : ℕ). Ran v write base out₀ out from m (Some n)) (omega (arith, g.upto)) g.ran

  -- the same run, by other words for its end
  pub ran_ends : {out₀ out : List ℤ} {a b b' : ℕ} {r : Option ℕ} → b ≡ b' → Ran v write base out₀ out a b r
      → Ran v write base out₀ out a b' r
  ran_ends {out₀} {out} {a} {r = r} e q = subst (λ (n : ℕ). Ran v write base out₀ out a n r) e q

-- ---- a run that tests

module _ {v : ℕ → Next} where
  -- a point, by the test that was made of it
  pub tested_point : {a b : ℕ} (r : Bool) → a + 1 ≡ b → r ≡ not (beyond (v a).value) → Tested v a b r
  tested_point {a} {b} r e t = record {
    low = λ u. subst (NoneBeyond (value_of v) a) e (low_there (value_of v) a (not-true _ (sym t ∙ u)));
    stopped = λ u. record { at = a; first = omega arith; last = omega arith; beyond_there = not-false _ (sym t ∙ u) };
  }

  -- one run after the other
  pub tested_append : {a b c : ℕ} {r r' : Bool} → a ≤ b → Tested v a b r → r ≡ true → Tested v b c r' → Tested v a c r'
  tested_append {b = b} l p e q = record {
    low = λ u k s h. by {b = b} k (λ t. p.low e k s t) (λ t. q.low u k t h);
    stopped = λ u. let o = q.stopped u in
        record { at = o.at; first = omega (arith, o.first); last = o.last; beyond_there = o.beyond_there };
  }

  -- a run that stopped
  pub tested_stops : {a b c : ℕ} {r : Bool} → b ≤ c → Tested v a b r → r ≡ false → Tested v a c false
  tested_stops l p e =
      let o = p.stopped e in
      record {
        low = λ t. absurd (true≢false (sym t));
        stopped = λ t. record { at = o.at; first = o.first; last = omega (arith, o.last); beyond_there = o.beyond_there };
      }
