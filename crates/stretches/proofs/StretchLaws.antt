-- Stretches: what lies of them in a range, where they end, and the one force on their points.
use mathlib.Core.Path.{◌≡◌, refl, sym, ap, ◌∙◌, subst}
use mathlib.Core.Bool.{Bool, false, cond, ◌&&◌}
use mathlib.Core.Logic.{◌⊎◌, inl, inr}
use Prim.Native.Nat.{max, min, ℕ, ◌+◌, ◌≤◌, ◌<◌}
use native.Mathlib.Decide.{dec_lt}
use native.Mathlib.Omega.{arith}
use borrow.Author.Tests.{lt-ltb, le-ltb, eq-eqb, ne_eqb}
use lib.Dec.{leb, ltb}
use lib.IntN.{ℤ, pos}
use Rattle.types.specs.declared.Hit.{Hit}
use Rattle.types.specs.Numbers.{hit_at}
use Rattle.scheme.specs.Step.{force_of}
use Rattle.stretches.specs.declared.Stretch.{Stretch}
use Rattle.stretches.specs.Stretches.{clamp, with_write, end_of, hit_in}
use Rattle.std.specs.Prelude.{Option, None, Some}

-- ---- the nearer end

pub clamp-first : (from to k a : ℕ) → a ≡ cond (ltb from k) k from → a < to → a ≡ clamp from to k
unfolding clamp
clamp-first from to k a e h = e ∙ sym (ap (λ (t : Bool). cond t (cond (ltb from k) k from) to)
    (ap (λ (a : ℕ). ltb a to) (sym e) ∙ lt-ltb a to h))

pub clamp_second : (from to k a : ℕ) → a ≡ cond (ltb from k) k from → to ≤ a → to ≡ clamp from to k
unfolding clamp
clamp_second from to k a e h = sym (ap (λ (t : Bool). cond t (cond (ltb from k) k from) to)
    (ap (λ (a : ℕ). ltb a to) (sym e) ∙ le-ltb a to h))

module _ (from to : ℕ) where
  -- the four places that k may have
  larger : (k : ℕ) → from ≤ k → cond (ltb from k) k from ≡ k
  larger k h = go (dec_lt from k)
    where
      go : Dec (from < k) → cond (ltb from k) k from ≡ k
      go (yes l) = ap (λ (t : Bool). cond t k from) (lt-ltb from k l)
      go (no l) = ap (λ (t : Bool). cond t k from) (le-ltb from k (omega (arith, l))) ∙ omega (arith, l)

  module _ (order : from ≤ to) where
    smaller : (a : ℕ) → a ≤ to → cond (ltb a to) a to ≡ a
    smaller a h = go (dec_lt a to)
      where
        go : Dec (a < to) → cond (ltb a to) a to ≡ a
        go (yes l) = ap (λ (t : Bool). cond t a to) (lt-ltb a to l)
        go (no l) = ap (λ (t : Bool). cond t a to) (le-ltb a to (omega (arith, l))) ∙ omega (arith, l)

    pub clamp-before : (k : ℕ) → k ≤ from → clamp from to k ≡ from
    unfolding clamp
    clamp-before k h = ap (λ (t : Bool). let a = cond t k from in cond (ltb a to) a to) (le-ltb from k h) ∙ smaller from order

    pub clamp_inside : (k : ℕ) → from ≤ k → k ≤ to → clamp from to k ≡ k
    unfolding clamp
    clamp_inside k h l = ap (λ (a : ℕ). cond (ltb a to) a to) (larger k h) ∙ smaller k l

    pub clamp-after : (k : ℕ) → to ≤ k → clamp from to k ≡ to
    unfolding clamp
    clamp-after k h =
        ap (λ (a : ℕ). cond (ltb a to) a to) (larger k (omega arith)) ∙ ap (λ (t : Bool). cond t k to) (le-ltb k to h)

    -- three cases
    pub clamped : (P : ℕ → Type 0) (k : ℕ) → (k ≤ from → P from) → (from < k → k < to → P k) → (to ≤ k → P to) → P (clamp from to k)
    clamped P k f g h = go (dec_lt from k) (dec_lt k to)
      where
        go : Dec (from < k) → Dec (k < to) → P (clamp from to k)
        go (no l) m = let e : k ≤ from = omega (arith, l) in subst P (sym (clamp-before k e)) (f e)
        go (yes l) (yes m) = subst P (sym (clamp_inside k (omega arith) (omega arith))) (g l m)
        go (yes l) (no m) = let e : to ≤ k = omega (arith, m) in subst P (sym (clamp-after k e)) (h e)

    pub clamp-low : (k : ℕ) → from ≤ clamp from to k
    clamp-low k = clamped (λ n. from ≤ n) k (λ h. omega arith) (λ h l. omega arith) (λ h. order)

    pub clamp_high : (k : ℕ) → clamp from to k ≤ to
    clamp_high k = clamped (λ n. n ≤ to) k (λ h. order) (λ h l. omega arith) (λ h. omega arith)

    pub clamp_rises : (j k : ℕ) → j ≤ k → clamp from to j ≤ clamp from to k
    clamp_rises j k m =
        clamped (λ n. n ≤ clamp from to k) j (λ h. clamp-low k)
        (λ h l. clamped (λ n. j ≤ n) k (λ o. absurd (omega arith)) (λ o p. m) (λ o. omega arith))
        (λ h. subst (λ (n : ℕ). to ≤ n) (sym (clamp-after k (omega arith))) (omega arith))

-- the same by the larger and the smaller of two
cond_max : (m n : ℕ) → cond (ltb m n) n m ≡ max n m
cond_max m n = go (dec_lt m n)
  where
    go : Dec (m < n) → cond (ltb m n) n m ≡ max n m
    go (yes h) = ap (λ (t : Bool). cond t n m) (lt-ltb m n h) ∙ omega arith
    go (no h) = ap (λ (t : Bool). cond t n m) (le-ltb m n (omega (arith, h))) ∙ omega (arith, h)

cond_min : (m n : ℕ) → cond (ltb m n) m n ≡ min m n
cond_min m n = go (dec_lt m n)
  where
    go : Dec (m < n) → cond (ltb m n) m n ≡ min m n
    go (yes h) = ap (λ (t : Bool). cond t m n) (lt-ltb m n h) ∙ omega arith
    go (no h) = ap (λ (t : Bool). cond t m n) (le-ltb m n (omega (arith, h))) ∙ omega (arith, h)

pub clamp_is : (from to k : ℕ) → clamp from to k ≡ min (max k from) to
unfolding clamp
clamp_is from to k = cond_min _ to ∙ ap (λ (n : ℕ). min n to) (cond_max from k)

-- ---- its own `write` put in

pub written_so : (s : Stretch) {w : Bool} → s.write ≡ w → with_write s w ≡ s
written_so s e = λ j. record { from = s.from; to = s.to; force = s.force; base = s.base; write = sym e j }

-- from the next point on the same, for a point after the first
pub clamp-next : (from to k : ℕ) → from < k → clamp from to k ≡ clamp (from + 1) to k
unfolding clamp
clamp-next from to k h =
    ap (λ (a : ℕ). cond (ltb a to) a to) (larger from to k (omega arith) ∙ sym (larger (from + 1) to k (omega arith)))

-- ---- "f is the hit's force in units at the hit point, else 0"

pub force_there : (p : ℕ) (f : ℤ) (k : ℕ) → k ≡ p → force_of (hit_at p f) k ≡ f
force_there p f k e = ap (λ (t : Bool). cond t f (pos 0)) (eq-eqb k p e)

pub force_away : (p : ℕ) (f : ℤ) (k : ℕ) → (k ≡ p → ⊥) → force_of (hit_at p f) k ≡ pos 0
force_away p f k d = ap (λ (t : Bool). cond t f (pos 0)) (ne_eqb k p d)

-- ---- whether a hit is in a stretch

pub hit_nowhere : (from to : ℕ) → hit_in None from to ≡ false
unfolding hit_in
hit_nowhere from to = refl

pub hit-at : (p : ℕ) (f : ℤ) (from to : ℕ) → hit_in (hit_at p f) from to ≡ (leb from p && ltb p to)
unfolding hit_in
hit-at p f from to = refl

pub hit_here : {h : Option Hit} (x : Hit) (from to : ℕ) → h ≡ Some x → hit_in h from to ≡ (leb from x.point && ltb x.point to)
unfolding hit_in
hit_here x from to e = ap (λ (h : Option Hit). hit_in h from to) e

-- ---- where a stretch ends

pub end_row : (a e : ℕ) → end_of None a e ≡ e
unfolding end_of
end_row a e = refl

pub end_away : (p : ℕ) (f : ℤ) (a e : ℕ) → p < a → end_of (hit_at p f) a e ≡ e
unfolding end_of
end_away p f a e h = ap (λ (t : Bool). cond t e (clamp (a + 1) e p)) (lt-ltb p a h)

pub end_before : (p : ℕ) (f : ℤ) (a e : ℕ) → a ≤ p → end_of (hit_at p f) a e ≡ clamp (a + 1) e p
unfolding end_of
end_before p f a e h = ap (λ (t : Bool). cond t e (clamp (a + 1) e p)) (le-ltb p a h)

-- by the hit itself; no place lies above the largest
pub end_after : {h : Option Hit} {x : Hit} (a e : ℕ) → h ≡ Some x → x.point < a → end_of h a e ≡ e
end_after {x = x} a e i h = ap (λ (h : Option Hit). end_of h a e) i ∙ end_away x.point x.force a e h

pub end_here : {h : Option Hit} {x : Hit} {b : ℕ} (a e : ℕ) → h ≡ Some x → a ≤ x.point → b ≡ min (a + 1) 18446744073709551615
    → e < 18446744073709551616 → end_of h a e ≡ clamp b e x.point
end_here {x = x} {b} a e i h s l =
    let p = x.point in
    let same : min (max p (a + 1)) e ≡ min (max p b) e = omega (arith, s) in
    ap (λ (h : Option Hit). end_of h a e) i ∙ end_before p x.force a e h ∙ clamp_is (a + 1) e p ∙ same ∙ sym (clamp_is b e p)

-- none where no point is left
pub end_none : (p : ℕ) (f : ℤ) (a e : ℕ) → a ≤ p → e ≤ a → e ≡ end_of (hit_at p f) a e
end_none p f a e h l = clamp_second (a + 1) e p _ refl (beyond (dec_lt (a + 1) p)) ∙ sym (end_before p f a e h)
  where
    beyond : Dec (a + 1 < p) → e ≤ cond (ltb (a + 1) p) p (a + 1)
    beyond (yes m) = subst (λ (n : ℕ). e ≤ n) (sym (ap (λ (t : Bool). cond t p (a + 1)) (lt-ltb (a + 1) p m))) (omega arith)
    beyond (no m) =
        subst (λ (n : ℕ). e ≤ n) (sym (ap (λ (t : Bool). cond t p (a + 1)) (le-ltb (a + 1) p (omega (arith, m))))) (omega arith)

-- some points, no more than there are, and one force on all of them
pub record Ends (h : Option Hit) (a e r : ℕ) : Type 0 where
  pub some : a < r
  pub upto : r ≤ e
  pub one_force : (k : ℕ) → a ≤ k → k < r → force_of h k ≡ force_of h a

module _ {a e : ℕ} (some : a < e) where
  -- one point
  pub ends_alone : (h : Option Hit) → Ends h a e (a + 1)
  ends_alone h = record {
    some = omega arith;
    upto = omega (arith, some);
    one_force = λ k m n. let same : k ≡ a = omega arith in ap (force_of h) same;
  }

  module _ (p : ℕ) (f : ℤ) where
    -- the hit is not in it
    away : (s : ℕ) → a < s → s ≤ e → (p < a) ⊎ (s ≤ p) → Ends (hit_at p f) a e s
    away s h l o = record {
      some = h;
      upto = l;
      one_force = λ k m n. force_away p f k (off o k m n) ∙ sym (force_away p f a (off o a (omega arith) h));
    }
      where
        off : (p < a) ⊎ (s ≤ p) → (k : ℕ) → a ≤ k → k < s → k ≡ p → ⊥
        off (inl h) k l m d = omega arith
        off (inr h) k l m d = omega arith

  -- a stretch ends so
  pub ends : (h : Option Hit) → Ends h a e (end_of h a e)
  ends None =
      subst (Ends None a e) (sym (end_row a e)) (record { some = some; upto = omega arith; one_force = λ k l m. refl })
  ends (Some h) = go h.point h.force (dec_lt h.point a)
    where
      go : (p : ℕ) (f : ℤ) → Dec (p < a) → Ends (hit_at p f) a e (end_of (hit_at p f) a e)
      go p f (yes h) = subst (Ends (hit_at p f) a e) (sym (end_away p f a e h)) (away p f e some (omega arith) (inl h))
      go p f (no h) =
          subst (Ends (hit_at p f) a e) (sym (end_before p f a e (omega (arith, h))))
          (clamped (a + 1) e (omega (arith, some)) (Ends (hit_at p f) a e) p
          (λ o. ends_alone (hit_at p f))
          (λ o l. away p f p (omega arith) (omega arith) (inr (omega arith)))
          (λ o. away p f e some (omega arith) (inr o)))
