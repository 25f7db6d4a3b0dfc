-- A pass over points, whose values are put into out or into older itself: how it begins, grows and ends.
use Rattle.std.proofs.Common.{Option, Some}
use Rattle.std.specs.Bool.{then_some}
use mathlib.Core.Path.{◌≡◌, refl, sym, ap, ◌∙◌, subst}
use mathlib.Core.Bool.{Bool, true, false, cond, not, ◌&&◌, true≢false}
use mathlib.Core.List.{List}
use mathlib.Core.Logic.{inl, inr}
use Prim.Native.Nat.{ℕ, ◌+◌, ◌-◌, ◌≤◌, ◌<◌, zero-le}
use native.Mathlib.Decide.{dec_lt}
use native.Mathlib.Nat.{sub-zero}
use native.Mathlib.Omega.{arith}
use borrow.Author.Tests.{ltb-false}
use lib.IntN.{ℤ, pos, nat_abs}
use lib.ListN.{length}
use Rattle.types.specs.declared.Instrument.{Instrument}
use Rattle.types.specs.declared.Hit.{Hit}
use Rattle.types.specs.Numbers.{ceiling}
use Rattle.scheme.specs.Lists.{point}
use Rattle.scheme.specs.Instruments.{beyond, moving}
use Rattle.scheme.specs.Step.{laplacian, biharmonic, numerator_of, numerator, round_away, force_of, divisor, is_multiple, next_at}
use Rattle.scheme.specs.Step.{inexact_at}
use Rattle.plans.specs.declared.Plan.{Plan}
use Rattle.stretches.specs.declared.Stretch.{Stretch}
use Rattle.stretches.specs.Pieces.{piece, base_of}
use Rattle.steps.specs.Plan.{Ready}
use Rattle.steps.specs.Run.{next_of, Filled, Tested, Stepping, Placed, all_within, inexact_of}
use Rattle.steps.specs.Pass.{target, RowRoom, Passing}
use Rattle.steps.proofs.CountLaws.{counted_most, counted_not}
use Rattle.steps.proofs.FillLaws.{filled_not, ran_all, ran_none, ran_not, ran_passed, ran_append, ran_stops, ran_same}

-- what is made of a point goes by older at that point alone
next_older : (i : Instrument) (h : Option Hit) (older older' newer : List ℤ) (k : ℕ) → point older k ≡ point older' k
    → next_of i h older newer k ≡ next_of i h older' newer k
unfolding next_at inexact_at numerator
next_older i h older older' newer k e =
    λ j. record {
      value = cond (moving i.grid k) (round_away (num (e j)) (divisor i.settings)) (pos 0);
      inexact = moving i.grid k && not (is_multiple (num (e j)) (divisor i.settings));
    }
  where
    num : ℤ → ℤ
    num z = numerator_of i.settings (point newer k) (laplacian i.grid (point newer) k) (biharmonic i.grid (point newer) k) z
        (force_of h k)

-- from its end on older is as it was
ahead : (i : Instrument) (h : Option Hit) (write inPlace : Bool) {older₀ newer out₀ older out : List ℤ} {a b n : ℕ}
    → Passing i h write inPlace older₀ newer out₀ older out a b (Some n) → (k : ℕ) → b ≤ k → point older k ≡ point older₀ k
ahead i h write true p k l = (p.ran.filled refl).kept k (inr (inr (omega arith)))
ahead i h write false p k l = ap (λ (xs : List ℤ). point xs k) (p.kept refl)

module _ {i : Instrument} {h : Option Hit} {write inPlace : Bool} {newer : List ℤ} where
  -- no point yet
  pub passing_none : (older out : List ℤ) (a : ℕ) → Passing i h write inPlace older newer out older out a a (Some 0)
  passing_none older out a = record { ran = ran_none _ a; older_long = refl; out_long = refl; kept = λ e. refl }

  -- no more points are inexact than there are
  pub passing_most : {older₀ out₀ older out : List ℤ} {a b n : ℕ} → Passing i h write inPlace older₀ newer out₀ older out a b (Some n)
      → n ≤ b
  passing_most p = counted_most (p.ran.counted refl)

  module _ {older₀ out₀ older₁ out₁ older₂ out₂ : List ℤ} {a b c m : ℕ} {r : Option ℕ} (l : a ≤ b) (u : b ≤ c)
      (p : Passing i h write inPlace older₀ newer out₀ older₁ out₁ a b (Some m))
      (q : Passing i h write inPlace older₁ newer out₁ older₂ out₂ b c r) where
    -- the second by the levels that the first was given
    second : Stepping i h write 0 older₀ newer (target inPlace older₁ out₁) (target inPlace older₂ out₂) b c r
    second = ran_same u (λ k s t. next_older i h older₁ older₀ newer k (ahead i h write inPlace p k s)) q.ran

    -- one after the other
    pub passing_append : all_within r ≡ true → Passing i h write inPlace older₀ newer out₀ older₂ out₂ a c (Some (m + inexact_of r))
    passing_append e = record {
      ran = ran_append zero-le l u p.ran (ran_passed e second);
      older_long = q.older_long ∙ p.older_long;
      out_long = q.out_long ∙ p.out_long;
      kept = λ f. q.kept f ∙ p.kept f;
    }

    -- the second stopped
    pub passing_stops : {d : ℕ} → c ≤ d → all_within r ≡ false → Passing i h write inPlace older₀ newer out₀ older₂ out₂ a d r
    passing_stops o e = record {
      ran = ran_stops zero-le l u p.ran o second e;
      older_long = q.older_long ∙ p.older_long;
      out_long = q.out_long ∙ p.out_long;
      kept = λ f. q.kept f ∙ p.kept f;
    }

-- ---- a piece, worked out in out with its first place at base

-- room for points as far as a row's end
pub room_within : {inPlace : Bool} {to n : ℕ} {out₀ out : List ℤ} → RowRoom inPlace n out₀ → to ≤ n → length out ≡ length out₀
    → RowRoom inPlace to out
room_within r l e = record { for_piece = λ t. omega (arith, r.for_piece t, e); for_all = λ t. omega (arith, r.for_all t, l, e) }

-- it finds its places
pub piece_placed : (inPlace : Bool) {a b m : ℕ} {write : Bool} {n : ℕ} {out : List ℤ} → a ≤ b → (inPlace ≡ true → b ≤ a + piece) → b ≤ m
    → RowRoom inPlace m out → n ≡ length out
    → Placed (record { from = a; to = b; force = pos 0; base = base_of inPlace a; write = write }) n
piece_placed true o few h r s = record { order = o; above = omega arith; room = omega (arith, few refl, r.for_piece refl) }
piece_placed false o few h r s = record { order = o; above = omega arith; room = omega (arith, h, r.for_all refl) }

-- and put into older, if it is written in place
piece_passing : (i : Instrument) (h : Option Hit) (write inPlace : Bool) {newer older out older₁ out₁ : List ℤ} {a b base : ℕ}
    {r : Option ℕ}
    → (inPlace ≡ false → base ≡ 0) → Stepping i h write base older newer out out₁ a b r → all_within r ≡ true
    → Filled (λ k. point out₁ (k - base)) (inPlace && write) 0 older older₁ a b → ((inPlace && write) ≡ false → older₁ ≡ older)
    → Passing i h write inPlace older newer out older₁ out₁ a b r
piece_passing i h true true z q e f o = record {
  ran = record {
    long = f.long;
    filled = λ t. record {
      long = f.long;
      written = λ w k s l. f.written refl k s l ∙ (q.filled t).written refl k s l;
      kept = f.kept;
    };
    low = q.low;
    counted = q.counted;
    stopped = q.stopped;
  };
  older_long = f.long;
  out_long = q.long;
  kept = λ t. absurd (true≢false t);
}
piece_passing i h false true z q e f o = record {
  ran = record {
    long = f.long;
    filled = λ t. record { long = f.long; written = λ w. absurd (true≢false (sym w)); kept = λ j s. f.kept j (inl refl) };
    low = q.low;
    counted = q.counted;
    stopped = q.stopped;
  };
  older_long = f.long;
  out_long = q.long;
  kept = o;
}
piece_passing i h write false {newer} {older} {out} {older₁} {out₁} {a} {b} {r = r} z q e f o = record {
  ran = subst (λ (n : ℕ). Stepping i h write n older newer out out₁ a b r) (z refl) q;
  older_long = f.long;
  out_long = q.long;
  kept = o;
}

-- one of its values lies beyond the ceiling
piece_stops : (i : Instrument) (h : Option Hit) (write inPlace : Bool) {newer older out out₁ : List ℤ} {a b base : ℕ} {r : Option ℕ}
    → (inPlace ≡ false → base ≡ 0) → Stepping i h write base older newer out out₁ a b r → all_within r ≡ false
    → Passing i h write inPlace older newer out older out₁ a b r
piece_stops i h write true z q e =
    record { ran = ran_not refl (q.stopped e) e; older_long = refl; out_long = q.long; kept = λ t. refl }
piece_stops i h write false {newer} {older} {out} {out₁} {a} {b} {r = r} z q e = record {
  ran = subst (λ (n : ℕ). Stepping i h write n older newer out out₁ a b r) (z refl) q;
  older_long = refl;
  out_long = q.long;
  kept = λ t. refl;
}

-- the same of the points of a piece, x
aside : (inPlace : Bool) (a : ℕ) → inPlace ≡ false → base_of inPlace a ≡ 0
aside inPlace a f = ap (λ (t : Bool). base_of t a) f

module _ (i : Instrument) (h : Option Hit) (write inPlace : Bool) {newer older out out₁ : List ℤ} {x : Stretch} {a b : ℕ} {r : Option ℕ}
    (e : x ≡ record { from = a; to = b; force = pos 0; base = base_of inPlace a; write = write })
    (q : Stepping i h x.write x.base older newer out out₁ x.from x.to r)
  where
    pub stretch_stops : all_within r ≡ false → Passing i h write inPlace older newer out older out₁ a b r
    stretch_stops f = piece_stops i h write inPlace (aside inPlace a)
        (subst (λ (x : Stretch). Stepping i h x.write x.base older newer out out₁ x.from x.to r) e q) f

    pub stretch_passing : all_within r ≡ true → {older₁ : List ℤ}
        → Filled (λ k. point out₁ (k - x.base)) (inPlace && x.write) 0 older older₁ x.from x.to
        → ((inPlace && x.write) ≡ false → older₁ ≡ older) → Passing i h write inPlace older newer out older₁ out₁ a b r
    stretch_passing within {older₁} f o = piece_passing i h write inPlace (aside inPlace a)
        (subst (λ (x : Stretch). Stepping i h x.write x.base older newer out out₁ x.from x.to r) e q) within
        (subst (λ (x : Stretch). Filled (λ k. point out₁ (k - x.base)) (inPlace && x.write) 0 older older₁ x.from x.to) e f)
        (subst (λ (x : Stretch). (inPlace && x.write) ≡ false → older₁ ≡ older) e o)

-- ---- the levels after a pass are ready for another

older_low : (i : Instrument) (h : Option Hit) (write inPlace : Bool) {older₀ newer out₀ older out : List ℤ} {a b n : ℕ}
    → Passing i h write inPlace older₀ newer out₀ older out a b (Some n) → ((k : ℕ) → nat_abs (point older₀ k) ≤ ceiling)
    → (k : ℕ) → nat_abs (point older k) ≤ ceiling
older_low i h write false p low k = subst (λ (xs : List ℤ). nat_abs (point xs k) ≤ ceiling) (sym (p.kept refl)) (low k)
older_low i h false true p low k =
    subst (λ (z : ℤ). nat_abs z ≤ ceiling) (sym ((p.ran.filled refl).kept k (inl refl))) (low k)
older_low i h true true {older₀} {newer} {older = older} {a = a} {b = b} p low k = go (dec_lt k a) (dec_lt k b)
  where
    as_before : point older k ≡ point older₀ k → nat_abs (point older k) ≤ ceiling
    as_before e = subst (λ (z : ℤ). nat_abs z ≤ ceiling) (sym e) (low k)

    go : Dec (k < a) → Dec (k < b) → nat_abs (point older k) ≤ ceiling
    go (yes s) t = as_before ((p.ran.filled refl).kept k (inr (inl (omega arith))))
    go (no s) (no t) = as_before ((p.ran.filled refl).kept k (inr (inr (omega (arith, t)))))
    go (no s) (yes t) =
        let put = ap (point older) (sym (sub-zero k)) ∙ (p.ran.filled refl).written refl k (omega (arith, s)) t in
        ltb-false ceiling _ (ap beyond put ∙ p.ran.low refl k (omega (arith, s)) t)

pub passing_ready : {p : Plan} {f : ℤ} {h : Option Hit} {write inPlace : Bool} {older₀ newer out₀ older out : List ℤ} {a b n : ℕ}
    → Ready p f older₀ newer → Passing p.instrument h write inPlace older₀ newer out₀ older out a b (Some n)
    → Ready p f older newer
passing_ready {p} {h = h} {write} {inPlace} r q = record {
  planned = r.planned;
  older_long = q.older_long ∙ r.older_long;
  newer_long = r.newer_long;
  older_low = older_low p.instrument h write inPlace q r.older_low;
  newer_low = r.newer_low;
  newer_still = r.newer_still;
  f_low = r.f_low;
}

-- ---- a row that was tested alone

pub tested_passing : (i : Instrument) (h : Option Hit) (inPlace : Bool) {write : Bool} {older newer out : List ℤ} {a b : ℕ} (r : Bool)
    {x : Option ℕ} → a ≤ b → write ≡ false → Tested (next_of i h older newer) a b r → x ≡ then_some r 0
    → Passing i h write inPlace older newer out older out a b x
tested_passing i h inPlace {write} {older} {newer} {out} {a} {b} r l e t is =
    subst (Passing i h write inPlace older newer out older out a b) (sym is) (record {
      ran = ran r t;
      older_long = refl;
      out_long = refl;
      kept = λ u. refl;
    })
  where
    ran : (r : Bool) → Tested (next_of i h older newer) a b r
        → Stepping i h write 0 older newer (target inPlace older out) (target inPlace older out) a b (then_some r 0)
    ran true t =
        ran_all (filled_not _ write 0 (target inPlace older out) a b e) (t.low refl)
        (counted_not l (λ k s m. ap (λ (w : Bool). w && (next_of i h older newer k).inexact) e))
    ran false t = ran_not refl (t.stopped refl) refl
