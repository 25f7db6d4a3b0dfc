-- Demand 3, distance: after any list of calls newer lies within the bound of the book's newer.
use mathlib.Core.Path.{◌≡◌, refl, sym, ap, ap₂, ◌∙◌, subst, subst₂, fun_ext}
use mathlib.Core.Bool.{Bool, true, false, cond}
use mathlib.Core.List.{List}
use Prim.Native.Nat.{ℕ, zero, suc, ◌+◌, ◌*◌, ◌≤◌, ◌<◌}
use native.Mathlib.Nat as N
use native.Mathlib.Omega.{arith}
use borrow.Author.Tests.{eqb-true}
use lib.IntN.{ℤ, pos, negsuc, nat_abs, ◌+ℤ◌, ◌-ℤ◌, ◌*ℤ◌}
use lib.ListN.{length}
use Rattle.integers.specs.Sum.{sum}
use Rattle.integers.proofs.Ring.{#◌, con, ◌⊕◌, ◌⊖◌, ◌⊗◌, ◌≈◌, ring}
use Rattle.integers.proofs.Order.{◌⩽◌, 0≤pos, 0<pos, pos≤, square_nonneg, nonneg_mul, *ℤ_cancel, +ℤ_mono, ≡-≤ℤ, ≤ℤ-≡}
use Rattle.integers.proofs.Lin.{◌⊴◌, ◌*≤◌, ◌*⊴◌, ◌⇒◌, ⊩◌, lin}
use Rattle.integers.proofs.Size.{square-size}
use Rattle.integers.proofs.Sum.{sum_mono, sum-scale}
use Rattle.forms.proofs.Level.{Level, ◌⊞◌, ◌⊡◌, zeros, Still}
use Rattle.forms.proofs.Distance as Forms
use Rattle.types.specs.declared.Settings.{Settings}
use Rattle.types.specs.declared.Instrument.{Instrument}
use Rattle.types.specs.declared.Hit.{Hit}
use Rattle.types.specs.Numbers.{D}
use Rattle.scheme.specs.Lists.{point, square}
use Rattle.scheme.specs.Instruments.{points, moving, free_end}
use Rattle.scheme.specs.Step.{numerator, round_away, force_of, divisor, next_at, next_level}
use Rattle.scheme.specs.Energy.{weight, squares}
use Rattle.scheme.specs.Book.{LastStep, step_of, Book, fresh, scale, unrounded_at, unrounded_step, unrounded_steps, same_instrument}
use Rattle.scheme.specs.Book.{goes_on, book_block, sum_block, State, Call, start, calls}
use Rattle.scheme.specs.Claims.{WithinBound, Near, DistanceBound}
use Rattle.scheme.proofs.Laws.Bools.{and_both}
use Rattle.scheme.proofs.Laws.Rounding.{round_near}
use Rattle.scheme.proofs.Laws.Step.{numerator-add, numerator-scale, length-next, next-point}
use Rattle.scheme.specs.Passing.{InstrumentPasses}
use Rattle.scheme.specs.Calls.{levels_after}
use Rattle.scheme.proofs.Theorems.Forms.{weighed, held, squares_are}
use Rattle.scheme.proofs.Theorems.Instance.{free_step, scheme}
use Rattle.scheme.proofs.Theorems.Energy.{unrounded_newer, unrounded_older}
use Rattle.scheme.proofs.Theorems.Effects.{stepped, Effect, nothing, steps, overwrites, list_keeps}
use Rattle.std.specs.Prelude.{Option, None}

-- ---- what a step rounds off

module _ (i : Instrument) (h : Option Hit) (older newer : List ℤ) where
  abbrev num : ℕ → ℤ
  num k = numerator i (point newer) (point older) (force_of h) k

  abbrev d : ℕ
  d = divisor i.settings

  unfoldable off : Level
  off k = cond (moving i.grid k) (pos d *ℤ round_away (num k) d -ℤ num k) (pos 0)

  off-still : Still (moving i.grid) off
  unfolding off
  off-still = record { still = λ k e. simp e }

  -- at most half of D+s at each point
  off_half : (k : ℕ) → pos 4 *ℤ (off k *ℤ off k) ⩽ pos d *ℤ pos d
  unfolding off
  off_half k = go (moving i.grid k)
    where
      small : (z : ℤ) (n : ℕ) → 2 * nat_abs z ≤ n → pos 4 *ℤ (z *ℤ z) ⩽ pos n *ℤ pos n
      small z n p = ≡-≤ℤ (ap (λ x. pos 4 *ℤ x) (square-size z) ∙ ring 1 (λ a. # 4 ⊗ (a ⊗ a) ≈ (# 2 ⊗ a) ⊗ (# 2 ⊗ a)) refl (pos (nat_abs z)))
          (pos≤ (N.mul-le-mul p p))

      go : (t : Bool) → let z : ℤ = cond t (pos d *ℤ round_away (num k) d -ℤ num k) (pos 0) in pos 4 *ℤ (z *ℤ z) ⩽ pos d *ℤ pos d
      go true = small (pos d *ℤ round_away (num k) d -ℤ num k) d (round_near (num k) d (omega arith))
      go false = square_nonneg (pos d)

  -- no weight is above 2
  two_each : (n : ℕ) → sum n (λ k. pos (weight i.grid k)) ⩽ pos (2 * n)
  unfolding sum weight
  two_each zero = 0≤pos 0
  two_each (suc n) = ≤ℤ-≡ (+ℤ_mono (two_each n) (go (free_end i.grid n))) (let e : 2 * n + 2 ≡ 2 * suc n = omega arith in ap pos e)
    where
      go : (b : Bool) → pos (cond {A = ℕ} b 1 2) ⩽ pos 2
      go true = pos≤ (omega arith)
      go false = pos≤ (omega arith)

  off_small : pos 4 *ℤ (pos D *ℤ weighed i.grid off off) ⩽ pos D *ℤ pos (2 * points i.grid) *ℤ (pos d *ℤ pos d)
  unfolding weighed
  off_small =
      lin 5 (λ D N W g e. D *⊴ # 4 ⊗ g ⊴ e ⊗ W ⇒ (D ⊗ e) *⊴ W ⊴ N ⇒ ⊩ # 4 ⊗ (D ⊗ g) ⊴ D ⊗ N ⊗ e) refl
      (pos D) (pos (2 * points i.grid)) (sum n w) (sum n (λ k. w k *ℤ (off k *ℤ off k))) (pos d *ℤ pos d)
      (0≤pos D)
      (≡-≤ℤ (sym (sum-scale n (pos 4) (λ k. w k *ℤ (off k *ℤ off k)))) (≤ℤ-≡ (sum_mono n each) (sum-scale n (pos d *ℤ pos d) w)))
      (nonneg_mul (0≤pos D) (square_nonneg (pos d))) (two_each n)
    where
      n : ℕ
      n = points i.grid

      w : ℕ → ℤ
      w k = pos (weight i.grid k)

      each : (k : ℕ) → k < n → pos 4 *ℤ (w k *ℤ (off k *ℤ off k)) ⩽ (pos d *ℤ pos d) *ℤ w k
      each k l = lin 3 (λ w r e. w *⊴ # 4 ⊗ r ⊴ e ⇒ ⊩ # 4 ⊗ (w ⊗ r) ⊴ e ⊗ w) refl (w k) (off k *ℤ off k) (pos d *ℤ pos d)
          (0≤pos (weight i.grid k)) (off_half k)

-- ---- the levels less the book's

-- (D+s)ⁿ·xs − ys
abbrev pub gap : Settings → ℕ → List ℤ → List ℤ → Level
gap c n xs ys = (scale c n ⊡ point xs) ⊞ (negsuc 0 ⊡ point ys)

pub scale-suc : (c : Settings) (n : ℕ) → scale c (suc n) ≡ scale c n *ℤ pos (divisor c)
scale-suc c n = ap pos (N.pow-suc (divisor c) n)

gap_same : (c : Settings) (xs : List ℤ) → gap c 0 xs xs ≡ zeros
gap_same c xs = fun_ext (λ k. ap (λ s. s *ℤ point xs k +ℤ negsuc 0 *ℤ point xs k) (ap pos (N.pow-zero (divisor c)))
    ∙ ring 1 (λ x. # 1 ⊗ x ⊕ con (negsuc 0) ⊗ x ≈ # 0) refl (point xs k))

module _ (i : Instrument) (h : Option Hit) (older newer : List ℤ) (b : Book) where
  abbrev c : Settings
  c = i.settings

  abbrev p : ℤ
  p = scale c b.n

  -- hits cancel, and what is rounded off is added
  newer_gap : gap c (suc b.n) (next_level i h older newer) (unrounded_step i h b).newer
      ≡ free_step i (gap c b.n newer b.newer) (gap c b.n older b.older) ⊞ (p ⊡ off i h older newer)
  unfolding next_at unrounded_at free_step off
  newer_gap = fun_ext (λ k. ap₂ (λ x y. scale c (suc b.n) *ℤ x +ℤ negsuc 0 *ℤ y) (next-point i h older newer k) (unrounded_newer i h b k)
      ∙ go k (moving i.grid k))
    where
      u : Level
      u = point newer

      o : Level
      o = point older

      -- the book's numerator
      B : ℕ → ℤ
      B k = numerator i (point b.newer) (point b.older) (p ⊡ force_of h) k

      linear : (k : ℕ) → numerator i (gap c b.n newer b.newer) (gap c b.n older b.older) zeros k ≡ p *ℤ num i h older newer k
          +ℤ negsuc 0 *ℤ B k
      linear k =
          ap (λ (f : Level). numerator i (gap c b.n newer b.newer) (gap c b.n older b.older) f k)
          (fun_ext (λ j. ring 2 (λ p f. # 0 ≈ p ⊗ f ⊕ con (negsuc 0) ⊗ (p ⊗ f)) refl p (force_of h j))) ∙
          numerator-add i k (p ⊡ u) (p ⊡ o) (p ⊡ force_of h) (negsuc 0 ⊡ point b.newer) (negsuc 0 ⊡ point b.older)
          (negsuc 0 ⊡ (p ⊡ force_of h)) ∙
          ap₂ ◌+ℤ◌ (numerator-scale i k p u o (force_of h))
          (numerator-scale i k (negsuc 0) (point b.newer) (point b.older) (p ⊡ force_of h))

      go : (k : ℕ) (t : Bool) → let r : ℤ = round_away (num i h older newer k) (divisor c) in
          scale c (suc b.n) *ℤ cond t r (pos 0) +ℤ negsuc 0 *ℤ cond t (B k) (pos 0)
          ≡ cond t (numerator i (gap c b.n newer b.newer) (gap c b.n older b.older) zeros k) (pos 0) +ℤ p
          *ℤ cond t (pos (divisor c) *ℤ r -ℤ num i h older newer k) (pos 0)
      go k true =
          let r : ℤ = round_away (num i h older newer k) (divisor c) in
          ap (λ z. z *ℤ r +ℤ negsuc 0 *ℤ B k) (scale-suc c b.n) ∙
          ring 5 (λ p d r n B. (p ⊗ d) ⊗ r ⊕ con (negsuc 0) ⊗ B ≈ (p ⊗ n ⊕ con (negsuc 0) ⊗ B) ⊕ p ⊗ (d ⊗ r ⊖ n)) refl p (pos (divisor c)) r
          (num i h older newer k) (B k) ∙
          ap (λ z. z +ℤ p *ℤ (pos (divisor c) *ℤ r -ℤ num i h older newer k)) (sym (linear k))
      go k false = ring 2 (λ p q. q ⊗ # 0 ⊕ con (negsuc 0) ⊗ # 0 ≈ # 0 ⊕ p ⊗ # 0) refl p (scale c (suc b.n))

  older_gap : gap c (suc b.n) newer (unrounded_step i h b).older ≡ pos (divisor c) ⊡ gap c b.n newer b.newer
  older_gap = fun_ext (λ k. ap₂ (λ x y. x *ℤ point newer k +ℤ negsuc 0 *ℤ y) (scale-suc c b.n) (unrounded_older i h b k) ∙
      ring 4 (λ p d x y. (p ⊗ d) ⊗ x ⊕ con (negsuc 0) ⊗ (d ⊗ y) ≈ d ⊗ (p ⊗ x ⊕ con (negsuc 0) ⊗ y)) refl p (pos (divisor c)) (point newer k)
      (point b.newer k))

-- ---- what the steps keep of the errors

-- D·2N, which bounds what a step rounds off
abbrev pub K : Instrument → ℤ
K i = pos D *ℤ pos (2 * points i.grid)

-- a property of the errors of an instrument that passes: after n steps, X of newer and Y of older, held times p
abbrev pub OfErrors : Type 1
OfErrors = (i : Instrument) → InstrumentPasses i → (n : ℕ) (p : ℤ) (X Y : Level) → Type 0

-- it holds before the first step, and a step keeps it, whatever r it rounds off
pub record StepsKeep (P : OfErrors) : Type 0 where
  pub first : (i : Instrument) (ok : InstrumentPasses i) (p : ℤ) → P i ok 0 p zeros zeros
  pub next : (i : Instrument) (ok : InstrumentPasses i) (n : ℕ) (p : ℤ) (X Y r : Level) → P i ok n p X Y → Still (moving i.grid) r
      → pos 4 *ℤ held i r r ⩽ K i *ℤ (pos (divisor i.settings) *ℤ pos (divisor i.settings))
      → P i ok (suc n) (p *ℤ pos (divisor i.settings)) (free_step i X Y ⊞ (p ⊡ r)) (pos (divisor i.settings) ⊡ X)

-- ---- the last step

-- the test tells the instrument whole: a field that it left out could not be proved equal here
pub same_is : (i l : Instrument) → same_instrument i l ≡ true → l ≡ i
same_is i l e =
    let s = and_both _ _ e in
    let m = and_both _ _ s.0 in
    let q = and_both _ _ m.0 in
    let r = and_both _ _ q.0 in
    let k = and_both _ _ r.0 in
    λ x. record {
      grid = record {
        kind = sym (eqb-true i.grid.kind l.grid.kind k.0) x;
        columns = sym (eqb-true i.grid.columns l.grid.columns k.1) x;
        rows = sym (eqb-true i.grid.rows l.grid.rows r.1) x;
      };
      settings = record {
        q = sym (eqb-true i.settings.q l.settings.q q.1) x;
        m = sym (eqb-true i.settings.m l.settings.m m.1) x;
        s = sym (eqb-true i.settings.s l.settings.s s.1) x;
      };
    }

pub steps_last : (i : Instrument) (h : Option Hit) (k : ℕ) (b : Book) → (unrounded_steps i h (suc k) b).last ≡ step_of i
unfolding unrounded_steps unrounded_step
steps_last i h zero b = refl
steps_last i h (suc k) b = steps_last i None k (unrounded_step i h b)

pub steps-count : (i : Instrument) (h : Option Hit) (k : ℕ) (b : Book) → (m : ℕ) × ((unrounded_steps i h (suc k) b).n ≡ suc m)
unfolding unrounded_steps unrounded_step
steps-count i h zero b = (b.n, refl)
steps-count i h (suc k) b = steps-count i None k (unrounded_step i h b)

after_long : (i : Instrument) (h : Option Hit) (k : ℕ) (older newer : List ℤ) → length (levels_after i h (suc k) older newer).newer
    ≡ points i.grid
unfolding levels_after
after_long i h zero older newer = length-next i h older newer
after_long i h (suc k) older newer = after_long i None k newer (next_level i h older newer)

module _ (P : OfErrors) (kept : StepsKeep P) where
  -- ---- the invariant of the steps of one instrument

  pub record Beside (i : Instrument) (older newer : List ℤ) (b : Book) : Type 0 where
    pub passes : InstrumentPasses i
    pub near : P i passes b.n (scale i.settings b.n) (gap i.settings b.n newer b.newer)
        (gap i.settings b.n older b.older)

  beside-start : (i : Instrument) → InstrumentPasses i → (last : LastStep) (older newer : List ℤ)
      → Beside i older newer (fresh last older newer)
  beside-start i ok last older newer = record {
    passes = ok;
    near = subst₂ (P i ok 0 (scale i.settings 0)) (sym (gap_same i.settings newer)) (sym (gap_same i.settings older))
        (kept.first i ok (scale i.settings 0));
  }

  beside-step : (i : Instrument) (h : Option Hit) (older newer : List ℤ) (b : Book) → Beside i older newer b
      → Beside i newer (next_level i h older newer) (unrounded_step i h b)
  unfolding unrounded_step
  beside-step i h older newer b now = record {
    passes = now.passes;
    near = subst (λ (s : ℤ). P i now.passes (suc b.n) s (gap c' (suc b.n) (next_level i h older newer) (unrounded_step i h b).newer)
        (gap c' (suc b.n) newer (unrounded_step i h b).older))
        (sym (scale-suc c' b.n))
        (subst₂ (P i now.passes (suc b.n) (scale c' b.n *ℤ pos (divisor c'))) (sym (newer_gap i h older newer b))
        (sym (older_gap i h older newer b))
        (kept.next i now.passes b.n (scale c' b.n) _ _ _ now.near (off-still i h older newer) (off_small i h older newer)));
  }
    where
      c' : Settings
      c' = i.settings

  beside-steps : (i : Instrument) (h : Option Hit) (k : ℕ) (older newer : List ℤ) (b : Book) → Beside i older newer b
      → Beside i (levels_after i h k older newer).older (levels_after i h k older newer).newer (unrounded_steps i h k b)
  unfolding levels_after unrounded_steps
  beside-steps i h zero older newer b v = v
  beside-steps i h (suc k) older newer b v = beside-steps i None k newer (next_level i h older newer) (unrounded_step i h b)
      (beside-step i h older newer b v)

  -- ---- the invariant of a list of calls

  -- steps have been done in the instrument of the book's last step
  pub record Stepping (t : State) : Type 0 where
    pub instrument : Instrument
    pub last : t.book.last ≡ step_of instrument
    pub long : length t.newer ≡ points instrument.grid
    pub beside : Beside instrument t.older t.newer t.book

  -- no step since the book took the levels, or some
  pub data Invariant (t : State) : Type 0 where
    agrees : t.book ≡ fresh t.book.last t.older t.newer → Invariant t
    stepping : (m : ℕ) → t.book.n ≡ suc m → Stepping t → Invariant t

  -- what the book steps on from
  steps-from : (i : Instrument) → InstrumentPasses i → (t : State) → Invariant t
      → Beside i t.older t.newer (cond (goes_on i t.book.last) t.book (fresh t.book.last t.older t.newer))
  unfolding goes_on
  steps-from i ok t v = go v (goes_on i t.book.last) refl
    where
      go : Invariant t → (x : Bool) → goes_on i t.book.last ≡ x
          → Beside i t.older t.newer (cond x t.book (fresh t.book.last t.older t.newer))
      go (agrees e) true q = subst (Beside i t.older t.newer) (sym e) (beside-start i ok t.book.last t.older t.newer)
      go (stepping m n s) true q = subst (λ (l : Instrument). Beside l t.older t.newer t.book)
          (same_is i s.instrument (subst (λ l. goes_on i l ≡ true) s.last q)) s.beside
      go v false q = beside-start i ok t.book.last t.older t.newer

  steps-keep : (i : Instrument) (h : Option Hit) (k : ℕ) → InstrumentPasses i → (t : State) → Invariant t → Invariant (stepped i h k t)
  unfolding book_block sum_block levels_after
  steps-keep i h zero ok t v = v
  steps-keep i h (suc k) ok t v =
      let b : Book = cond (goes_on i t.book.last) t.book (fresh t.book.last t.older t.newer) in
      stepping (steps-count i h k b).0 (steps-count i h k b).1
      (record {
        instrument = i;
        last = steps_last i h k b;
        long = after_long i h k t.older t.newer;
        beside = beside-steps i h (suc k) t.older t.newer b (steps-from i ok t v);
      })

  effect_keeps : (t t' : State) → Effect t t' → Invariant t → Invariant t'
  effect_keeps t t' (nothing e) v = subst Invariant (sym e) v
  effect_keeps t t' (steps i h k ok e) v = subst Invariant (sym e) (steps-keep i h k ok t v)
  effect_keeps t t' (overwrites xs e) v = subst Invariant (sym e) (agrees refl)

  -- every list of calls
  pub list_invariant : (older newer : List ℤ) (ks : List Call) → Invariant (calls ks (start older newer)).state
  list_invariant older newer ks = list_keeps Invariant effect_keeps ks (start older newer) (agrees refl)

-- ---- the claim

-- `ErrorsNear` of the forms is such a property
abbrev pub NearErrors : OfErrors
NearErrors i ok n p X Y = Forms.ErrorsNear (scheme i ok) (K i) n p X Y

pub near_kept : StepsKeep NearErrors
near_kept = record {
  first = λ i ok p. Forms.near_start (scheme i ok) (K i) p;
  next = λ i ok n p X Y r now r-still r_small. Forms.near_step (scheme i ok) (K i) now r-still r_small;
}

-- from 16·D·G ≤ D·2N·(D+s)²ⁿ·(n(n+1))²: D cancels
within : (i : Instrument) (n : ℕ) (older newer : List ℤ) (b : Book) → b.n ≡ n → length newer ≡ points i.grid
    → Beside NearErrors near_kept i older newer b → WithinBound i n newer b.newer
within i n older newer b e l v = record {
  all_points = l;
  near = subst (λ (n : ℕ). pos 16 *ℤ squares i.grid (λ k. scale i.settings n *ℤ point newer k) (point b.newer) ⩽ pos
      (2 * points i.grid) *ℤ (square (pos (n * suc n)) *ℤ square (scale i.settings n))) e
      (≡-≤ℤ (ap (λ z. pos 16 *ℤ z) (squares_are i.grid (scale i.settings b.n ⊡ point newer) (point b.newer)))
      (*ℤ_cancel (0<pos 65535)
      (lin 4 (λ N g m p. 1 *≤ # 16 ⊗ (# D ⊗ g) ⊴ (# D ⊗ N) ⊗ (p ⊗ p) ⊗ (m ⊗ m) ⇒ ⊩ # D ⊗ (# 16 ⊗ g) ⊴ # D ⊗ (N ⊗ ((m ⊗ m) ⊗ (p ⊗ p)))) refl
      (pos (2 * points i.grid)) (weighed i.grid X X) (pos (b.n * suc b.n)) (scale i.settings b.n) v.near.by_level)));
}
  where
    X : Level
    X = gap i.settings b.n newer b.newer

invariant_near : (t : State) → Invariant NearErrors near_kept t → Near t.newer t.book.n t.book.newer t.book.last
invariant_near t (agrees e) = subst (λ (b : Book). Near t.newer b.n b.newer b.last) (sym e) refl
invariant_near t (stepping m e s) =
    subst₂ (λ (n : ℕ) (l : LastStep). Near t.newer n t.book.newer l) (sym e) (sym s.last)
    (within s.instrument (suc m) t.older t.newer t.book e s.long s.beside)

pub distance-bound : DistanceBound
distance-bound older newer ks = invariant_near (calls ks (start older newer)).state (list_invariant NearErrors near_kept older newer ks)
