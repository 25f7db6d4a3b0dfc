-- Where every count answered since the book took its levels is 0, the levels are the book's: proved once over the effects of calls.
use mathlib.Core.Path.{◌≡◌, refl, sym, ap, ap₂, ◌∙◌, subst, fun_ext}
use mathlib.Core.Bool.{Bool, true, false, cond, not, ◌&&◌, true≢false}
use mathlib.Core.List.{List, [], ◌∷◌}
use Prim.Native.Nat.{ℕ, zero, suc, ◌+◌, ◌*◌, ◌/◌, ◌%◌, ◌<◌}
use native.Mathlib.Nat as N
use native.Mathlib.Omega.{arith}
use borrow.Author.Tests.{eqb-true}
use lib.IntN.{ℤ, pos, ◌+ℤ◌, ◌-ℤ◌, ◌*ℤ◌, *ℤ-zero}
use Rattle.integers.proofs.Ring.{#◌, ◌⊕◌, ◌⊖◌, ◌⊗◌, ◌≈◌, ring}
use Rattle.forms.proofs.Level.{◌⊡◌}
use Rattle.types.specs.declared.Settings.{Settings}
use Rattle.types.specs.declared.Instrument.{Instrument}
use Rattle.types.specs.declared.Hit.{Hit}
use Rattle.types.specs.Numbers.{D}
use Rattle.scheme.specs.Lists.{point, times}
use Rattle.scheme.specs.Instruments.{points, moving}
use Rattle.scheme.specs.Step.{laplacian, biharmonic, numerator_of, numerator, round_away, force_of, divisor, next_at, next_level}
use Rattle.scheme.specs.Step.{is_multiple, inexact_at, inexact_in}
use Rattle.scheme.specs.Calls.{accepted, Levels, levels_after, inexact_after, capped}
use Rattle.scheme.specs.Book.{LastStep, no_step, step_of, Book, fresh, scale, unrounded_at, unrounded_step, unrounded_steps, goes_on}
use Rattle.scheme.specs.Book.{book_block, sum_block, sum_pluck, sum_call, Call, block_call, in_place_call, pluck_call, pluck_with_call}
use Rattle.scheme.specs.Book.{Outcome}
use Rattle.scheme.specs.Book.{steps_of, inexact_of, refusal_of, State, start, state_after, called, calls, EachCall}
use Rattle.scheme.specs.Program.{Made, after_all, EachMade}
use Rattle.scheme.specs.Exact.{book_scale, Unrounded, NoneInexact, ExactSince, ExactFromStart, ProgramExactSince}
use Rattle.scheme.specs.Exact.{ProgramExactFromStart, NeverInexact}
use Rattle.scheme.proofs.Laws.Bools.{cases, and_both}
use Rattle.scheme.proofs.Laws.Lists.{point_scaled, times_one, times-times, map-tabulate, count_none, count-zero}
use Rattle.scheme.proofs.Laws.Rounding.{remainder_rule}
use Rattle.scheme.proofs.Laws.Step.{numerator-scale}
use Rattle.scheme.proofs.Laws.Calls.{capped-zero}
use Rattle.scheme.proofs.Theorems.Effects.{stepped, Effect, nothing, steps, overwrites, after_call, list_keeps}
use Rattle.scheme.proofs.Theorems.Distance.{scale-suc, same_is, steps_last}
use Rattle.scheme.proofs.Theorems.Program.{of_program}
use Rattle.std.specs.Prelude.{Option, None}

-- ---- one step

-- an exact point has its numerator's whole number of divisors
exact_point : (i : Instrument) (h : Option Hit) (older newer : List ℤ) (k : ℕ) → moving i.grid k ≡ true → inexact_at i h older newer k ≡ false
    → let n : ℤ = numerator i (point newer) (point older) (force_of h) k in
    round_away n (divisor i.settings) *ℤ pos (divisor i.settings) ≡ n
unfolding inexact_at
exact_point i h older newer k m e =
    let n : ℤ = numerator i (point newer) (point older) (force_of h) k in
    let d : ℕ = divisor i.settings in
    let rule = remainder_rule n d (omega arith) in
    sym (rule.whole (rule.none (multiple (is_multiple n d) (subst (λ (t : Bool). (t && not (is_multiple n d)) ≡ false) m e))))
  where
    multiple : (t : Bool) → not t ≡ false → t ≡ true
    multiple true f = refl
    multiple false f = sym f

-- the book's levels are (D+s)ⁿ times these
pub record Held (i : Instrument) (older newer : List ℤ) (b : Book) : Type 0 where
  pub older_is : times (scale i.settings b.n) older ≡ b.older
  pub newer_is : times (scale i.settings b.n) newer ≡ b.newer

module _ (i : Instrument) (h : Option Hit) (older newer : List ℤ) (b : Book) (v : Held i older newer b) (none : inexact_in i h older newer ≡ 0)
  where
    abbrev c : Settings
    c = i.settings

    abbrev p : ℤ
    p = scale c b.n

    next_older : times (scale c (suc b.n)) newer ≡ (unrounded_step i h b).older
    unfolding unrounded_step
    next_older =
        ap (λ z. times z newer) (scale-suc c b.n) ∙ times-times (pos (divisor c)) p newer ∙ ap (times (pos (divisor c))) v.newer_is

    next_newer : times (scale c (suc b.n)) (next_level i h older newer) ≡ (unrounded_step i h b).newer
    unfolding next_level unrounded_step next_at unrounded_at inexact_in
    next_newer = map-tabulate (λ x. scale c (suc b.n) *ℤ x) (points i.grid) _ _ (λ k l. go k l (moving i.grid k) refl)
      where
        scaled : (xs ys : List ℤ) → times p xs ≡ ys → p ⊡ point xs ≡ point ys
        scaled xs ys e = fun_ext (λ k. sym (point_scaled p xs k) ∙ ap (λ (l : List ℤ). point l k) e)

        num : ℕ → ℤ
        num k = numerator i (point newer) (point older) (force_of h) k

        go : (k : ℕ) → k < points i.grid → (t : Bool) → moving i.grid k ≡ t
            → scale c (suc b.n) *ℤ cond t (round_away (num k) (divisor c)) (pos 0)
            ≡ cond t (numerator i (point b.newer) (point b.older) (p ⊡ force_of h) k) (pos 0)
        go k l true m =
            ap (λ z. z *ℤ round_away (num k) (divisor c)) (scale-suc c b.n) ∙
            ring 3 (λ p d r. (p ⊗ d) ⊗ r ≈ p ⊗ (r ⊗ d)) refl p (pos (divisor c)) (round_away (num k) (divisor c)) ∙
            ap (λ z. p *ℤ z) (exact_point i h older newer k m (count-zero (inexact_at i h older newer) (points i.grid) none k l)) ∙
            sym (numerator-scale i k p (point newer) (point older) (force_of h)) ∙
            ap₂ (λ u o. numerator i u o (p ⊡ force_of h) k) (scaled newer b.newer v.newer_is) (scaled older b.older v.older_is)
        go k l false m = *ℤ-zero (scale c (suc b.n))

    held_next : Held i newer (next_level i h older newer) (unrounded_step i h b)
    unfolding unrounded_step
    held_next = record { older_is = next_older; newer_is = next_newer }

-- ---- the steps of a block

held_steps : (i : Instrument) (h : Option Hit) (k : ℕ) (older newer : List ℤ) (b : Book) → Held i older newer b
    → inexact_after i h k older newer ≡ 0
    → Held i (levels_after i h k older newer).older (levels_after i h k older newer).newer (unrounded_steps i h k b)
unfolding levels_after inexact_after unrounded_steps
held_steps i h zero older newer b v e = v
held_steps i h (suc k) older newer b v e =
    held_steps i None k newer (next_level i h older newer) (unrounded_step i h b) (held_next i h older newer b v (omega (arith, e)))
    (omega (arith, e))

-- ---- every effect

-- a book that has just taken its levels has them
one : (c : Settings) → scale c 0 ≡ pos 1
one c = ap pos (N.pow-zero (divisor c))

fresh-scale : (l : LastStep) → book_scale l 0 ≡ pos 1
fresh-scale no_step = refl
fresh-scale (step_of i) = one i.settings

once : {z : ℤ} (xs : List ℤ) → z ≡ pos 1 → times z xs ≡ xs
once xs e = ap (λ z. times z xs) e ∙ times_one xs

-- where the book goes on, its scale is the instrument's
on_scale : (i : Instrument) (l : LastStep) (n : ℕ) → goes_on i l ≡ true → book_scale l n ≡ scale i.settings n
unfolding goes_on
on_scale i no_step n e = absurd (true≢false (sym e))
on_scale i (step_of l) n e = ap (λ (l : Instrument). scale l.settings n) (same_is i l e)

-- what a list of calls keeps
abbrev Exact : State → Type 0
Exact t = t.inexact ≡ 0 → Unrounded t

module _ (i : Instrument) (h : Option Hit) (t : State) (v : Exact t) where
  -- what the book steps on from
  abbrev from : Book
  from = cond (goes_on i t.book.last) t.book (fresh t.book.last t.older t.newer)

  held-from : (n : ℕ) → cond (goes_on i t.book.last) t.inexact 0 + n ≡ 0 → Held i t.older t.newer from
  held-from n = go (goes_on i t.book.last) refl
    where
      go : (x : Bool) → goes_on i t.book.last ≡ x → cond x t.inexact 0 + n ≡ 0
          → Held i t.older t.newer (cond x t.book (fresh t.book.last t.older t.newer))
      go true q e =
          let u = v (omega (arith, e)) in
          let s = sym (on_scale i t.book.last t.book.n q) in
          record {
            older_is = ap (λ z. times z t.older) s ∙ u.older_is;
            newer_is = ap (λ z. times z t.newer) s ∙ u.newer_is;
          }
      go false q e = record { older_is = once t.older (one i.settings); newer_is = once t.newer (one i.settings) }

  exact_steps : (k : ℕ) → Exact (stepped i h k t)
  unfolding book_block sum_block levels_after
  exact_steps zero e = v e
  exact_steps (suc k) e =
      let after : Levels = levels_after i h (suc k) t.older t.newer in
      let n : ℕ = inexact_after i h (suc k) t.older t.newer in
      let w = held_steps i h (suc k) t.older t.newer from (held-from (capped n) e) (capped-zero n (omega (arith, e))) in
      let s = ap (λ (l : LastStep). book_scale l (unrounded_steps i h (suc k) from).n) (steps_last i h k from) in
      record {
        older_is = ap (λ z. times z after.older) s ∙ w.older_is;
        newer_is = ap (λ z. times z after.newer) s ∙ w.newer_is;
      }

exact_fresh : (l : LastStep) (older newer : List ℤ) (n : ℕ)
    → Unrounded (record { older = older; newer = newer; book = fresh l older newer; inexact = n })
exact_fresh l older newer n = record { older_is = once older (fresh-scale l); newer_is = once newer (fresh-scale l) }

effect_exact : (t t' : State) → Effect t t' → Exact t → Exact t'
effect_exact t t' (nothing e) v = subst Exact (sym e) v
effect_exact t t' (steps i h k ok e) v = subst Exact (sym e) (exact_steps i h t v k)
effect_exact t t' (overwrites xs e) v = subst Exact (sym e) (λ z. exact_fresh t.book.last xs xs 0)

-- ---- the claims

pub exact_since : ExactSince
exact_since older newer ks =
    list_keeps Exact effect_exact ks (start older newer) (λ e. exact_fresh no_step older newer 0)

pub program_exact_since : ProgramExactSince
program_exact_since = of_program Exact exact_since

-- a count of 0 keeps a sum of 0
block-sum-kept : (i : Instrument) (k c : ℕ) (b : Book) (sum : ℕ) → c ≡ 0 → sum ≡ 0 → sum_block i k c b sum ≡ 0
unfolding sum_block
block-sum-kept i zero c b sum e z = z
block-sum-kept i (suc k) c b sum e z =
    cases (λ x. cond x sum 0 + c ≡ 0) (goes_on i b.last) (λ q. omega (arith, e, z)) (λ q. omega (arith, e))

pluck-sum-kept : (done : Bool) (sum : ℕ) → sum ≡ 0 → sum_pluck done sum ≡ 0
unfolding sum_pluck
pluck-sum-kept true sum z = refl
pluck-sum-kept false sum z = z

-- a call that answered 0 does
sum_kept : (k : Call) (o : Outcome) (b : Book) (sum : ℕ) → inexact_of o ≡ 0 → sum ≡ 0 → sum_call k o b sum ≡ 0
unfolding sum_call
sum_kept (block_call i work samples pick h) o b sum e z = block-sum-kept i (steps_of o) (inexact_of o) b sum e z
sum_kept (in_place_call i samples pick h) o b sum e z = block-sum-kept i (steps_of o) (inexact_of o) b sum e z
sum_kept (pluck_call g c w a) o b sum e z = pluck-sum-kept (accepted (refusal_of o)) sum z
sum_kept (pluck_with_call g c w a lent) o b sum e z = pluck-sum-kept (accepted (refusal_of o)) sum z

sums_stay : (ks : List Call) (t : State) → EachCall NoneInexact ks t → t.inexact ≡ 0 → (calls ks t).state.inexact ≡ 0
unfolding calls EachCall
sums_stay [] t each z = z
sums_stay (k ∷ ks) t each z =
    sums_stay ks (after_call k t) each.1 (sum_kept k (called k t).outcome t.book t.inexact each.0 z)

pub exact_from_start : ExactFromStart
exact_from_start older newer ks each = exact_since older newer ks (sums_stay ks (start older newer) each refl)

made_stay : (ms : List Made) (t : State) → EachMade NoneInexact ms t → t.inexact ≡ 0 → (after_all ms t).inexact ≡ 0
unfolding after_all EachMade
made_stay [] t each z = z
made_stay (m ∷ ms) t each z =
    made_stay ms (state_after m.call m.left t) each.1 (sum_kept m.call m.left.outcome t.book t.inexact each.0 z)

pub program_exact_from_start : ProgramExactFromStart
program_exact_from_start older newer ms kept each =
    program_exact_since older newer ms kept (made_stay ms (start older newer) each refl)

-- ---- R a whole number, without stiffness and loss: every numerator is some whole number of D

by_whole : (i : Instrument) (h : Option Hit) (older newer : List ℤ) (r : ℕ) → i.settings.q ≡ r * D → i.settings.m ≡ 0 → i.settings.s ≡ 0
    → inexact_in i h older newer ≡ 0
unfolding inexact_in inexact_at numerator
by_whole i h older newer r q m s =
    count_none (inexact_at i h older newer) (points i.grid)
    (λ k l. cases (λ b. (b && not (whole k)) ≡ false) (moving i.grid k) (λ t. ap not (multiple k)) (λ t. refl))
  where
    num : ℕ → ℤ
    num k = numerator i (point newer) (point older) (force_of h) k

    whole : ℕ → Bool
    whole k = is_multiple (num k) (divisor i.settings)

    divided : (u l b o f : ℤ) → numerator_of i.settings u l b o f
        ≡ (pos 2 *ℤ u +ℤ pos r *ℤ l -ℤ o +ℤ f) *ℤ pos (divisor i.settings)
    divided u l b o f =
        (λ x. numerator_of (record { q = q x; m = m x; s = s x }) u l b o f) ∙
        ring 6 (λ r u l b o f. # (2 * D) ⊗ u ⊕ (r ⊗ # D) ⊗ l ⊖ # 0 ⊗ b ⊖ (# D ⊖ # 0) ⊗ o ⊕ # D ⊗ f ≈ (# 2 ⊗ u ⊕ r ⊗ l ⊖ o ⊕ f) ⊗ # D) refl
        (pos r) u l b o f ∙ ap (λ (n : ℕ). (pos 2 *ℤ u +ℤ pos r *ℤ l -ℤ o +ℤ f) *ℤ pos (D + n)) (sym s)

    multiple : (k : ℕ) → whole k ≡ true
    multiple k = (remainder_rule (num k) (divisor i.settings) (omega arith)).multiple
        (pos 2 *ℤ point newer k +ℤ pos r *ℤ laplacian i.grid (point newer) k -ℤ point older k +ℤ force_of h k)
        (divided (point newer k) (laplacian i.grid (point newer) k) (biharmonic i.grid (point newer) k) (point older k) (force_of h k))

pub never_inexact : NeverInexact
never_inexact i h older newer e =
    let c : Settings = i.settings in
    let p = and_both _ _ e in
    let t = and_both _ _ p.1 in
    by_whole i h older newer (c.q / D) (omega (arith, N.div-add-mod' c.q D, eqb-true (c.q % D) 0 p.0))
    (eqb-true c.m 0 t.0) (eqb-true c.s 0 t.1)
