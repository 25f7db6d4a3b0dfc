-- What the definitions make of negated levels, hits and heights: numerator, rounding, sample and cut are odd, every test is even.
use mathlib.Core.Path.{◌≡◌, refl, sym, ap, ◌∙◌, fun_ext}
use mathlib.Core.Bool.{Bool, true, false, not, ◌&&◌, ◌||◌, cond}
use mathlib.Core.List.{List, [], ◌∷◌, ◌++◌}
use Prim.Native.Nat.{ℕ, zero, suc, ◌-◌, ◌*◌, ◌/◌, ◌%◌}
use native.Mathlib.Nat.{zero-div}
use native.Mathlib.Omega.{arith}
use lib.Dec.{leb, ltb, eqb}
use lib.IntN.{ℤ, pos, negsuc, neg_ℤ, nat_abs, ◌*ℤ◌, neg_ℤ-neg_ℤ}
use lib.ListN.{length, length-map, get_or, get_or-map}
use lib.Signed.{quot_z}
use Rattle.integers.proofs.Laws.{neg_mulℤ}
use Rattle.integers.proofs.Ring.{con, ⊝◌, ◌⊗◌, ◌≈◌, ring}
use Rattle.integers.proofs.Size.{size-neg}
use Rattle.forms.proofs.Level.{Level, ◌⊡◌}
use Rattle.types.specs.declared.Grid.{Grid}
use Rattle.types.specs.declared.Instrument.{Instrument}
use Rattle.types.specs.declared.Hit.{Hit}
use Rattle.types.specs.declared.Refusal.{Refusal}
use Rattle.types.specs.declared.Refusal.TheVariants.{NotMoving, TooStrong}
use Rattle.types.specs.Numbers.{ceiling, hit_at}
use Rattle.pluck_table.specs.Table.{table}
use Rattle.scheme.specs.Lists.{point, some_below, count_below}
use Rattle.scheme.specs.Instruments.{points, fixed, moving}
use Rattle.scheme.specs.Step.{numerator, round_away, force_of, divisor, next_at, next_level, inexact_at, inexact_in, some_beyond, sample_of}
use Rattle.scheme.specs.Pluck.{distance_from, pluck_value, pluck_at, pluck_level}
use Rattle.scheme.specs.Refusals.{last_plucked, wrong_length, fixed_not_zero, Check, ◌⇒◌, lowest, grid_checks, instrument_checks}
use Rattle.scheme.specs.Refusals.{length_checks, hit_checks, pick_checks, width_checks, table_checks, state_checks, pluck_checks}
use Rattle.scheme.specs.Refusals.{block_refusal, pluck_refusal, pluck_with_refusal}
use Rattle.scheme.specs.Calls.{accepted, AfterSteps, one_more, play, AfterBlock, block_left, with_work_zero, block_refused, block}
use Rattle.scheme.specs.Calls.{AfterPluck, pluck_left, overwritten, pluck_refused, pluck_by, pluck, pluck_with}
use Rattle.scheme.specs.Mirror.{negated, mirror_hit, mirror_samples}
use Rattle.scheme.proofs.Laws.Lists.{map-tabulate}
use Rattle.scheme.proofs.Laws.Rounding.{round_odd, sample_rule}
use Rattle.scheme.proofs.Laws.Step.{numerator-scale}
use Rattle.scheme.proofs.Laws.Refusals.{accepted_is}
use Rattle.scheme.proofs.Laws.Calls.{play-ends, play_goes, block-done, block_refused_lem, by_done, by_refused}
use Rattle.std.specs.Prelude.{Option, None, Result, Some}

-- ---- negated levels and forces

pub minus_one : (z : ℤ) → negsuc 0 *ℤ z ≡ neg_ℤ z
minus_one z = ring 1 (λ z. con (negsuc 0) ⊗ z ≈ ⊝ z) refl z

point-negated : (xs : List ℤ) (k : ℕ) → point (negated xs) k ≡ neg_ℤ (point xs k)
point-negated xs k = get_or-map neg_ℤ xs k (pos 0)

pub points-negated : (xs : List ℤ) → point (negated xs) ≡ negsuc 0 ⊡ point xs
points-negated xs = fun_ext (λ k. point-negated xs k ∙ sym (minus_one (point xs k)))

size-negated : (xs : List ℤ) (k : ℕ) → nat_abs (point (negated xs) k) ≡ nat_abs (point xs k)
size-negated xs k = ap nat_abs (point-negated xs k) ∙ size-neg (point xs k)

pub force_negated : (h : Option Hit) → force_of (mirror_hit h) ≡ negsuc 0 ⊡ force_of h
force_negated None = fun_ext (λ k. refl)
force_negated (Some h) = fun_ext (λ k. go (eqb k h.point))
  where
    go : (t : Bool) → cond t (neg_ℤ h.force) (pos 0) ≡ negsuc 0 *ℤ cond t h.force (pos 0)
    go true = sym (minus_one h.force)
    go false = refl

-- negated where a point moves, and 0 elsewhere
pub cond_odd : (t : Bool) (x : ℤ) {y : ℤ} → y ≡ neg_ℤ x → cond t y (pos 0) ≡ neg_ℤ (cond t x (pos 0))
cond_odd true x e = e
cond_odd false x e = refl

-- ---- a step: the numerator is odd, rounding is odd

pub numerator_odd : (i : Instrument) (u p f : Level) (k : ℕ) → numerator i (negsuc 0 ⊡ u) (negsuc 0 ⊡ p) (negsuc 0 ⊡ f) k
    ≡ neg_ℤ (numerator i u p f k)
numerator_odd i u p f k = numerator-scale i k (negsuc 0) u p f ∙ minus_one (numerator i u p f k)

module _ (i : Instrument) (h : Option Hit) (older newer : List ℤ) where
  abbrev num : ℕ → ℤ
  num k = numerator i (point newer) (point older) (force_of h) k

  num_odd : (k : ℕ) → numerator i (point (negated newer)) (point (negated older)) (force_of (mirror_hit h)) k ≡ neg_ℤ (num k)
  num_odd k = (λ x. numerator i (points-negated newer x) (points-negated older x) (force_negated h x) k) ∙
      numerator_odd i (point newer) (point older) (force_of h) k

  pub next_mirrored : next_level i (mirror_hit h) (negated older) (negated newer) ≡ negated (next_level i h older newer)
  unfolding next_level next_at
  next_mirrored =
      let d : ℕ = divisor i.settings in
      sym (map-tabulate neg_ℤ (points i.grid) _ _ (λ k l. sym (cond_odd (moving i.grid k) (round_away (num k) d)
      (ap (λ n. round_away n d) (num_odd k) ∙ round_odd (num k) d (omega arith)))))

  pub inexact_mirrored : inexact_in i (mirror_hit h) (negated older) (negated newer) ≡ inexact_in i h older newer
  unfolding inexact_in inexact_at
  inexact_mirrored = ap (λ (p : ℕ → Bool). count_below (points i.grid) p) (fun_ext (λ k.
      ap (λ (n : ℕ). moving i.grid k && not (eqb (n % divisor i.settings) 0)) (ap nat_abs (num_odd k) ∙ size-neg (num k))))

-- ---- every test is even

pub beyond_even : (xs : List ℤ) → some_beyond (negated xs) ≡ some_beyond xs
unfolding some_beyond
beyond_even xs = λ x. some_below (length-map xs neg_ℤ x) (λ k. ltb ceiling (size-negated xs k x))

fixed_even : (g : Grid) (xs : List ℤ) → fixed_not_zero g (negated xs) ≡ fixed_not_zero g xs
unfolding fixed_not_zero
fixed_even g xs = λ x. some_below (length-map xs neg_ℤ x) (λ k. fixed g k && ltb 0 (size-negated xs k x))

hit_even : (g : Grid) (h : Option Hit) → hit_checks g (mirror_hit h) ≡ hit_checks g h
hit_even g None = refl
hit_even g (Some h) = ap (λ (n : ℕ). not (moving g h.point) ⇒ NotMoving ∷ ltb ceiling n ⇒ TooStrong ∷ []) (size-neg h.force)

pub block-refusal_even : (i : Instrument) (older newer : List ℤ) (wrong : Bool) (pick : ℕ) (h : Option Hit)
    → block_refusal i (negated older) (negated newer) wrong pick (mirror_hit h) ≡ block_refusal i older newer wrong pick h
unfolding block_refusal
block-refusal_even i older newer wrong pick h =
    let g = i.grid in
    λ x. lowest (
    (instrument_checks i ++ (
    length_checks (wrong_length g (length-map older neg_ℤ x) || wrong_length g (length-map newer neg_ℤ x) || wrong) ++ (
    hit_even g h x ++ pick_checks g pick))) ++
    state_checks (beyond_even older x || beyond_even newer x) (fixed_even g older x || fixed_even g newer x))

pluck_checks_even : (g : Grid) (older newer : List ℤ) (c w : ℕ) (a : ℤ)
    → pluck_checks g (wrong_length g (length (negated older)) || wrong_length g (length (negated newer))) c w (neg_ℤ a)
    ≡ pluck_checks g (wrong_length g (length older) || wrong_length g (length newer)) c w a
pluck_checks_even g older newer c w a = λ x.
    grid_checks last_plucked g ++ (length_checks (wrong_length g (length-map older neg_ℤ x) || wrong_length g (length-map newer neg_ℤ x))
    ++ (
    hit_even g (hit_at c a) x ++ width_checks g w))

pub pluck-refusal_even : (g : Grid) (older newer : List ℤ) (c w : ℕ) (a : ℤ)
    → pluck_refusal g (length (negated older)) (length (negated newer)) c w (neg_ℤ a) ≡ pluck_refusal g (length older) (length newer) c w a
unfolding pluck_refusal
pluck-refusal_even g older newer c w a = ap lowest (pluck_checks_even g older newer c w a)

pub with_refusal_even : (g : Grid) (older newer : List ℤ) (c w : ℕ) (a : ℤ) (lent : List ℕ)
    → pluck_with_refusal g (length (negated older)) (length (negated newer)) c w (neg_ℤ a) lent
    ≡ pluck_with_refusal g (length older) (length newer) c w a lent
unfolding pluck_with_refusal
with_refusal_even g older newer c w a lent =
    ap (λ (cs : List Check). lowest (cs ++ table_checks lent)) (pluck_checks_even g older newer c w a)

-- ---- the steps of a block

abbrev pub mirror_steps : AfterSteps → AfterSteps
mirror_steps p = record {
  answer = p.answer;
  older = negated p.older;
  newer = negated p.newer;
  samples = mirror_samples p.answer.steps p.samples;
}

pub play_mirrored : (i : Instrument) (pick : ℕ) (h : Option Hit) (older newer places : List ℤ)
    → play i pick (mirror_hit h) (negated older) (negated newer) places ≡ mirror_steps (play i pick h older newer places)
unfolding play
play_mirrored i pick h older newer [] = refl
play_mirrored i pick h older newer (x ∷ xs) = go (some_beyond next) refl
    (ap (λ (l : List ℤ). play i pick None (negated newer) l xs) following ∙ play_mirrored i pick None newer next xs)
  where
    next : List ℤ
    next = next_level i h older newer

    following : next_level i (mirror_hit h) (negated older) (negated newer) ≡ negated next
    following = next_mirrored i h older newer

    high : some_beyond (next_level i (mirror_hit h) (negated older) (negated newer)) ≡ some_beyond next
    high = ap some_beyond following ∙ beyond_even next

    read : sample_of (point (next_level i (mirror_hit h) (negated older) (negated newer)) pick) ≡ neg_ℤ (sample_of (point next pick))
    read = ap (λ (l : List ℤ). sample_of (point l pick)) following ∙ ap sample_of (point-negated next pick) ∙
        sample_rule.odd (point next pick)

    rest : AfterSteps
    rest = play i pick None newer next xs

    go : (t : Bool) → some_beyond next ≡ t
        → play i pick None (negated newer) (next_level i (mirror_hit h) (negated older) (negated newer)) xs ≡ mirror_steps rest
        → play i pick (mirror_hit h) (negated older) (negated newer) (x ∷ xs) ≡ mirror_steps (play i pick h older newer (x ∷ xs))
    go true e on = play-ends i pick (mirror_hit h) (negated older) (negated newer) x xs (high ∙ e) ∙
        sym (ap (λ (p : AfterSteps). mirror_steps p) (play-ends i pick h older newer x xs e))
    go false e on = play_goes i pick (mirror_hit h) (negated older) (negated newer) x xs (high ∙ e) ∙
        (λ z. one_more (read z) (inexact_mirrored i h older newer z) (on z)) ∙
        sym (ap (λ (p : AfterSteps). mirror_steps p) (play_goes i pick h older newer x xs e))

-- ---- a block

abbrev pub mirror_block : AfterBlock → AfterBlock
mirror_block a = block_left a.answer (negated a.older) (negated a.newer) a.work (mirror_samples a.answer.steps a.samples)

pub block_mirrored : (i : Instrument) (older newer work samples : List ℤ) (pick : ℕ) (h : Option Hit)
    → block i (negated older) (negated newer) work samples pick (mirror_hit h) ≡ mirror_block (block i older newer work samples pick h)
block_mirrored i older newer work samples pick h = go (accepted refusal) refl
  where
    refusal : Result Unit Refusal
    refusal = block_refusal i older newer (wrong_length i.grid (length work)) pick h

    even : block_refusal i (negated older) (negated newer) (wrong_length i.grid (length work)) pick (mirror_hit h) ≡ refusal
    even = block-refusal_even i older newer (wrong_length i.grid (length work)) pick h

    go : (t : Bool) → accepted refusal ≡ t
        → block i (negated older) (negated newer) work samples pick (mirror_hit h) ≡ mirror_block (block i older newer work samples pick h)
    go true e =
        let z = accepted_is refusal e in
        block-done i (negated older) (negated newer) work samples pick (mirror_hit h) (even ∙ z) ∙
        ap (λ (p : AfterSteps). with_work_zero (points i.grid) p) (play_mirrored i pick h older newer samples) ∙
        sym (ap (λ (a : AfterBlock). mirror_block a) (block-done i older newer work samples pick h z))
    go false e =
        block_refused_lem i (negated older) (negated newer) work samples pick (mirror_hit h) (ap (λ (r : Result Unit Refusal). accepted r) even ∙ e) ∙
        ap (λ (r : Result Unit Refusal). block_refused r (negated older) (negated newer) work samples) even ∙
        sym (ap (λ (a : AfterBlock). mirror_block a) (block_refused_lem i older newer work samples pick h e))

-- ---- a pluck: the cut toward zero is odd

quot_odd : (z : ℤ) (n : ℕ) → quot_z (neg_ℤ z) (pos n) ≡ neg_ℤ (quot_z z (pos n))
quot_odd (pos zero) n = ap pos (zero-div n) ∙ sym (ap (λ (q : ℕ). neg_ℤ (pos q)) (zero-div n))
quot_odd (pos (suc m)) n = refl
quot_odd (negsuc m) n = sym (neg_ℤ-neg_ℤ (pos (suc m / n)))

cut_odd : (ts : List ℕ) (w : ℕ) (a : ℤ) (d : ℕ) → pluck_value ts w (neg_ℤ a) d ≡ neg_ℤ (pluck_value ts w a d)
cut_odd ts w a d =
    let e : ℤ = pos (get_or ts (1024 * (w - d) / w) 0) in
    ap (λ z. quot_z z (pos 65536)) (neg_mulℤ a e) ∙ quot_odd (a *ℤ e) 65536

pub shape_mirrored : (ts : List ℕ) (g : Grid) (c w : ℕ) (a : ℤ) → pluck_level ts g c w (neg_ℤ a) ≡ negated (pluck_level ts g c w a)
unfolding pluck_level pluck_at
shape_mirrored ts g c w a = sym (map-tabulate neg_ℤ (points g) _ _ (λ k l. sym (cond_odd (moving g k && leb (distance_from c k) w)
    (pluck_value ts w a (distance_from c k)) (cut_odd ts w a (distance_from c k)))))

abbrev pub mirror_pluck : AfterPluck → AfterPluck
mirror_pluck a = pluck_left a.outcome (negated a.older) (negated a.newer)

-- by any table, where both are refused alike
by_mirrored : (ts : List ℕ) (r r' : Result Unit Refusal) (g : Grid) (older newer : List ℤ) (c w : ℕ) (a : ℤ) → r' ≡ r
    → pluck_by ts r' g (negated older) (negated newer) c w (neg_ℤ a) ≡ mirror_pluck (pluck_by ts r g older newer c w a)
by_mirrored ts r r' g older newer c w a even = go (accepted r) refl
  where
    go : (t : Bool) → accepted r ≡ t
        → pluck_by ts r' g (negated older) (negated newer) c w (neg_ℤ a) ≡ mirror_pluck (pluck_by ts r g older newer c w a)
    go true e =
        let z = accepted_is r e in
        by_done g (negated older) (negated newer) c w (neg_ℤ a) ts (even ∙ z) ∙
        ap (λ (l : List ℤ). overwritten l) (shape_mirrored ts g c w a) ∙
        sym (ap (λ (p : AfterPluck). mirror_pluck p) (by_done g older newer c w a ts z))
    go false e =
        by_refused g (negated older) (negated newer) c w (neg_ℤ a) ts (ap (λ (r : Result Unit Refusal). accepted r) even ∙ e) ∙
        ap (λ (r : Result Unit Refusal). pluck_refused r (negated older) (negated newer)) even ∙
        sym (ap (λ (p : AfterPluck). mirror_pluck p) (by_refused g older newer c w a ts e))

pub pluck_mirrored : (g : Grid) (older newer : List ℤ) (c w : ℕ) (a : ℤ) → pluck g (negated older) (negated newer) c w (neg_ℤ a)
    ≡ mirror_pluck (pluck g older newer c w a)
unfolding pluck
pluck_mirrored g older newer c w a = by_mirrored table _ _ g older newer c w a (pluck-refusal_even g older newer c w a)

pub with_mirrored : (g : Grid) (older newer : List ℤ) (c w : ℕ) (a : ℤ) (lent : List ℕ)
    → pluck_with g (negated older) (negated newer) c w (neg_ℤ a) lent ≡ mirror_pluck (pluck_with g older newer c w a lent)
unfolding pluck_with
with_mirrored g older newer c w a lent = by_mirrored lent _ _ g older newer c w a (with_refusal_even g older newer c w a lent)
