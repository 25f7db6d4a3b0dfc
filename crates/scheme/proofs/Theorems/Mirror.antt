-- Up and down alike: the mirror image of every list of calls. What a call leaves is mirrored (Laws/Mirror); here its effects on the book,
-- steps and levels overwritten, the list, and energy and distance.
use mathlib.Core.Path.{◌≡◌, refl, sym, ap, ap₂, ◌∙◌, fun_ext}
use mathlib.Core.Bool.{Bool, true, false, cond}
use mathlib.Core.List.{List, [], ◌∷◌, map}
use Prim.Native.Nat.{ℕ, zero, suc, ◌*◌}
use lib.IntN.{ℤ, pos, negsuc, neg_ℤ, ◌+ℤ◌, ◌*ℤ◌}
use lib.ListN.{replicate}
use Rattle.integers.proofs.Ring.{con, ⊝◌, ◌⊖◌, ◌⊗◌, ◌≈◌, ring}
use Rattle.integers.proofs.Sum.{sum_ext}
use Rattle.forms.proofs.Level.{Level, ◌⊡◌}
use Rattle.forms.proofs.Form.{Form, scale-both}
use Rattle.types.specs.declared.Grid.{Grid}
use Rattle.types.specs.declared.Instrument.{Instrument}
use Rattle.types.specs.declared.Hit.{Hit}
use Rattle.types.specs.declared.BlockAnswer.{BlockAnswer}
use Rattle.types.specs.Numbers.{D}
use Rattle.pluck_table.specs.Table.{table}
use Rattle.scheme.specs.Lists.{tabulate, point, times}
use Rattle.scheme.specs.Instruments.{points, moving}
use Rattle.scheme.specs.Step.{numerator, force_of, divisor}
use Rattle.scheme.specs.Pluck.{pluck_level}
use Rattle.scheme.specs.Calls.{accepted, AfterBlock, without_work, block_in_place, AfterPluck}
use Rattle.scheme.specs.Energy.{weight, squares, energy}
use Rattle.scheme.specs.Book.{Book, step_of, fresh, scale, unrounded_at, unrounded_step, unrounded_steps, goes_on, book_block, book_pluck}
use Rattle.scheme.specs.Book.{sum_block, sum_pluck, Call, block_call, in_place_call, pluck_call, pluck_with_call, Outcome, block_outcome}
use Rattle.scheme.specs.Book.{in_place_outcome, pluck_outcome, steps_of, inexact_of, refusal_of, Left, left_by_block, left_by_in_place}
use Rattle.scheme.specs.Book.{left_by_pluck, leaves, book_call, sum_call, State, start, state_after, called, calls}
use Rattle.scheme.specs.Mirror.{negated, mirror_hit, mirror_call, mirror_outcome, mirror_left, mirror_book, mirror_state, mirror_after}
use Rattle.scheme.specs.Mirror.{MirrorImage, MirrorMeasures}
use Rattle.scheme.proofs.Laws.Lists.{map-tabulate}
use Rattle.scheme.proofs.Laws.Mirror.{points-negated, force_negated, cond_odd, numerator_odd, block_mirrored, shape_mirrored}
use Rattle.scheme.proofs.Laws.Mirror.{pluck_mirrored, with_mirrored}
use Rattle.scheme.proofs.Theorems.Forms.{pair_form, laplacian_form}
use Rattle.std.specs.Prelude.{Option, None}

-- ---- steps in the book

scaled_negated : (p : ℤ) (u : Level) {v : Level} → v ≡ negsuc 0 ⊡ u → p ⊡ v ≡ negsuc 0 ⊡ (p ⊡ u)
scaled_negated p u e = ap (λ (v : Level). p ⊡ v) e ∙
    fun_ext (λ k. ring 2 (λ p u. p ⊗ (con (negsuc 0) ⊗ u) ≈ con (negsuc 0) ⊗ (p ⊗ u)) refl p (u k))

times-negated : (z : ℤ) (xs : List ℤ) → times z (negated xs) ≡ negated (times z xs)
times-negated z [] = refl
times-negated z (x ∷ xs) = ap₂ ◌∷◌ (ring 2 (λ z x. z ⊗ (⊝ x) ≈ ⊝ (z ⊗ x)) refl z x) (times-negated z xs)

unrounded_mirrored : (i : Instrument) (h : Option Hit) (b : Book) → unrounded_step i (mirror_hit h) (mirror_book b) ≡ mirror_book
    (unrounded_step i h b)
unfolding unrounded_step unrounded_at
unrounded_mirrored i h b = λ x. record {
  n = suc b.n;
  older = times-negated (pos (divisor i.settings)) b.newer x;
  newer = newer x;
  last = step_of i;
}
  where
    p : ℤ
    p = scale i.settings b.n

    odd : (k : ℕ) → numerator i (point (negated b.newer)) (point (negated b.older)) (p ⊡ force_of (mirror_hit h)) k
        ≡ neg_ℤ (numerator i (point b.newer) (point b.older) (p ⊡ force_of h) k)
    odd k =
        let f = scaled_negated p (force_of h) (force_negated h) in
        (λ x. numerator i (points-negated b.newer x) (points-negated b.older x) (f x) k) ∙
        numerator_odd i (point b.newer) (point b.older) (p ⊡ force_of h) k

    newer : tabulate (points i.grid) (unrounded_at i (mirror_hit h) (mirror_book b))
        ≡ negated (tabulate (points i.grid) (unrounded_at i h b))
    newer = sym (map-tabulate neg_ℤ (points i.grid) _ _ (λ k l. sym (cond_odd (moving i.grid k)
        (numerator i (point b.newer) (point b.older) (p ⊡ force_of h) k) (odd k))))

unrounded_steps_mirrored : (i : Instrument) (h : Option Hit) (k : ℕ) (b : Book)
    → unrounded_steps i (mirror_hit h) k (mirror_book b) ≡ mirror_book (unrounded_steps i h k b)
unfolding unrounded_steps
unrounded_steps_mirrored i h zero b = refl
unrounded_steps_mirrored i h (suc k) b =
    ap (unrounded_steps i None k) (unrounded_mirrored i h b) ∙ unrounded_steps_mirrored i None k (unrounded_step i h b)

steps_mirrored : (i : Instrument) (h : Option Hit) (older newer : List ℤ) (k : ℕ) (b : Book)
    → book_block i (mirror_hit h) (negated older) (negated newer) k (mirror_book b) ≡ mirror_book (book_block i h older newer k b)
unfolding book_block
steps_mirrored i h older newer zero b = refl
steps_mirrored i h older newer (suc k) b =
    ap (unrounded_steps i (mirror_hit h) (suc k)) (from (goes_on i b.last)) ∙
    unrounded_steps_mirrored i h (suc k) (cond (goes_on i b.last) b (fresh b.last older newer))
  where
    from : (t : Bool) → cond t (mirror_book b) (fresh b.last (negated older) (negated newer))
        ≡ mirror_book (cond t b (fresh b.last older newer))
    from true = refl
    from false = refl

sum_mirrored : (i : Instrument) (k c : ℕ) (b : Book) (sum : ℕ) → sum_block i k c (mirror_book b) sum ≡ sum_block i k c b sum
unfolding sum_block
sum_mirrored i zero c b sum = refl
sum_mirrored i (suc k) c b sum = refl

-- ---- levels overwritten in the book

overwritten_mirrored : (done : Bool) (xs : List ℤ) (b : Book)
    → book_pluck done (negated xs) (mirror_book b) ≡ mirror_book (book_pluck done xs b)
unfolding book_pluck
overwritten_mirrored true xs b = refl
overwritten_mirrored false xs b = refl

-- by a pluck, whatever its table
plucked_mirrored : (ts : List ℕ) (g : Grid) (c w : ℕ) (a : ℤ) (done : Bool) (b : Book)
    → book_pluck done (pluck_level ts g c w (neg_ℤ a)) (mirror_book b) ≡ mirror_book (book_pluck done (pluck_level ts g c w a) b)
plucked_mirrored ts g c w a done b =
    ap (λ (xs : List ℤ). book_pluck done xs (mirror_book b)) (shape_mirrored ts g c w a) ∙
    overwritten_mirrored done (pluck_level ts g c w a) b

-- ---- the state after a call

-- what the book and the sum are fed of an outcome
abbrev pub told : Outcome → BlockAnswer
told o = record { steps = steps_of o; inexact = inexact_of o; outcome = refusal_of o }

pub fed_book : (k : Call) (o o' : Outcome) (older newer : List ℤ) (b : Book) → told o ≡ told o'
    → book_call k o older newer b ≡ book_call k o' older newer b
unfolding book_call
fed_book (block_call i work samples pick h) o o' older newer b e = ap (λ (a : BlockAnswer). book_block i h older newer a.steps b) e
fed_book (in_place_call i samples pick h) o o' older newer b e = ap (λ (a : BlockAnswer). book_block i h older newer a.steps b) e
fed_book (pluck_call g c w a) o o' older newer b e =
    ap (λ (r : BlockAnswer). book_pluck (accepted r.outcome) (pluck_level table g c w a) b) e
fed_book (pluck_with_call g c w a lent) o o' older newer b e =
    ap (λ (r : BlockAnswer). book_pluck (accepted r.outcome) (pluck_level lent g c w a) b) e

pub fed_sum : (k : Call) (o o' : Outcome) (b : Book) (sum : ℕ) → told o ≡ told o' → sum_call k o b sum ≡ sum_call k o' b sum
unfolding sum_call
fed_sum (block_call i work samples pick h) o o' b sum e = ap (λ (a : BlockAnswer). sum_block i a.steps a.inexact b sum) e
fed_sum (in_place_call i samples pick h) o o' b sum e = ap (λ (a : BlockAnswer). sum_block i a.steps a.inexact b sum) e
fed_sum (pluck_call g c w a) o o' b sum e = ap (λ (r : BlockAnswer). sum_pluck (accepted r.outcome) sum) e
fed_sum (pluck_with_call g c w a lent) o o' b sum e = ap (λ (r : BlockAnswer). sum_pluck (accepted r.outcome) sum) e

told_mirrored : (o : Outcome) → told (mirror_outcome o) ≡ told o
told_mirrored (block_outcome a work samples) = refl
told_mirrored (in_place_outcome a samples) = refl
told_mirrored (pluck_outcome r) = refl

book_mirrored : (k : Call) (o : Outcome) (older newer : List ℤ) (b : Book)
    → book_call (mirror_call k) o (negated older) (negated newer) (mirror_book b) ≡ mirror_book (book_call k o older newer b)
unfolding book_call
book_mirrored (block_call i work samples pick h) o older newer b = steps_mirrored i h older newer (steps_of o) b
book_mirrored (in_place_call i samples pick h) o older newer b = steps_mirrored i h older newer (steps_of o) b
book_mirrored (pluck_call g c w a) o older newer b = plucked_mirrored table g c w a (accepted (refusal_of o)) b
book_mirrored (pluck_with_call g c w a lent) o older newer b = plucked_mirrored lent g c w a (accepted (refusal_of o)) b

counts_mirrored : (k : Call) (o : Outcome) (b : Book) (sum : ℕ) → sum_call (mirror_call k) o (mirror_book b) sum ≡ sum_call k o b sum
unfolding sum_call
counts_mirrored (block_call i work samples pick h) o b sum = sum_mirrored i (steps_of o) (inexact_of o) b sum
counts_mirrored (in_place_call i samples pick h) o b sum = sum_mirrored i (steps_of o) (inexact_of o) b sum
counts_mirrored (pluck_call g c w a) o b sum = refl
counts_mirrored (pluck_with_call g c w a lent) o b sum = refl

state_mirrored : (k : Call) (l : Left) (t : State)
    → state_after (mirror_call k) (mirror_left l) (mirror_state t) ≡ mirror_state (state_after k l t)
state_mirrored k l t =
    let o = l.outcome in
    let b = mirror_book t.book in
    λ x. record {
      older = negated l.older;
      newer = negated l.newer;
      book = (fed_book (mirror_call k) (mirror_outcome o) o (negated t.older) (negated t.newer) b (told_mirrored o) ∙
          book_mirrored k o t.older t.newer t.book) x;
      inexact = (fed_sum (mirror_call k) (mirror_outcome o) o b t.inexact (told_mirrored o) ∙
          counts_mirrored k o t.book t.inexact) x;
    }

-- what it answers and leaves
left_mirrored : (k : Call) (older newer : List ℤ)
    → leaves (mirror_call k) (negated older) (negated newer) ≡ mirror_left (leaves k older newer)
unfolding leaves block_in_place
left_mirrored (block_call i work samples pick h) older newer =
    ap (λ (a : AfterBlock). left_by_block a) (block_mirrored i older newer work samples pick h)
left_mirrored (in_place_call i samples pick h) older newer =
    ap (λ (a : AfterBlock). left_by_in_place (without_work a))
    (block_mirrored i older newer (replicate (points i.grid) (pos 0)) samples pick h)
left_mirrored (pluck_call g c w a) older newer = ap (λ (p : AfterPluck). left_by_pluck p) (pluck_mirrored g older newer c w a)
left_mirrored (pluck_with_call g c w a lent) older newer = ap (λ (p : AfterPluck). left_by_pluck p) (with_mirrored g older newer c w a lent)

-- ---- every list

list_mirrored : (ks : List Call) (t : State) → calls (map mirror_call ks) (mirror_state t) ≡ mirror_after (calls ks t)
unfolding calls
list_mirrored [] t = refl
list_mirrored (k ∷ ks) t =
    let left = left_mirrored k t.older t.newer in
    let after = ap (λ (l : Left). state_after (mirror_call k) l (mirror_state t)) left ∙ state_mirrored k (called k t) t in
    let rest = ap (calls (map mirror_call ks)) after ∙ list_mirrored ks (state_after k (called k t) t) in
    λ x. record { left = left x ∷ (rest x).left; state = (rest x).state }

pub mirror_image : MirrorImage
mirror_image older newer ks = list_mirrored ks (start older newer)

-- ---- energy and distance

-- a form is the same at two negated levels
form_even : {B : Level → Level → ℤ} → Form B → (a b : Level) → B (negsuc 0 ⊡ a) (negsuc 0 ⊡ b) ≡ B a b
form_even {B} F a b =
    scale-both F (negsuc 0) (negsuc 0) a b ∙ ring 1 (λ z. con (negsuc 0) ⊗ (con (negsuc 0) ⊗ z) ≈ z) refl (B a b)

squares_even : (g : Grid) (a b : Level) → squares g (negsuc 0 ⊡ a) (negsuc 0 ⊡ b) ≡ squares g a b
unfolding squares
squares_even g a b = sum_ext (points g) (λ k. ring 3
    (λ w a b. w ⊗ ((con (negsuc 0) ⊗ a ⊖ con (negsuc 0) ⊗ b) ⊗ (con (negsuc 0) ⊗ a ⊖ con (negsuc 0) ⊗ b)) ≈ w ⊗ ((a ⊖ b) ⊗ (a ⊖ b))) refl
    (pos (weight g k)) (a k) (b k))

energy_even : (i : Instrument) (a b : Level) → energy i (negsuc 0 ⊡ a) (negsuc 0 ⊡ b) ≡ energy i a b
unfolding energy
energy_even i a b = λ x. pos D *ℤ squares_even i.grid a b x +ℤ pos (2 * i.settings.q) *ℤ form_even (pair_form i.grid) a b x
    +ℤ pos (2 * i.settings.m) *ℤ form_even (laplacian_form i.grid) a b x

pub mirror_measures : MirrorMeasures
mirror_measures t = record {
  energies = λ i. (λ x. energy i (points-negated t.book.newer x) (points-negated t.book.older x)) ∙
      energy_even i (point t.book.newer) (point t.book.older);
  distances = λ i. let p : ℤ = scale i.settings t.book.n in
      (λ x. squares i.grid (scaled_negated p (point t.newer) (points-negated t.newer) x) (points-negated t.book.newer x)) ∙
      squares_even i.grid (p ⊡ point t.newer) (point t.book.newer);
}
