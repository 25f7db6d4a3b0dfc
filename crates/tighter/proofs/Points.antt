-- Bounds at one point: a point's own part of the squared distances, demand 3's bound there, and the paper's example voice.
use mathlib.Core.Path.{◌≡◌, refl, sym, ap, subst}
use mathlib.Core.List.{List}
use Prim.Native.Nat.{ℕ, zero, suc, ◌*◌, ◌^◌, ◌≤◌, ◌<◌}
use native.Mathlib.Nat as N
use native.Mathlib.Decide.{ℕ_discrete}
use native.Mathlib.Omega.{arith}
use lib.IntN.{ℤ, pos, ◌+ℤ◌, ◌*ℤ◌}
use Rattle.integers.specs.Sum.{sum}
use Rattle.integers.proofs.Ring.{#◌, ◌⊕◌, ◌⊗◌, ◌²}
use Rattle.integers.proofs.Order.{◌⩽◌, 0≤pos, pos≤, pos<, square_nonneg, nonneg_mul, *ℤ_mono_r, *ℤ_cancel, ≡-≤ℤ, ≤ℤ-≡}
use Rattle.integers.proofs.Order.{≤ℤ_trans}
use Rattle.integers.proofs.Lin.{◌⊴◌, ◌*≤◌, ◌*⊴◌, ◌⇒◌, ⊩◌, lin}
use Rattle.integers.proofs.Sum.{sum_nonneg}
use Rattle.types.specs.declared.Instrument.{Instrument}
use Rattle.types.specs.Numbers.{D}
use Rattle.scheme.specs.Lists.{square}
use Rattle.types.specs.Numbers.{kind_of}
use Rattle.scheme.specs.Instruments.{points, free_in}
use Rattle.scheme.specs.Energy.{weight, squares}
use Rattle.scheme.specs.Book.{LastStep, no_step, step_of, scale, start, calls}
use Rattle.scheme.specs.Claims.{distance, Near}
use Rattle.scheme.proofs.Theorems.Distance.{distance-bound}
use Rattle.tighter.specs.Bounds.{span, edge_in, edge, grip, reach, by_tension, by_stiffness, Bound, limit, demanded, linear}
use Rattle.tighter.specs.Bounds.{stiffLinear, lossLinear, forEver, stiffForEver, heavyLoss, stiffHeavyLoss, numbers}
use Rattle.tighter.specs.Claims.{OfSteps, After, OfEveryList, OfSums, SumBounds, difference, OnePoint, OfPoints, PointBounds}
use Rattle.tighter.specs.Claims.{AtOnePoint, voice, VoiceWithin, VoiceForEver}
use Rattle.tighter.proofs.Line.{sum-suc}
use Rattle.tighter.proofs.Holding.{tension_holds, stiffness_holds}
use Rattle.tighter.proofs.Bounds as B

-- one term of a sum of terms that are not negative
one_of : (n : ℕ) (f : ℕ → ℤ) → ((k : ℕ) → k < n → pos 0 ⩽ f k) → (k : ℕ) → k < n → f k ⩽ sum n f
one_of zero f h k l = absurd (omega arith)
one_of (suc n) f h k l = ≤ℤ-≡ (go (ℕ_discrete k n) (one_of n f (λ j m. h j (omega arith)) k)) (sym (sum-suc n f))
  where
    go : Dec (k ≡ n) → (k < n → f k ⩽ sum n f) → f k ⩽ sum n f +ℤ f n
    go (yes e) r = ≡-≤ℤ (ap f e) (lin 2 (λ s x. 1 *≤ # 0 ⊴ s ⇒ ⊩ x ⊴ s ⊕ x) refl (sum n f) (f n) (sum_nonneg n (λ j m. h j (omega arith))))
    go (no e) r = lin 3 (λ s x y. 1 *≤ x ⊴ s ⇒ 1 *≤ # 0 ⊴ y ⇒ ⊩ x ⊴ s ⊕ y) refl
        (sum n f) (f k) (f n) (r (omega (arith, e))) (h n (omega arith))

pub one_point : OnePoint
unfolding squares
one_point i n newer unrounded k l =
    one_of (points i.grid) (λ j. pos (weight i.grid j) *ℤ square (difference i n newer unrounded j))
    (λ j m. nonneg_mul (0≤pos (weight i.grid j)) (square_nonneg (difference i n newer unrounded j))) k l

-- ---- a bound at one point

after_each : (P Q : OfSteps) → ((i : Instrument) (n : ℕ) (newer unrounded : List ℤ) → P i n newer unrounded → Q i n newer unrounded)
    → (newer : List ℤ) (n : ℕ) (unrounded : List ℤ) (last : LastStep) → After P newer n unrounded last → After Q newer n unrounded last
after_each P Q f newer zero unrounded last h = h
after_each P Q f newer (suc m) unrounded no_step h = h
after_each P Q f newer (suc m) unrounded (step_of i) h = (h.0, f i (suc m) newer unrounded h.1)

-- what follows from a claim follows of every list
each_list : (P Q : OfSteps) → ((i : Instrument) (n : ℕ) (newer unrounded : List ℤ) → P i n newer unrounded → Q i n newer unrounded)
    → OfEveryList P → OfEveryList Q
each_list P Q f all older newer ks = let t = (calls ks (start older newer)).state in
    after_each P Q f t.newer t.book.n t.book.newer t.book.last (all older newer ks)

at-points : (b : Bound) (i : Instrument) (n : ℕ) (newer unrounded : List ℤ) → OfSums b i n newer unrounded → OfPoints b i n newer unrounded
at-points b i n newer unrounded h c j l =
    lin 5 (λ k w x s B. k *⊴ w ⊗ x ⊴ s ⇒ 1 *≤ k ⊗ s ⊴ B ⇒ ⊩ (k ⊗ w) ⊗ x ⊴ B) refl
    (pos (b.k i n)) (pos (weight i.grid j)) (square (difference i n newer unrounded j)) (distance i n newer unrounded) (limit b i n)
    (0≤pos (b.k i n)) (one_point i n newer unrounded j l) (h c)

-- ---- demand 3's bound

near_sums : (newer : List ℤ) (n : ℕ) (unrounded : List ℤ) (last : LastStep) → Near newer n unrounded last
    → After (OfSums (numbers demanded)) newer n unrounded last
near_sums newer zero unrounded last h = h
near_sums newer (suc m) unrounded no_step h = h
near_sums newer (suc m) unrounded (step_of i) h = (
  h.all_points,
  λ c. ≤ℤ_trans (*ℤ_mono_r (distance i (suc m) newer unrounded) (B.distance_nonneg i (suc m) newer unrounded) (pos≤ few))
      (≤ℤ-≡ h.near (ap (λ (x : ℕ). pos x *ℤ (square (pos (suc m * suc (suc m))) *ℤ square (scale i.settings (suc m)))) one)),
)
  where
    few : (numbers demanded).k i (suc m) ≤ 16
    few = omega arith

    one : 2 * points i.grid ≡ 1 * (2 * points i.grid)
    one = sym (N.one-mul (2 * points i.grid))

demanded_bound : OfEveryList (OfSums (numbers demanded))
demanded_bound older newer ks = let t = (calls ks (start older newer)).state in
    near_sums t.newer t.book.n t.book.newer t.book.last (distance-bound older newer ks)

-- ---- every bound

pub sum_bounds : SumBounds
sum_bounds demanded = demanded_bound
sum_bounds linear = B.by_linear by_tension tension_holds
sum_bounds stiffLinear = B.by_linear by_stiffness stiffness_holds
sum_bounds lossLinear = B.by_loss_linear
sum_bounds forEver = B.by_for_ever by_tension tension_holds
sum_bounds stiffForEver = B.by_for_ever by_stiffness stiffness_holds
sum_bounds heavyLoss = B.by_heavy_loss by_tension tension_holds
sum_bounds stiffHeavyLoss = B.by_heavy_loss by_stiffness stiffness_holds

pub point_bounds : PointBounds
point_bounds b = each_list (OfSums (numbers b)) (OfPoints (numbers b)) (at-points (numbers b)) (sum_bounds b)

pub at_one_point : AtOnePoint
at_one_point = point_bounds demanded

-- ---- the voice

voice-weight : (k : ℕ) → weight voice.grid k ≡ 2
unfolding weight free_in kind_of
voice-weight k = refl

-- from 2·x ≤ e and k·e ≤ y·r²·p, where the numbers say so
by_numbers : (a b k y r : ℕ) (x e p : ℤ) → 0 < k → pos 0 ⩽ p → pos 2 *ℤ x ⩽ e → pos k *ℤ e ⩽ pos y *ℤ (square (pos r) *ℤ p)
    → a * (y * (r * r)) ≤ 2 * k * b → pos a *ℤ x ⩽ pos b *ℤ p
by_numbers a b k y r x e p some p_nonneg part all numbers = *ℤ_cancel {a = pos (2 * k)} (pos< (omega arith))
    (lin 8 (λ a b k y r x e p. (a ⊗ k) *⊴ # 2 ⊗ x ⊴ e ⇒ a *⊴ k ⊗ e ⊴ y ⊗ (r ² ⊗ p) ⇒ p *⊴ a ⊗ (y ⊗ r ²) ⊴ # 2 ⊗ k ⊗ b ⇒
    ⊩ (# 2 ⊗ k) ⊗ (a ⊗ x) ⊴ (# 2 ⊗ k) ⊗ (b ⊗ p)) refl
    (pos a) (pos b) (pos k) (pos y) (pos r) x e p (0≤pos (a * k)) part (0≤pos a) all p_nonneg (pos≤ numbers))

voice-at : (n : ℕ) (newer unrounded : List ℤ) → OfSums (numbers forEver) voice n newer unrounded → (k : ℕ) → k < points voice.grid
    → pos 2500 *ℤ square (difference voice n newer unrounded k) ⩽ pos (2 ^ 56) *ℤ square (scale voice.settings n)
unfolding span edge_in grip reach kind_of
voice-at n newer unrounded h k l =
    let x : ℤ = square (difference voice n newer unrounded k) in
    by_numbers 2500 (2 ^ 56) (4 * (8 * 8 * (grip (edge voice.grid) * 11378)))
    (reach (edge voice.grid) * D * (2 * points voice.grid)) 65544
    x (distance voice n newer unrounded) (square (scale voice.settings n)) (omega arith) (square_nonneg (scale voice.settings n))
    (≡-≤ℤ (ap (λ (w : ℕ). pos w *ℤ x) (sym (voice-weight k))) (one_point voice n newer unrounded k l))
    (h (omega arith)) (omega arith)

pub voice_for_ever : VoiceForEver
voice_for_ever = each_list (OfSums (numbers forEver)) VoiceWithin
    (λ i n newer unrounded h e. subst (λ (j : Instrument). OfSums (numbers forEver) j n newer unrounded → (k : ℕ) → k < points j.grid
    → pos 2500 *ℤ square (difference j n newer unrounded k) ⩽ pos (2 ^ 56) *ℤ square (scale j.settings n)) (sym e)
    (voice-at n newer unrounded) h)
    (sum_bounds forEver)
