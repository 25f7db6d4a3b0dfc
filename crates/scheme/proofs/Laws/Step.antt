-- Laws of one step: L by differences, everything linear, the next level's length and fixed points.
use mathlib.Core.Path.{◌≡◌, refl, sym, ap, ap₂, ◌∙◌}
use mathlib.Core.Bool.{Bool, true, false, not, ◌&&◌, and-false}
use mathlib.Core.List.{List}
use Prim.Native.Nat.{ℕ, ◌*◌, ◌≤◌, ◌<◌}
use borrow.Author.Tests.{ltb-true, ltb-false, le-ltb}
use lib.Dec.{ltb}
use lib.IntN.{ℤ, pos, nat_abs, ◌+ℤ◌, ◌-ℤ◌, ◌*ℤ◌}
use lib.ListN.{length}
use Rattle.integers.specs.Sum.{sum_over}
use Rattle.integers.proofs.Ring.{#◌, ◌⊕◌, ◌⊖◌, ◌⊗◌, ◌≈◌, ring}
use Rattle.integers.proofs.Sum.{over_less}
use Rattle.forms.proofs.Level.{Level, ◌⊞◌, ◌⊡◌, Linear, linear_at, linear_minus, linear_times, linear_cond, linear_over}
use Rattle.types.specs.declared.Settings.{Settings}
use Rattle.types.specs.declared.Grid.{Grid}
use Rattle.types.specs.declared.Instrument.{Instrument}
use Rattle.types.specs.declared.Hit.{Hit}
use Rattle.types.specs.Numbers.{D, ceiling}
use Rattle.scheme.specs.Lists.{tabulate, point}
use Rattle.scheme.specs.Instruments.{beyond, points, fixed, moving}
use Rattle.scheme.specs.Step.{neighbours, laplacian, inner_laplacian, biharmonic, numerator_of, numerator, round_away, force_of, divisor}
use Rattle.scheme.specs.Step.{next_at, next_level, inexact_at, some_beyond}
use Rattle.scheme.proofs.Laws.Bools.{and_both, and_no}
use Rattle.scheme.proofs.Laws.Lists.{length-tabulate, get_d_tabulate, point-tabulate, none_at, none_below}
use Rattle.std.specs.Prelude.{Option}

-- ---- moving and fixed

-- nothing past the grid moves
pub outside-still : (g : Grid) (k : ℕ) → points g ≤ k → moving g k ≡ false
unfolding moving
outside-still g k h = ap (λ (t : Bool). t && not (fixed g k)) (le-ltb k (points g) h)

-- what moves is a grid point
pub moving_inside : (g : Grid) (k : ℕ) → moving g k ≡ true → k < points g
unfolding moving
moving_inside g k e = ltb-true k (points g) (and_both (ltb k (points g)) (not (fixed g k)) e).0

pub fixed-still : (g : Grid) (k : ℕ) → fixed g k ≡ true → moving g k ≡ false
unfolding moving
fixed-still g k e = ap (λ (b : Bool). ltb k (points g) && not b) e ∙ and-false (ltb k (points g))

-- a tabulated level whose rule gives 0 where nothing moves is that rule at every number
pub tabulated : (g : Grid) (f : ℕ → ℤ) → ((k : ℕ) → moving g k ≡ false → f k ≡ pos 0) → (k : ℕ) → point (tabulate (points g) f) k ≡ f k
tabulated g f z k = go (ltb k (points g)) refl
  where
    go : (t : Bool) → ltb k (points g) ≡ t → point (tabulate (points g) f) k ≡ f k
    go true e = get_d_tabulate (points g) f k (pos 0) (ltb-true k (points g) e)
    go false e = point-tabulate (λ x. x ≡ f k) (points g) f k (λ p. refl) (sym (z k (outside-still g k (ltb-false k (points g) e))))

-- ---- linear

-- L is the sum of the differences from the neighbours
pub laplacian_differences : (g : Grid) (a : Level) (k : ℕ) → laplacian g a k ≡ sum_over (neighbours g k) (λ j. a j -ℤ a k)
unfolding laplacian
laplacian_differences g a k = sym (over_less (neighbours g k) a (a k))

module _ (g : Grid) (k : ℕ) where
  pub laplacian_linear : Linear (λ a. laplacian g a k)
  unfolding laplacian
  laplacian_linear = linear_minus (linear_over (neighbours g k) linear_at) (linear_times (pos (length (neighbours g k))) (linear_at k))

  pub inner_linear : Linear (λ a. inner_laplacian g a k)
  unfolding inner_laplacian
  inner_linear = linear_cond (moving g k) laplacian_linear

pub biharmonic_linear : (g : Grid) (k : ℕ) → Linear (λ a. biharmonic g a k)
unfolding laplacian
biharmonic_linear g k = linear_minus (linear_over (neighbours g k) (inner_linear g))
    (linear_times (pos (length (neighbours g k))) (inner_linear g k))

-- the numerator is additive and homogeneous in newer, older and force together
module _ (i : Instrument) (k : ℕ) where
  abbrev c : Settings
  c = i.settings

  abbrev l : Level → ℤ
  l a = laplacian i.grid a k

  abbrev b : Level → ℤ
  b a = biharmonic i.grid a k

  pub numerator-add : (u p f u' p' f' : Level) → numerator i (u ⊞ u') (p ⊞ p') (f ⊞ f') k ≡ numerator i u p f k +ℤ numerator i u' p' f' k
  unfolding numerator
  numerator-add u p f u' p' f' =
      ap₂ (λ x y. numerator_of c (u k +ℤ u' k) x y (p k +ℤ p' k) (f k +ℤ f' k)) ((laplacian_linear i.grid k).add u u')
      ((biharmonic_linear i.grid k).add u u') ∙
      ring 13 (λ q m s u u' l l' b b' p p' f f'. # (2 * D) ⊗ (u ⊕ u') ⊕ q ⊗ (l ⊕ l') ⊖ m ⊗ (b ⊕ b') ⊖ (# D ⊖ s) ⊗ (p ⊕ p') ⊕ # D ⊗ (f ⊕ f')
      ≈ (# (2 * D) ⊗ u ⊕ q ⊗ l ⊖ m ⊗ b ⊖ (# D ⊖ s) ⊗ p ⊕ # D ⊗ f) ⊕ (# (2 * D) ⊗ u' ⊕ q ⊗ l' ⊖ m ⊗ b' ⊖ (# D ⊖ s) ⊗ p' ⊕ # D ⊗ f')) refl
      (pos c.q) (pos c.m) (pos c.s) (u k) (u' k) (l u) (l u') (b u) (b u') (p k) (p' k) (f k) (f' k)

  pub numerator-scale : (m : ℤ) (u p f : Level) → numerator i (m ⊡ u) (m ⊡ p) (m ⊡ f) k ≡ m *ℤ numerator i u p f k
  unfolding numerator
  numerator-scale m u p f =
      ap₂ (λ x y. numerator_of c (m *ℤ u k) x y (m *ℤ p k) (m *ℤ f k)) ((laplacian_linear i.grid k).scale m u)
      ((biharmonic_linear i.grid k).scale m u) ∙
      ring 9 (λ n q m s u l b p f. # (2 * D) ⊗ (n ⊗ u) ⊕ q ⊗ (n ⊗ l) ⊖ m ⊗ (n ⊗ b) ⊖ (# D ⊖ s) ⊗ (n ⊗ p) ⊕ # D ⊗ (n ⊗ f)
      ≈ n ⊗ (# (2 * D) ⊗ u ⊕ q ⊗ l ⊖ m ⊗ b ⊖ (# D ⊖ s) ⊗ p ⊕ # D ⊗ f)) refl
      m (pos c.q) (pos c.m) (pos c.s) (u k) (l u) (b u) (p k) (f k)

-- ---- the next level

module _ (i : Instrument) (h : Option Hit) (older newer : List ℤ) where
  pub length-next : length (next_level i h older newer) ≡ points i.grid
  unfolding next_level
  length-next = length-tabulate (points i.grid) (next_at i h older newer)

  pub next-moving : (k : ℕ) → moving i.grid k ≡ true → next_at i h older newer k
      ≡ round_away (numerator i (point newer) (point older) (force_of h) k) (divisor i.settings)
  unfolding next_at
  next-moving k e = simp e

  pub next-still : (k : ℕ) → moving i.grid k ≡ false → next_at i h older newer k ≡ pos 0
  unfolding next_at
  next-still k e = simp e

  pub next-point : (k : ℕ) → point (next_level i h older newer) k ≡ next_at i h older newer k
  unfolding next_level
  next-point = tabulated i.grid (next_at i h older newer) next-still

  -- fixed points stay 0
  pub next-fixed : (k : ℕ) → moving i.grid k ≡ false → point (next_level i h older newer) k ≡ pos 0
  next-fixed k e = next-point k ∙ next-still k e

  -- what does not move is not inexact
  pub inexact_still : (k : ℕ) → moving i.grid k ≡ false → inexact_at i h older newer k ≡ false
  unfolding inexact_at
  inexact_still k e = and_no _ e

-- ---- the ceiling

pub low-at : (xs : List ℤ) → some_beyond xs ≡ false → (k : ℕ) → k < length xs → nat_abs (point xs k) ≤ ceiling
unfolding some_beyond
low-at xs e k p = ltb-false ceiling (nat_abs (point xs k)) (none_at (length xs) (λ k. beyond (point xs k)) e k p)

pub all-low : (xs : List ℤ) → ((k : ℕ) → k < length xs → nat_abs (point xs k) ≤ ceiling) → some_beyond xs ≡ false
unfolding some_beyond
all-low xs h = none_below (length xs) (λ k. beyond (point xs k)) (λ k p. le-ltb ceiling (nat_abs (point xs k)) (h k p))
