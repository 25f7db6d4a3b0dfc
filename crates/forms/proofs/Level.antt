-- Levels as functions from points to whole numbers: sums, multiples, and levels that are 0 at every point that does not move.
use mathlib.Core.Path.{◌≡◌, refl, sym, ap, ap₂, ◌∙◌}
use mathlib.Core.Bool.{Bool, true, false, cond}
use mathlib.Core.List.{List}
use Prim.Native.Nat.{ℕ}
use lib.IntN.{ℤ, pos, ◌+ℤ◌, ◌-ℤ◌, ◌*ℤ◌, *ℤ-zero}
use Rattle.integers.specs.Sum.{sum_over}
use Rattle.integers.proofs.Ring.{◌⊕◌, ◌⊖◌, ◌⊗◌, ◌≈◌, ring}
use Rattle.integers.proofs.Sum.{over_ext, over_add, over-scale}

abbrev pub Level : Type 0
Level = ℕ → ℤ

infixl 26 ◌⊞◌
infix 27 ◌⊡◌
abbrev pub ◌⊞◌ : Level → Level → Level
a ⊞ b = λ i. a i +ℤ b i

abbrev pub ◌⊡◌ : ℤ → Level → Level
k ⊡ a = λ i. k *ℤ a i

abbrev pub zeros : Level
zeros = λ i. pos 0

-- 0 where nothing moves
pub record Still (moving : ℕ → Bool) (a : Level) : Type 0 where
  pub still : (i : ℕ) → moving i ≡ false → a i ≡ pos 0

module _ {moving : ℕ → Bool} where
  pub still-zeros : Still moving zeros
  still-zeros = record { still = λ i e. refl }

  pub still-add : {a b : Level} → Still moving a → Still moving b → Still moving (a ⊞ b)
  still-add p q = record { still = λ i e. ap₂ ◌+ℤ◌ (p.still i e) (q.still i e) }

  pub still-scale : (k : ℤ) {a : Level} → Still moving a → Still moving (k ⊡ a)
  still-scale k p = record { still = λ i e. ap (λ x. k *ℤ x) (p.still i e) ∙ *ℤ-zero k }

-- ---- numbers read off a level, linearly
pub record Linear (f : Level → ℤ) : Type 0 where
  pub add : (a b : Level) → f (a ⊞ b) ≡ f a +ℤ f b
  pub scale : (k : ℤ) (a : Level) → f (k ⊡ a) ≡ k *ℤ f a

pub linear_at : (i : ℕ) → Linear (λ a. a i)
linear_at i = record { add = λ a b. refl; scale = λ k a. refl }

pub linear_minus : {f g : Level → ℤ} → Linear f → Linear g → Linear (λ a. f a -ℤ g a)
linear_minus {f} {g} F G = record {
  add = λ a b. ap₂ ◌-ℤ◌ (F.add a b) (G.add a b) ∙ ring 4 (λ x y u v. (x ⊕ y) ⊖ (u ⊕ v) ≈ (x ⊖ u) ⊕ (y ⊖ v)) refl (f a) (f b) (g a) (g b);
  scale = λ k a. ap₂ ◌-ℤ◌ (F.scale k a) (G.scale k a) ∙ ring 3 (λ k x u. k ⊗ x ⊖ k ⊗ u ≈ k ⊗ (x ⊖ u)) refl k (f a) (g a);
}

pub linear_times : (m : ℤ) {f : Level → ℤ} → Linear f → Linear (λ a. m *ℤ f a)
linear_times m {f} F = record {
  add = λ a b. ap (λ z. m *ℤ z) (F.add a b) ∙ ring 3 (λ m x y. m ⊗ (x ⊕ y) ≈ m ⊗ x ⊕ m ⊗ y) refl m (f a) (f b);
  scale = λ k a. ap (λ z. m *ℤ z) (F.scale k a) ∙ ring 3 (λ m k x. m ⊗ (k ⊗ x) ≈ k ⊗ (m ⊗ x)) refl m k (f a);
}

pub linear_cond : (t : Bool) {f : Level → ℤ} → Linear f → Linear (λ a. cond t (f a) (pos 0))
linear_cond true F = F
linear_cond false F = record { add = λ a b. refl; scale = λ k a. sym (*ℤ-zero k) }

pub linear_over : (js : List ℕ) {f : ℕ → Level → ℤ} → ((j : ℕ) → Linear (f j)) → Linear (λ a. sum_over js (λ j. f j a))
linear_over js {f} F = record {
  add = λ a b. over_ext js (λ j. (F j).add a b) ∙ over_add js (λ j. f j a) (λ j. f j b);
  scale = λ k a. over_ext js (λ j. (F j).scale k a) ∙ over-scale js k (λ j. f j a);
}
