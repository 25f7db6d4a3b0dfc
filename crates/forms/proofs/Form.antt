-- Symmetric bilinear forms on levels: how they are made, and what they are at sums and multiples.
use mathlib.Core.Path.{◌≡◌, refl, ap, ap₂, ◌∙◌}
use mathlib.Core.List.{List}
use Prim.Native.Nat.{ℕ}
use lib.IntN.{ℤ, pos, negsuc, ◌+ℤ◌, ◌-ℤ◌, ◌*ℤ◌, *ℤ_comm}
use Rattle.integers.specs.Sum.{sum, sum_over}
use Rattle.integers.proofs.Ring.{con, #◌, ⊝◌, ◌⊕◌, ◌⊖◌, ◌⊗◌, ◌≈◌, ring}
use Rattle.integers.proofs.Lin.{◌*≈◌, ◌⇒◌, ⊩≈◌, lin}
use Rattle.integers.proofs.Sum.{sum_ext, sum-add, sum-scale, over_ext, over_add, over-scale}
use Rattle.forms.proofs.Level.{Level, ◌⊞◌, ◌⊡◌, Linear}

pub record Form (B : Level → Level → ℤ) : Type 0 where
  pub symm : (a b : Level) → B a b ≡ B b a
  pub add : (a b c : Level) → B (a ⊞ b) c ≡ B a c +ℤ B b c
  pub scale : (k : ℤ) (a b : Level) → B (k ⊡ a) b ≡ k *ℤ B a b

-- ---- how forms are made
pub product : {f : Level → ℤ} → Linear f → Form (λ a b. f a *ℤ f b)
product {f} F = record {
  symm = λ a b. *ℤ_comm (f a) (f b);
  add = λ a b c. ap (λ z. z *ℤ f c) (F.add a b) ∙ ring 3 (λ x y z. (x ⊕ y) ⊗ z ≈ x ⊗ z ⊕ y ⊗ z) refl (f a) (f b) (f c);
  scale = λ k a b. ap (λ z. z *ℤ f b) (F.scale k a) ∙ ring 3 (λ k x y. (k ⊗ x) ⊗ y ≈ k ⊗ (x ⊗ y)) refl k (f a) (f b);
}

pub times : (m : ℤ) {B : Level → Level → ℤ} → Form B → Form (λ a b. m *ℤ B a b)
times m {B} F = record {
  symm = λ a b. ap (λ z. m *ℤ z) (F.symm a b);
  add = λ a b c. ap (λ z. m *ℤ z) (F.add a b c) ∙ ring 3 (λ m x y. m ⊗ (x ⊕ y) ≈ m ⊗ x ⊕ m ⊗ y) refl m (B a c) (B b c);
  scale = λ k a b. ap (λ z. m *ℤ z) (F.scale k a b) ∙ ring 3 (λ m k x. m ⊗ (k ⊗ x) ≈ k ⊗ (m ⊗ x)) refl m k (B a b);
}

pub minus : {B C : Level → Level → ℤ} → Form B → Form C → Form (λ a b. B a b -ℤ C a b)
minus {B} {C} F G = record {
  symm = λ a b. ap₂ ◌-ℤ◌ (F.symm a b) (G.symm a b);
  add = λ a b c. ap₂ ◌-ℤ◌ (F.add a b c) (G.add a b c)
      ∙ ring 4 (λ x y u v. (x ⊕ y) ⊖ (u ⊕ v) ≈ (x ⊖ u) ⊕ (y ⊖ v)) refl (B a c) (B b c) (C a c) (C b c);
  scale = λ k a b. ap₂ ◌-ℤ◌ (F.scale k a b) (G.scale k a b) ∙ ring 3 (λ k x u. k ⊗ x ⊖ k ⊗ u ≈ k ⊗ (x ⊖ u)) refl k (B a b) (C a b);
}

pub form_sum : (n : ℕ) {B : ℕ → Level → Level → ℤ} → ((i : ℕ) → Form (B i)) → Form (λ a b. sum n (λ i. B i a b))
form_sum n {B} F = record {
  symm = λ a b. sum_ext n (λ i. (F i).symm a b);
  add = λ a b c. sum_ext n (λ i. (F i).add a b c) ∙ sum-add n (λ i. B i a c) (λ i. B i b c);
  scale = λ k a b. sum_ext n (λ i. (F i).scale k a b) ∙ sum-scale n k (λ i. B i a b);
}

pub form_over : (js : List ℕ) {B : ℕ → Level → Level → ℤ} → ((j : ℕ) → Form (B j)) → Form (λ a b. sum_over js (λ j. B j a b))
form_over js {B} F = record {
  symm = λ a b. over_ext js (λ j. (F j).symm a b);
  add = λ a b c. over_ext js (λ j. (F j).add a b c) ∙ over_add js (λ j. B j a c) (λ j. B j b c);
  scale = λ k a b. over_ext js (λ j. (F j).scale k a b) ∙ over-scale js k (λ j. B j a b);
}

-- ---- what they are at sums and multiples
module _ {B : Level → Level → ℤ} (F : Form B) where
  pub add_right : (a b c : Level) → B a (b ⊞ c) ≡ B a b +ℤ B a c
  add_right a b c = F.symm a (b ⊞ c) ∙ F.add b c a ∙ ap₂ ◌+ℤ◌ (F.symm b a) (F.symm c a)

  pub scale-right : (k : ℤ) (a b : Level) → B a (k ⊡ b) ≡ k *ℤ B a b
  scale-right k a b = F.symm a (k ⊡ b) ∙ F.scale k b a ∙ ap (λ z. k *ℤ z) (F.symm b a)

  pub scale-both : (k l : ℤ) (a b : Level) → B (k ⊡ a) (l ⊡ b) ≡ k *ℤ (l *ℤ B a b)
  scale-both k l a b = F.scale k a (l ⊡ b) ∙ ap (λ z. k *ℤ z) (scale-right l a b)

  pub square-sum : (a b : Level) → B (a ⊞ b) (a ⊞ b) ≡ B a a +ℤ pos 2 *ℤ B a b +ℤ B b b
  square-sum a b =
      F.add a b (a ⊞ b) ∙ ap₂ ◌+ℤ◌ (add_right a a b) (add_right b a b ∙ ap (λ z. z +ℤ B b b) (F.symm b a)) ∙
      ring 3 (λ x y z. (x ⊕ y) ⊕ (y ⊕ z) ≈ x ⊕ # 2 ⊗ y ⊕ z) refl (B a a) (B a b) (B b b)

  pub square_combination : (k l : ℤ) (a b : Level) → B ((k ⊡ a) ⊞ (l ⊡ b)) ((k ⊡ a) ⊞ (l ⊡ b)) ≡ k *ℤ (k *ℤ B a a) +ℤ pos 2
      *ℤ (k *ℤ (l *ℤ B a b)) +ℤ l *ℤ (l *ℤ B b b)
  square_combination k l a b = square-sum (k ⊡ a) (l ⊡ b)
      ∙ (λ i. scale-both k k a a i +ℤ pos 2 *ℤ scale-both k l a b i +ℤ scale-both l l b b i)

  -- of a − b
  pub square-difference : (a b : Level) → let c : Level = a ⊞ (negsuc 0 ⊡ b) in B c c ≡ B a a -ℤ pos 2 *ℤ B a b +ℤ B b b
  square-difference a b =
      square-sum a (negsuc 0 ⊡ b) ∙ (λ i. B a a +ℤ pos 2 *ℤ scale-right (negsuc 0) a b i +ℤ scale-both (negsuc 0) (negsuc 0) b b i) ∙
      ring 3 (λ x y z. x ⊕ # 2 ⊗ (con (negsuc 0) ⊗ y) ⊕ con (negsuc 0) ⊗ (con (negsuc 0) ⊗ z) ≈ x ⊖ # 2 ⊗ y ⊕ z) refl (B a a) (B a b)
      (B b b)

  -- 4·B(a,b) = B(a+b,a+b) − B(a−b,a−b)
  pub polarisation : (a b : Level) → let c : Level = a ⊞ (negsuc 0 ⊡ b) in pos 4 *ℤ B a b ≡ B (a ⊞ b) (a ⊞ b) -ℤ B c c
  polarisation a b =
      let c : Level = a ⊞ (negsuc 0 ⊡ b) in
      lin 5 (λ x y z s t. (⊝ # 1) *≈ s ≈ x ⊕ # 2 ⊗ y ⊕ z ⇒ # 1 *≈ t ≈ x ⊖ # 2 ⊗ y ⊕ z ⇒ ⊩≈ # 4 ⊗ y ≈ s ⊖ t) refl
      (B a a) (B a b) (B b b) (B (a ⊞ b) (a ⊞ b)) (B c c) (square-sum a b) (square-difference a b)
