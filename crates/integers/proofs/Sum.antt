-- Laws of finite sums.
use mathlib.Core.Path.{◌≡◌, refl, sym, ◌∙◌, ap, ap₂}
use mathlib.Core.List.{List, [], ◌∷◌, ◌++◌}
use Prim.Native.Nat.{ℕ, zero, suc, ◌+◌, ◌<◌}
use native.Mathlib.Nat as N
use native.Mathlib.Omega.{arith}
use lib.IntN.{ℤ, pos, neg_ℤ, ◌+ℤ◌, ◌-ℤ◌, ◌*ℤ◌, +ℤ_idl, +ℤ_idr, +ℤ_assoc, *ℤ-zero, zero-*ℤ}
use lib.ListN.{length}
use lib.Signed.{≤ℤ_refl}
use Rattle.integers.specs.Sum.{sum, sum_over}
use Rattle.integers.proofs.Laws.{+ℤ_swap4, mul_addℤ}
use Rattle.integers.proofs.Ring.{◌⊕◌, ◌⊖◌, ◌⊗◌, ⊝◌, #◌, ◌≈◌, ring}
use Rattle.integers.proofs.Order.{◌⩽◌, +ℤ_mono, nonneg_add, square_nonneg, ≤ℤ_of_eq, pos-suc}
use Rattle.integers.proofs.Lin.{◌⊴◌, ◌*≤◌, ◌*≈◌, ◌⇒◌, ⊩◌, lin}

pub sum_cong : (n : ℕ) {f g : ℕ → ℤ} → ((i : ℕ) → i < n → f i ≡ g i) → sum n f ≡ sum n g
unfolding sum
sum_cong zero h = refl
sum_cong (suc n) h = ap₂ ◌+ℤ◌ (sum_cong n (λ i p. h i (omega arith))) (h n (omega arith))

pub sum_ext : (n : ℕ) {f g : ℕ → ℤ} → ((i : ℕ) → f i ≡ g i) → sum n f ≡ sum n g
sum_ext n h = sum_cong n (λ i p. h i)

pub sum-add : (n : ℕ) (f g : ℕ → ℤ) → sum n (λ i. f i +ℤ g i) ≡ sum n f +ℤ sum n g
unfolding sum
sum-add zero f g = refl
sum-add (suc n) f g = ap (λ x. x +ℤ (f n +ℤ g n)) (sum-add n f g) ∙ +ℤ_swap4 (sum n f) (sum n g) (f n) (g n)

pub sum-scale : (n : ℕ) (c : ℤ) (f : ℕ → ℤ) → sum n (λ i. c *ℤ f i) ≡ c *ℤ sum n f
unfolding sum
sum-scale zero c f = sym (*ℤ-zero c)
sum-scale (suc n) c f = ap (λ x. x +ℤ c *ℤ f n) (sum-scale n c f) ∙ sym (mul_addℤ c (sum n f) (f n))

pub sum_0 : (n : ℕ) → sum n (λ i. pos 0) ≡ pos 0
unfolding sum
sum_0 zero = refl
sum_0 (suc n) = ap (λ x. x +ℤ pos 0) (sum_0 n)

pub sum_vanish : (n : ℕ) {f : ℕ → ℤ} → ((i : ℕ) → i < n → f i ≡ pos 0) → sum n f ≡ pos 0
sum_vanish n h = sum_cong n h ∙ sum_0 n

pub sum_mono : (n : ℕ) {f g : ℕ → ℤ} → ((i : ℕ) → i < n → f i ⩽ g i) → sum n f ⩽ sum n g
unfolding sum
sum_mono zero h = ≤ℤ_refl (pos 0)
sum_mono (suc n) h = +ℤ_mono (sum_mono n (λ i p. h i (omega arith))) (h n (omega arith))

pub sum_nonneg : (n : ℕ) {f : ℕ → ℤ} → ((i : ℕ) → i < n → pos 0 ⩽ f i) → pos 0 ⩽ sum n f
unfolding sum
sum_nonneg zero h = ≤ℤ_refl (pos 0)
sum_nonneg (suc n) h = nonneg_add (sum_nonneg n (λ i p. h i (omega arith))) (h n (omega arith))

-- splitting and shifting
pub sum_split : (n m : ℕ) (f : ℕ → ℤ) → sum (n + m) f ≡ sum n f +ℤ sum m (λ i. f (n + i))
unfolding sum
sum_split n zero f = ap (λ k. sum k f) (N.add-zero n) ∙ sym (+ℤ_idr (sum n f))
sum_split n (suc m) f = ap (λ k. sum k f) (N.add-suc n m) ∙ ap (λ x. x +ℤ f (n + m)) (sum_split n m f)
    ∙ +ℤ_assoc (sum n f) (sum m (λ i. f (n + i))) (f (n + m))

-- ---- over a list

pub over_ext : (js : List ℕ) {f g : ℕ → ℤ} → ((j : ℕ) → f j ≡ g j) → sum_over js f ≡ sum_over js g
unfolding sum_over
over_ext [] e = refl
over_ext (j ∷ js) e = ap₂ ◌+ℤ◌ (e j) (over_ext js e)

pub over_add : (js : List ℕ) (f g : ℕ → ℤ) → sum_over js (λ j. f j +ℤ g j) ≡ sum_over js f +ℤ sum_over js g
unfolding sum_over
over_add [] f g = refl
over_add (j ∷ js) f g = ap (λ z. f j +ℤ g j +ℤ z) (over_add js f g) ∙ +ℤ_swap4 (f j) (g j) (sum_over js f) (sum_over js g)

pub over-scale : (js : List ℕ) (k : ℤ) (f : ℕ → ℤ) → sum_over js (λ j. k *ℤ f j) ≡ k *ℤ sum_over js f
unfolding sum_over
over-scale [] k f = sym (*ℤ-zero k)
over-scale (j ∷ js) k f = ap (λ z. k *ℤ f j +ℤ z) (over-scale js k f) ∙ sym (mul_addℤ k (f j) (sum_over js f))

pub over-append : (is js : List ℕ) (f : ℕ → ℤ) → sum_over (is ++ js) f ≡ sum_over is f +ℤ sum_over js f
unfolding sum_over
over-append [] js f = sym (+ℤ_idl (sum_over js f))
over-append (i ∷ is) js f = ap (λ z. f i +ℤ z) (over-append is js f) ∙ sym (+ℤ_assoc (f i) (sum_over is f) (sum_over js f))

pub over_mono : (js : List ℕ) {f g : ℕ → ℤ} → ((j : ℕ) → f j ⩽ g j) → sum_over js f ⩽ sum_over js g
unfolding sum_over
over_mono [] e = ≤ℤ_refl (pos 0)
over_mono (j ∷ js) e = +ℤ_mono (e j) (over_mono js e)

pub over_nonneg : (js : List ℕ) {f : ℕ → ℤ} → ((j : ℕ) → pos 0 ⩽ f j) → pos 0 ⩽ sum_over js f
unfolding sum_over
over_nonneg [] e = ≤ℤ_refl (pos 0)
over_nonneg (j ∷ js) e = nonneg_add (e j) (over_nonneg js e)

-- a constant, as often as the list is long
pub over_const : (js : List ℕ) (k : ℤ) → sum_over js (λ j. k) ≡ pos (length js) *ℤ k
unfolding sum_over
over_const [] k = sym (zero-*ℤ k)
over_const (j ∷ js) k =
    ap (λ z. k +ℤ z) (over_const js k) ∙ ring 2 (λ k n. k ⊕ n ⊗ k ≈ (# 1 ⊕ n) ⊗ k) refl k (pos (length js))
    ∙ ap (λ z. z *ℤ k) (sym (pos-suc (length js)))

-- the differences from u add up to the sum less the count times u
pub over_less : (js : List ℕ) (a : ℕ → ℤ) (u : ℤ) → sum_over js (λ j. a j -ℤ u) ≡ sum_over js a -ℤ pos (length js) *ℤ u
over_less js a u = over_add js a (λ j. neg_ℤ u) ∙ ap (λ z. sum_over js a +ℤ z) (over_const js (neg_ℤ u)) ∙
    ring 3 (λ s n u. s ⊕ n ⊗ ⊝ u ≈ s ⊖ n ⊗ u) refl (sum_over js a) (pos (length js)) u

-- Cauchy's inequality: (x₁ + … + x_g)² ≤ g (x₁² + … + x_g²)
spread : (js : List ℕ) (f : ℕ → ℤ) (x : ℤ) → pos 0 ⩽ pos (length js) *ℤ (x *ℤ x) -ℤ pos 2 *ℤ (x *ℤ sum_over js f)
    +ℤ sum_over js (λ j. f j *ℤ f j)
unfolding sum_over
spread [] f x = ≤ℤ_of_eq (ring 1 (λ x. # 0 ≈ # 0 ⊗ (x ⊗ x) ⊖ # 2 ⊗ (x ⊗ # 0) ⊕ # 0) refl x)
spread (j ∷ js) f x =
    lin 6 (λ x y n m s q. 1 *≤ # 0 ⊴ (x ⊖ y) ⊗ (x ⊖ y) ⇒ 1 *≤ # 0 ⊴ n ⊗ (x ⊗ x) ⊖ # 2 ⊗ (x ⊗ s) ⊕ q ⇒ (x ⊗ x) *≈ m ≈ # 1 ⊕ n ⇒ ⊩ # 0
    ⊴ m ⊗ (x ⊗ x) ⊖ # 2 ⊗ (x ⊗ (y ⊕ s)) ⊕ (y ⊗ y ⊕ q)) refl
    x (f j) (pos (length js)) (pos (suc (length js))) (sum_over js f) (sum_over js (λ j. f j *ℤ f j)) (square_nonneg (x -ℤ f j))
    (spread js f x) (pos-suc (length js))

pub cauchy : (js : List ℕ) (f : ℕ → ℤ) → sum_over js f *ℤ sum_over js f ⩽ pos (length js) *ℤ sum_over js (λ j. f j *ℤ f j)
unfolding sum_over
cauchy [] f = ≤ℤ_refl (pos 0)
cauchy (j ∷ js) f =
    lin 5 (λ x n m s q. 1 *≤ s ⊗ s ⊴ n ⊗ q ⇒ 1 *≤ # 0 ⊴ n ⊗ (x ⊗ x) ⊖ # 2 ⊗ (x ⊗ s) ⊕ q ⇒ (x ⊗ x ⊕ q) *≈ m ≈ # 1 ⊕ n ⇒ ⊩ (x ⊕ s) ⊗ (x ⊕ s)
    ⊴ m ⊗ (x ⊗ x ⊕ q)) refl
    (f j) (pos (length js)) (pos (suc (length js))) (sum_over js f) (sum_over js (λ j. f j *ℤ f j)) (cauchy js f) (spread js f (f j))
    (pos-suc (length js))
