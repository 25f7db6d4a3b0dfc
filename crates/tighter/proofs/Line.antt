-- A level along a line that starts from nothing, against the squares of its steps: c 0 = 0 and c (k + 1) = ε·c k + u k with ε² = 1.
-- ε = 1 has u k = c (k + 1) − c k, the differences; ε = −1 has u k = c (k + 1) + c k, the sums.
-- Between fixed ends l steps apart 48·Σ (c k)² ≤ (5l² + 4)·Σ (u k)². A line from a fixed end to a free one is half of one twice as long.
-- Both follow beside an arch, a sequence above 0 between the ends that bends down enough.
use mathlib.Core.Path.{◌≡◌, refl, sym, ap, ap₂, ◌∙◌}
use Prim.Native.Nat.{ℕ, zero, suc, ◌+◌, ◌*◌, ◌≤◌, ◌<◌}
use native.Mathlib.Omega.{arith}
use lib.IntN.{ℤ, pos, ◌+ℤ◌, ◌-ℤ◌, ◌*ℤ◌}
use Rattle.integers.specs.Sum.{sum}
use Rattle.integers.proofs.Ring.{E, #◌, ⊝◌, ◌⊕◌, ◌⊖◌, ◌⊗◌, ◌², ◌≈◌, ring}
use Rattle.integers.proofs.Order.{◌⩽◌, ◌⋖◌, 0≤pos, 0<pos, pos≤, pos-suc, square_nonneg, nonneg_mul, *ℤ_cancel}
use Rattle.integers.proofs.Order.{mul-positive, <ℤ_weaken, le-<ℤ, ≡-≤ℤ, ≤ℤ-≡, sub_nonneg}
use Rattle.integers.proofs.Lin.{◌⊴◌, ◌*≤◌, ◌*⊴◌, ◌*≈◌, ◌⇒◌, ⊩◌, ⊩≈◌, lin}

pub sum-zero : (f : ℕ → ℤ) → sum 0 f ≡ pos 0
unfolding sum
sum-zero f = refl

pub sum-suc : (n : ℕ) (f : ℕ → ℤ) → sum (suc n) f ≡ sum n f +ℤ f n
unfolding sum
sum-suc n f = refl

-- ---- beside an arch

-- v from 0 to L, above 0 between its ends, where it bends down by w/t of itself or more
record Arch (w t : ℤ) (L : ℕ) (v : ℕ → ℤ) : Type 0 where
  t_nonneg : pos 0 ⩽ t
  nonneg : (k : ℕ) → k ≤ L → pos 0 ⩽ v k
  inside : (k : ℕ) → suc k < L → pos 0 ⋖ v (suc k)
  bends : (k : ℕ) → suc k < L → w *ℤ v (suc k) ⩽ t *ℤ (pos 2 *ℤ v (suc k) -ℤ v k -ℤ v (suc (suc k)))

module _ (ε : ℤ) (unit : ε *ℤ ε ≡ pos 1) (c u : ℕ → ℤ) (start : c 0 ≡ pos 0) (walk : (k : ℕ) → c (suc k) ≡ ε *ℤ c k +ℤ u k) where
  abbrev U : ℕ → ℤ
  U k = sum k (λ j. u j *ℤ u j)

  abbrev Q : ℕ → ℤ
  Q k = sum k (λ j. c j *ℤ c j)

  module _ (w t : ℤ) (L : ℕ) (v : ℕ → ℤ) (arch : Arch w t L v) where
    -- t·Σ_{j<k} (u j)² − w·Σ_{j<k} (c j)²
    abbrev A : ℕ → ℤ
    A k = t *ℤ U k -ℤ w *ℤ Q k

    A-suc : (k : ℕ) → let x : ℤ = ε *ℤ c k in let y : ℤ = c (suc k) in
        A (suc k) ≡ A k +ℤ t *ℤ ((y -ℤ x) *ℤ (y -ℤ x)) -ℤ w *ℤ (c k *ℤ c k)
    A-suc k =
        lin 10 (λ w t e x y u s s' q q'.
        t *≈ s' ≈ s ⊕ u ² ⇒ (⊝ w) *≈ q' ≈ q ⊕ x ² ⇒ (⊝ (t ⊗ (y ⊖ e ⊗ x ⊕ u))) *≈ y ≈ e ⊗ x ⊕ u ⇒
        ⊩≈ t ⊗ s' ⊖ w ⊗ q' ≈ t ⊗ s ⊖ w ⊗ q ⊕ t ⊗ (y ⊖ e ⊗ x) ² ⊖ w ⊗ x ²) refl
        w t ε (c k) (c (suc k)) (u k) (U k) (U (suc k)) (Q k) (Q (suc k))
        (sum-suc k (λ j. u j *ℤ u j)) (sum-suc k (λ j. c j *ℤ c j)) (walk k)

    -- t·(v (k + 1) − v k)·(c (k + 1))² ≤ v (k + 1)·A (k + 1)
    abbrev Before : ℕ → Type 0
    Before k = t *ℤ ((v (suc k) -ℤ v k) *ℤ (c (suc k) *ℤ c (suc k))) ⩽ v (suc k) *ℤ A (suc k)

    -- with the step to the next point, from x to y: t·(v (k + 2)·x² − 2·v (k + 1)·x·y + v (k + 1)·y²) ≤ v (k + 1)·A (k + 2)
    abbrev Across : ℕ → Type 0
    Across k = let x : ℤ = ε *ℤ c (suc k) in let y : ℤ = c (suc (suc k)) in
        t *ℤ (v (suc (suc k)) *ℤ (x *ℤ x) -ℤ pos 2 *ℤ (v (suc k) *ℤ (x *ℤ y)) +ℤ v (suc k) *ℤ (y *ℤ y)) ⩽ v (suc k) *ℤ A (suc (suc k))

    -- what is left over is x² times what is left over in `bends`
    step : (k : ℕ) → suc k < L → Before k → Across k
    step k l h =
        lin 10 (λ w t e v₀ v₁ v₂ z y a a'. let x = e ⊗ z in
        1 *≤ t ⊗ ((v₁ ⊖ v₀) ⊗ z ²) ⊴ v₁ ⊗ a ⇒ (z ²) *⊴ w ⊗ v₁ ⊴ t ⊗ (# 2 ⊗ v₁ ⊖ v₀ ⊖ v₂) ⇒ v₁ *≈ a' ≈ a ⊕ t ⊗ (y ⊖ x) ² ⊖ w ⊗ z ² ⇒
        (t ⊗ (v₁ ⊖ v₂) ⊗ z ²) *≈ e ⊗ e ≈ # 1 ⇒
        ⊩ t ⊗ (v₂ ⊗ x ² ⊖ # 2 ⊗ (v₁ ⊗ (x ⊗ y)) ⊕ v₁ ⊗ y ²) ⊴ v₁ ⊗ a') refl
        w t ε (v k) (v (suc k)) (v (suc (suc k))) (c (suc k)) (c (suc (suc k))) (A (suc k)) (A (suc (suc k)))
        h (square_nonneg (c (suc k))) (arch.bends k l) (A-suc (suc k)) unit

    -- multiplied by v (k + 1), what is left over is t·(v (k + 2)·x − v (k + 1)·y)²
    onward : (k : ℕ) → suc k < L → Across k → Before (suc k)
    onward k l h = let x : ℤ = ε *ℤ c (suc k) in let y : ℤ = c (suc (suc k)) in
        *ℤ_cancel (arch.inside k l)
        (lin 6 (λ t v₁ v₂ x y a. v₂ *⊴ t ⊗ (v₂ ⊗ x ² ⊖ # 2 ⊗ (v₁ ⊗ (x ⊗ y)) ⊕ v₁ ⊗ y ²) ⊴ v₁ ⊗ a ⇒
        t *⊴ # 0 ⊴ (v₂ ⊗ x ⊖ v₁ ⊗ y) ² ⇒
        ⊩ v₁ ⊗ (t ⊗ ((v₂ ⊖ v₁) ⊗ y ²)) ⊴ v₁ ⊗ (v₂ ⊗ a)) refl
        t (v (suc k)) (v (suc (suc k))) x y (A (suc (suc k)))
        (arch.nonneg (suc (suc k)) (omega arith)) h arch.t_nonneg (square_nonneg (v (suc (suc k)) *ℤ x -ℤ v (suc k) *ℤ y)))

    beside_arch : (k : ℕ) → suc k < L → Before k
    beside_arch zero l =
        lin 11 (λ w t e x y v₀ v₁ s q a a'. (t ⊗ y ²) *⊴ # 0 ⊴ v₀ ⇒ v₁ *≈ a' ≈ a ⊕ t ⊗ (y ⊖ e ⊗ x) ² ⊖ w ⊗ x ² ⇒ v₁ *≈ a ≈ t ⊗ s ⊖ w ⊗ q ⇒
        (v₁ ⊗ t) *≈ s ≈ # 0 ⇒ (⊝ (v₁ ⊗ w)) *≈ q ≈ # 0 ⇒ (v₁ ⊗ (t ⊗ (e ⊗ (e ⊗ x) ⊖ # 2 ⊗ (e ⊗ y)) ⊖ w ⊗ x)) *≈ x ≈ # 0 ⇒
        ⊩ t ⊗ ((v₁ ⊖ v₀) ⊗ y ²) ⊴ v₁ ⊗ a') refl
        w t ε (c 0) (c 1) (v 0) (v 1) (U 0) (Q 0) (A 0) (A 1)
        (nonneg_mul arch.t_nonneg (square_nonneg (c 1))) (arch.nonneg 0 (omega arith)) (A-suc 0) refl
        (sum-zero (λ j. u j *ℤ u j)) (sum-zero (λ j. c j *ℤ c j)) start
    beside_arch (suc k) l = onward k (omega arith) (step k (omega arith) (beside_arch k (omega arith)))

    -- where c is 0 again
    at-end : (k : ℕ) → suc k < L → c (suc (suc k)) ≡ pos 0 → w *ℤ Q (suc (suc (suc k))) ⩽ t *ℤ U (suc (suc k))
    at-end k l end = lin 6 (λ w t s q q' y. 1 *≤ # 0 ⊴ t ⊗ s ⊖ w ⊗ q ⇒ (⊝ w) *≈ q' ≈ q ⊕ y ² ⇒ (⊝ (w ⊗ y)) *≈ y ≈ # 0 ⇒
        ⊩ w ⊗ q' ⊴ t ⊗ s) refl
        w t (U n) (Q n) (Q (suc n)) (c n) above (sum-suc n (λ j. c j *ℤ c j)) end
      where
        n : ℕ
        n = suc (suc k)

        above : pos 0 ⩽ A n
        above = let x : ℤ = ε *ℤ c (suc k) in
            *ℤ_cancel (arch.inside k l)
            (lin 6 (λ t v₁ v₂ x y a. 1 *≤ t ⊗ (v₂ ⊗ x ² ⊖ # 2 ⊗ (v₁ ⊗ (x ⊗ y)) ⊕ v₁ ⊗ y ²) ⊴ v₁ ⊗ a ⇒ (t ⊗ x ²) *⊴ # 0 ⊴ v₂ ⇒
            (t ⊗ v₁ ⊗ (y ⊖ # 2 ⊗ x)) *≈ y ≈ # 0 ⇒
            ⊩ v₁ ⊗ # 0 ⊴ v₁ ⊗ a) refl
            t (v (suc k)) (v n) x (c n) (A n)
            (step k l (beside_arch k l)) (nonneg_mul arch.t_nonneg (square_nonneg x)) (arch.nonneg n (omega arith)) end)

    -- halfway along an arch that is alike on both sides
    halfway : (k : ℕ) → suc k < L → v k ≡ v (suc (suc k)) → w *ℤ (pos 2 *ℤ Q (suc k) +ℤ c (suc k) *ℤ c (suc k)) ⩽ pos 2 *ℤ (t *ℤ U (suc k))
    halfway k l alike = *ℤ_cancel (arch.inside k l)
        (lin 8 (λ w t v₀ v₁ v₂ y s q. 2 *≤ t ⊗ ((v₁ ⊖ v₀) ⊗ y ²) ⊴ v₁ ⊗ (t ⊗ s ⊖ w ⊗ q) ⇒
        (y ²) *⊴ w ⊗ v₁ ⊴ t ⊗ (# 2 ⊗ v₁ ⊖ v₀ ⊖ v₂) ⇒ (⊝ (t ⊗ y ²)) *≈ v₀ ≈ v₂ ⇒
        ⊩ v₁ ⊗ (w ⊗ (# 2 ⊗ q ⊕ y ²)) ⊴ v₁ ⊗ (# 2 ⊗ (t ⊗ s))) refl
        w t (v k) (v (suc k)) (v (suc (suc k))) (c (suc k)) (U (suc k)) (Q (suc k))
        (beside_arch k l) (square_nonneg (c (suc k))) (arch.bends k l) alike)

-- ---- the arch: v k = p·(p + l² + 1) with p = k·(l − k), whose second difference is −12p

module _ (L : ℕ) where
  abbrev l : ℤ
  l = pos L

  abbrev p : ℤ → ℤ
  p k = k *ℤ (l -ℤ k)

  abbrev v : ℤ → ℤ
  v k = p k *ℤ (p k +ℤ (l *ℤ l +ℤ pos 1))

  abbrev T : ℤ
  T = pos (5 * (L * L) + 4)

  p_nonneg : (k : ℕ) → k ≤ L → pos 0 ⩽ p (pos k)
  p_nonneg k h = nonneg_mul (0≤pos k) (sub_nonneg (pos≤ h))

  more : (k : ℕ) → k ≤ L → pos 0 ⋖ p (pos k) +ℤ (l *ℤ l +ℤ pos 1)
  more k h = le-<ℤ (lin 2 (λ p l. 1 *≤ # 0 ⊴ p ⇒ 1 *≤ # 0 ⊴ l ² ⇒ ⊩ # 0 ⊕ # 1 ⊴ p ⊕ (l ² ⊕ # 1)) refl
      (p (pos k)) l (p_nonneg k h) (square_nonneg l))

  room : (k : ℕ) → k < L → pos 0 ⋖ l -ℤ pos k
  room k h = le-<ℤ (lin 2 (λ l k. 1 *≤ # 1 ⊕ k ⊴ l ⇒ ⊩ # 0 ⊕ # 1 ⊴ l ⊖ k) refl l (pos k) (≡-≤ℤ (sym (pos-suc k)) (pos≤ h)))

  -- what is left over is 12p·(l − 2k)²
  bends_at : (k : ℤ) → pos 0 ⩽ p k → pos 48 *ℤ v k ⩽ T *ℤ (pos 2 *ℤ v k -ℤ v (k -ℤ pos 1) -ℤ v (pos 1 +ℤ k))
  bends_at k h = lin 2 (λ l k. let v : E → E = λ k. k ⊗ (l ⊖ k) ⊗ (k ⊗ (l ⊖ k) ⊕ (l ² ⊕ # 1)) in
      (# 12 ⊗ (k ⊗ (l ⊖ k))) *⊴ # 0 ⊴ (l ⊖ # 2 ⊗ k) ² ⇒
      ⊩ # 48 ⊗ v k ⊴ (# 5 ⊗ l ² ⊕ # 4) ⊗ (# 2 ⊗ v k ⊖ v (k ⊖ # 1) ⊖ v (# 1 ⊕ k))) refl
      l k (nonneg_mul (0≤pos 12) h) (square_nonneg (l -ℤ pos 2 *ℤ k))

  pos_pred : (k : ℕ) → pos (suc k) -ℤ pos 1 ≡ pos k
  pos_pred k = ap (λ z. z -ℤ pos 1) (pos-suc k) ∙ ring 1 (λ k. # 1 ⊕ k ⊖ # 1 ≈ k) refl (pos k)

  arch : Arch (pos 48) T L (λ k. v (pos k))
  arch = record {
    t_nonneg = 0≤pos (5 * (L * L) + 4);
    nonneg = λ k h. nonneg_mul (p_nonneg k h) (<ℤ_weaken (more k h));
    inside = λ k h. mul-positive (mul-positive (0<pos k) (room (suc k) h)) (more (suc k) (omega arith));
    bends = λ k h. ≤ℤ-≡ (bends_at (pos (suc k)) (p_nonneg (suc k) (omega arith)))
        (ap₂ (λ x y. T *ℤ (pos 2 *ℤ v (pos (suc k)) -ℤ v x -ℤ v y)) (pos_pred k) (sym (pos-suc (suc k))));
  }

-- ---- a line with a fixed end

module _ (ε : ℤ) (unit : ε *ℤ ε ≡ pos 1) (c u : ℕ → ℤ) (start : c 0 ≡ pos 0) (walk : (k : ℕ) → c (suc k) ≡ ε *ℤ c k +ℤ u k) where
  -- both ends fixed, m + 2 steps apart
  pub both_ends_lem : (m : ℕ) → c (suc (suc m)) ≡ pos 0 → let l : ℕ = suc (suc m) in
      pos 48 *ℤ sum (suc l) (λ k. c k *ℤ c k) ⩽ pos (5 * (l * l) + 4) *ℤ sum l (λ k. u k *ℤ u k)
  both_ends_lem m end = let l : ℕ = suc (suc m) in at-end ε unit c u start walk (pos 48) (T l) l (λ k. v l (pos k)) (arch l) m
      (omega arith) end

  -- the last, m + 1 steps away, free: its square counts half
  pub one_end : (m : ℕ) → let l : ℕ = suc m in pos 24 *ℤ (pos 2 *ℤ sum l (λ k. c k *ℤ c k) +ℤ c l *ℤ c l)
      ⩽ pos (5 * (2 * l * (2 * l)) + 4) *ℤ sum l (λ k. u k *ℤ u k)
  one_end m = let l : ℕ = suc m in let t : ℤ = pos (5 * (2 * l * (2 * l)) + 4) in
      *ℤ_cancel (0<pos 1) (lin 3 (λ x t s. 1 *≤ # 48 ⊗ x ⊴ # 2 ⊗ (t ⊗ s) ⇒ ⊩ # 2 ⊗ (# 24 ⊗ x) ⊴ # 2 ⊗ (t ⊗ s)) refl
      (pos 2 *ℤ sum l (λ k. c k *ℤ c k) +ℤ c l *ℤ c l) t (sum l (λ k. u k *ℤ u k))
      (halfway ε unit c u start walk (pos 48) t (2 * l) (λ k. v (2 * l) (pos k)) (arch (2 * l)) m (omega arith) alike))
    where
      alike : v (2 * suc m) (pos m) ≡ v (2 * suc m) (pos (suc (suc m)))
      alike = ap (λ (p : ℤ). p *ℤ (p +ℤ (pos (2 * suc m) *ℤ pos (2 * suc m) +ℤ pos 1)))
          (lin 3 (λ x y z. (x ⊖ z) *≈ y ≈ # 1 ⊕ x ⇒ (z ⊖ x) *≈ z ≈ # 1 ⊕ y ⇒ ⊩≈ x ⊗ (# 2 ⊗ y ⊖ x) ≈ z ⊗ (# 2 ⊗ y ⊖ z)) refl
          (pos m) (pos (suc m)) (pos (suc (suc m))) (pos-suc m) (pos-suc (suc m)))
