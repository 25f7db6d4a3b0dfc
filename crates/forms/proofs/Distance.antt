-- How far rounding takes a scheme in n steps.
-- X and Y are newer and older less their unrounded values, held times p = dⁿ; a step adds p times what it rounds off, r.
use mathlib.Core.Path.{◌≡◌, refl, ap, ◌∙◌}
use Prim.Native.Nat.{ℕ, zero, suc, ◌+◌, ◌*◌}
use native.Mathlib.Nat as N
use native.Mathlib.Omega.{arith}
use lib.IntN.{ℤ, pos, ◌+ℤ◌, ◌-ℤ◌, ◌*ℤ◌}
use Rattle.integers.proofs.Ring.{#◌, ◌⊕◌, ◌⊖◌, ◌⊗◌, ◌≈◌, ring}
use Rattle.integers.proofs.Order.{◌⩽◌, 0<pos, pos<, square_nonneg, mul-positive, ≡-≤ℤ, ≤ℤ-≡, ≤ℤ_of_eq}
use Rattle.integers.proofs.Lin.{◌⊴◌, ◌*≤◌, ◌*⊴◌, ◌⇒◌, ⊩◌, lin}
use Rattle.forms.proofs.Level.{Level, ◌⊞◌, ◌⊡◌, zeros, Still, still-zeros, still-add, still-scale}
use Rattle.forms.proofs.Form.{scale-both}
use Rattle.forms.proofs.Energy.{Scheme, E, never_raised, triangle_step, norm, norm-zero}

-- after n steps; K bounds what a step rounds off: 4·U(r,r) ≤ K·d²
pub record ErrorsNear (T : Scheme) (K : ℤ) (n : ℕ) (p : ℤ) (X Y : Level) : Type 0 where
  pub X_still : Still T.moving X
  pub Y_still : Still T.moving Y
  pub by_energy : pos 4 *ℤ E T X Y ⩽ K *ℤ (p *ℤ p) *ℤ (pos n *ℤ pos n)
  pub by_level : pos 16 *ℤ T.U X X ⩽ K *ℤ (p *ℤ p) *ℤ (pos (n * suc n) *ℤ pos (n * suc n))

module _ (T : Scheme) (K : ℤ) where
  abbrev U : Level → Level → ℤ
  U = T.U

  abbrev d : ℤ
  d = T.d

  -- before the first step
  pub near_start : (p : ℤ) → ErrorsNear T K 0 p zeros zeros
  near_start p =
      let v : U zeros zeros ≡ pos 0 *ℤ U zeros zeros = T.U_form.scale (pos 0) zeros zeros in
      let s : T.S zeros zeros ≡ pos 0 *ℤ T.S zeros zeros = T.S_form.scale (pos 0) zeros zeros in
      record {
        X_still = still-zeros;
        Y_still = still-zeros;
        by_energy = ≤ℤ_of_eq ((λ i. pos 4 *ℤ (v i +ℤ v i -ℤ s i))
            ∙ ring 3 (λ v s k. # 4 ⊗ (# 0 ⊗ v ⊕ # 0 ⊗ v ⊖ # 0 ⊗ s) ≈ k ⊗ (# 0 ⊗ # 0)) refl (U zeros zeros) (T.S zeros zeros)
            (K *ℤ (p *ℤ p)));
        by_level = ≤ℤ_of_eq ((λ i. pos 16 *ℤ v i) ∙ ring 2 (λ v k. # 16 ⊗ (# 0 ⊗ v) ≈ k ⊗ (# 0 ⊗ # 0)) refl (U zeros zeros)
            (K *ℤ (p *ℤ p)));
      }

  module _ {n : ℕ} {p : ℤ} {X Y r : Level} (now : ErrorsNear T K n p X Y) (r-still : Still T.moving r)
      (r_small : pos 4 *ℤ U r r ⩽ K *ℤ (d *ℤ d)) where
    abbrev X' : Level
    X' = T.next X Y ⊞ (p ⊡ r)

    abbrev K' : ℤ
    K' = K *ℤ ((p *ℤ d) *ℤ (p *ℤ d))

    -- the unrounded step of the errors
    stepped : pos 4 *ℤ E T (T.next X Y) (d ⊡ X) ⩽ K' *ℤ (pos n *ℤ pos n)
    stepped = lin 6 (λ d K p n e e'. 4 *≤ e' ⊴ d ⊗ d ⊗ e ⇒ (d ⊗ d) *⊴ # 4 ⊗ e ⊴ K ⊗ (p ⊗ p) ⊗ (n ⊗ n) ⇒ ⊩ # 4 ⊗ e'
        ⊴ K ⊗ ((p ⊗ d) ⊗ (p ⊗ d)) ⊗ (n ⊗ n)) refl
        d K p (pos n) (E T X Y) (E T (T.next X Y) (d ⊡ X)) (never_raised T X Y now.Y_still) (square_nonneg d) now.by_energy

    -- what is rounded off
    off : pos 4 *ℤ U (p ⊡ r) (p ⊡ r) ⩽ K' *ℤ (pos 1 *ℤ pos 1)
    off = ≡-≤ℤ (ap (λ v. pos 4 *ℤ v) (scale-both T.U_form p p r r))
        (lin 4 (λ d K p v. (p ⊗ p) *⊴ # 4 ⊗ v ⊴ K ⊗ (d ⊗ d) ⇒ ⊩ # 4 ⊗ (p ⊗ (p ⊗ v)) ⊴ K ⊗ ((p ⊗ d) ⊗ (p ⊗ d)) ⊗ (# 1 ⊗ # 1)) refl d K p
        (U r r) (square_nonneg p) r_small)

    -- the level before
    before : pos 16 *ℤ U (d ⊡ X) (d ⊡ X) ⩽ K' *ℤ (pos (n * suc n) *ℤ pos (n * suc n))
    before = ≡-≤ℤ (ap (λ v. pos 16 *ℤ v) (scale-both T.U_form d d X X))
        (lin 5 (λ d K p m v. (d ⊗ d) *⊴ # 16 ⊗ v ⊴ K ⊗ (p ⊗ p) ⊗ (m ⊗ m) ⇒ ⊩ # 16 ⊗ (d ⊗ (d ⊗ v)) ⊴ K ⊗ ((p ⊗ d) ⊗ (p ⊗ d)) ⊗ (m ⊗ m)) refl
        d K p (pos (n * suc n)) (U X X) (square_nonneg d) now.by_level)

    next-energy : pos 4 *ℤ E T X' (d ⊡ X) ⩽ K' *ℤ (pos (suc n) *ℤ pos (suc n))
    next-energy = triangle_step T.U_form T.U_form T.S_form T.nonneg (0<pos 3) K' (T.next X Y) (d ⊡ X) (p ⊡ r) n stepped off

    next_level_lem : pos 16 *ℤ U X' X' ⩽ K' *ℤ (pos (suc n * suc (suc n)) *ℤ pos (suc n * suc (suc n)))
    next_level_lem = go n before (lin 3 (λ e k u. 4 *≤ # 4 ⊗ e ⊴ k ⊗ (u ⊗ u) ⇒ ⊩ # 16 ⊗ e ⊴ k ⊗ ((# 2 ⊗ u) ⊗ (# 2 ⊗ u))) refl
        (E T X' (d ⊡ X))
        K' (pos (suc n)) next-energy)
      where
        widen : (n : ℕ) → 2 * suc n + n * suc n ≡ suc n * suc (suc n)
        widen n = omega arith

        go : (n : ℕ) → pos 16 *ℤ U (d ⊡ X) (d ⊡ X) ⩽ K' *ℤ (pos (n * suc n) *ℤ pos (n * suc n)) → pos 16 *ℤ E T X' (d ⊡ X) ⩽ K'
            *ℤ ((pos 2 *ℤ pos (suc n)) *ℤ (pos 2 *ℤ pos (suc n)))
            → pos 16 *ℤ U X' X' ⩽ K' *ℤ (pos (suc n * suc (suc n)) *ℤ pos (suc n * suc (suc n)))
        go zero hb he = norm-zero T.U_form T.U_form T.S_form T.nonneg (0<pos 15) (K' *ℤ ((pos 2 *ℤ pos 1) *ℤ (pos 2 *ℤ pos 1)))
            X' (d ⊡ X) he (≤ℤ-≡ hb (ring 1 (λ k. k ⊗ (# 0 ⊗ # 0) ≈ # 0) refl K'))
        go (suc m) hb he = ≤ℤ-≡
            (norm T.U_form T.U_form T.S_form T.nonneg (0<pos 15) K' X' (d ⊡ X) {κ = pos 2 *ℤ pos (suc (suc m))}
            {γ = pos (suc m * suc (suc m))}
            (mul-positive (0<pos 1) (0<pos (suc m))) (pos< (N.mul-pos (N.zero-lt-suc m) (N.zero-lt-suc (suc m)))) he hb)
            (ap (λ k. K' *ℤ (pos k *ℤ pos k)) (widen (suc m)))

    -- one step more
    pub near_step : ErrorsNear T K (suc n) (p *ℤ d) X' (d ⊡ X)
    near_step = record {
      X_still = still-add (T.inside X Y) (still-scale p r-still);
      Y_still = still-scale d now.X_still;
      by_energy = next-energy;
      by_level = next_level_lem;
    }
