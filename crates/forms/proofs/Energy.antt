-- The energy of a two-level scheme, over symmetric bilinear forms: E(a,b) = U(a,a) + W(b,b) − S(a,b) of newer a and older b.
-- G measures a level, U and W stand in the place of D·G, and S is the form by which the scheme steps.
use mathlib.Core.Path.{◌≡◌, refl, sym, ap, ap₂, ◌∙◌}
use mathlib.Core.Bool.{Bool}
use Prim.Native.Nat.{ℕ, zero, suc}
use native.Mathlib.Numerals.{add-one}
use lib.IntN.{ℤ, pos, neg_ℤ, ◌+ℤ◌, ◌-ℤ◌, ◌*ℤ◌}
use Rattle.integers.proofs.Ring.{#◌, ⊝◌, ◌⊕◌, ◌⊖◌, ◌⊗◌, ◌≈◌, ring}
use Rattle.integers.proofs.Order.{◌⩽◌, ◌⋖◌, square_nonneg, nonneg_add, nonneg_mul, mul-positive, *ℤ_cancel, 0<pos, <ℤ_weaken, ≡-≤ℤ, ≤ℤ-≡}
use Rattle.integers.proofs.Lin.{◌⊴◌, ◌*≤◌, ◌*⊴◌, ◌*≈◌, ◌⇒◌, ⊩◌, ⊩≈◌, lin, at_most_zero}
use Rattle.forms.proofs.Level.{Level, ◌⊞◌, ◌⊡◌, Still}
use Rattle.forms.proofs.Form.{Form, scale-right, scale-both, square-sum, square_combination}

abbrev pub energy : (U W S : Level → Level → ℤ) → Level → Level → ℤ
energy U W S a b = U a a +ℤ W b b -ℤ S a b

-- the three parts replaced
pub parts : {v v' w w' s s' : ℤ} → v ≡ v' → w ≡ w' → s ≡ s' → v +ℤ w -ℤ s ≡ v' +ℤ w' -ℤ s'
parts p q r = λ i. p i +ℤ q i -ℤ r i

-- ---- an energy that is never negative

module _ {U W S : Level → Level → ℤ} (FV : Form U) (FW : Form W) (FS : Form S) (nonneg : (a b : Level) → pos 0 ⩽ energy U W S a b) where
  U_nonneg : (y : Level) → pos 0 ⩽ U y y
  U_nonneg y = ≤ℤ-≡ (nonneg y (pos 0 ⊡ y)) (parts {v = U y y} refl (scale-both FW (pos 0) (pos 0) y y) (scale-right FS (pos 0) y y) ∙
      ring 3 (λ v w s. v ⊕ # 0 ⊗ (# 0 ⊗ w) ⊖ # 0 ⊗ s ≈ v) refl (U y y) (W y y) (S y y))

  W_nonneg : (z : Level) → pos 0 ⩽ W z z
  W_nonneg z = ≤ℤ-≡ (nonneg (pos 0 ⊡ z) z) (parts {w = W z z} (scale-both FV (pos 0) (pos 0) z z) refl (FS.scale (pos 0) z z) ∙
      ring 3 (λ v w s. # 0 ⊗ (# 0 ⊗ v) ⊕ w ⊖ # 0 ⊗ s ≈ w) refl (U z z) (W z z) (S z z))

  -- twice the energy of (x,z) against (y,0)
  abbrev cross : Level → Level → Level → ℤ
  cross x z y = pos 2 *ℤ U x y -ℤ S y z

  energy_plus : (x z y : Level) → energy U W S (x ⊞ y) z ≡ energy U W S x z +ℤ U y y +ℤ cross x z y
  energy_plus x z y = parts {w = W z z} (square-sum FV x y) refl (FS.add x y z) ∙
      ring 6 (λ a b c w s t. (a ⊕ # 2 ⊗ b ⊕ c) ⊕ w ⊖ (s ⊕ t) ≈ (a ⊕ w ⊖ s) ⊕ c ⊕ (# 2 ⊗ b ⊖ t)) refl (U x x) (U x y) (U y y) (W z z) (S x z)
      (S y z)

  energy_combination : (k l : ℤ) (x z y : Level) → energy U W S ((k ⊡ x) ⊞ (l ⊡ y)) (k ⊡ z) ≡ k *ℤ k *ℤ energy U W S x z +ℤ l *ℤ l *ℤ U y y
      +ℤ k *ℤ l *ℤ cross x z y
  energy_combination k l x z y =
      parts (square_combination FV k l x y) (scale-both FW k k z z)
      (FS.add (k ⊡ x) (l ⊡ y) (k ⊡ z) ∙ ap₂ ◌+ℤ◌ (scale-both FS k k x z) (scale-both FS l k y z)) ∙
      ring 8 (λ k l a b c w s t. (k ⊗ (k ⊗ a) ⊕ # 2 ⊗ (k ⊗ (l ⊗ b)) ⊕ l ⊗ (l ⊗ c)) ⊕ k ⊗ (k ⊗ w) ⊖ (k ⊗ (k ⊗ s) ⊕ l ⊗ (k ⊗ t))
      ≈ k ⊗ k ⊗ (a ⊕ w ⊖ s) ⊕ l ⊗ l ⊗ c ⊕ k ⊗ l ⊗ (# 2 ⊗ b ⊖ t)) refl
      k l (U x x) (U x y) (U y y) (W z z) (S x z) (S y z)

  module _ {c : ℤ} (c_pos : pos 0 ⋖ c) (K : ℤ) (x z y : Level) where
    -- the triangle inequality, with no root: from 0 ≤ E(βx − αy, βz)
    pub triangle : {α β : ℤ} → pos 0 ⋖ α → pos 0 ⋖ β → c *ℤ energy U W S x z ⩽ K *ℤ (α *ℤ α) → c *ℤ U y y ⩽ K *ℤ (β *ℤ β)
        → c *ℤ energy U W S (x ⊞ y) z ⩽ K *ℤ ((α +ℤ β) *ℤ (α +ℤ β))
    triangle {α} {β} hα hβ hx hy =
        let nα = <ℤ_weaken hα in
        let nβ = <ℤ_weaken hβ in
        ≡-≤ℤ (ap (λ e. c *ℤ e) (energy_plus x z y))
        (*ℤ_cancel (mul-positive hα hβ)
        (lin 7 (λ c K α β e v m. c *⊴ # 0 ⊴ β ⊗ β ⊗ e ⊕ (⊝ α) ⊗ (⊝ α) ⊗ v ⊕ β ⊗ (⊝ α) ⊗ m ⇒ (β ⊗ (α ⊕ β)) *⊴ c ⊗ e ⊴ K ⊗ (α ⊗ α)
        ⇒ (α ⊗ (α ⊕ β)) *⊴ c ⊗ v ⊴ K ⊗ (β ⊗ β) ⇒
        ⊩ α ⊗ β ⊗ (c ⊗ (e ⊕ v ⊕ m)) ⊴ α ⊗ β ⊗ (K ⊗ ((α ⊕ β) ⊗ (α ⊕ β)))) refl
        c K α β (energy U W S x z) (U y y) (cross x z y)
        (<ℤ_weaken c_pos) (≤ℤ-≡ (nonneg ((β ⊡ x) ⊞ (neg_ℤ α ⊡ y)) (β ⊡ z)) (energy_combination β (neg_ℤ α) x z y))
        (nonneg_mul nβ (nonneg_add nα nβ)) hx (nonneg_mul nα (nonneg_add nα nβ)) hy))

    -- the same where α is 0: from 0 ≤ E(kx − y, kz) for one large k
    pub triangle_zero : c *ℤ energy U W S x z ⩽ pos 0 → c *ℤ U y y ⩽ K → c *ℤ energy U W S (x ⊞ y) z ⩽ K
    triangle_zero hx hy =
        let k : ℤ = U y y +ℤ pos 1 in
        let e : energy U W S x z ⩽ pos 0 = *ℤ_cancel c_pos
        (lin 2 (λ c e. 1 *≤ c ⊗ e ⊴ # 0 ⇒ ⊩ c ⊗ e ⊴ c ⊗ # 0) refl c (energy U W S x z) hx) in
        let m : cross x z y ⩽ pos 0 = at_most_zero (cross x z y) (U y y) (U_nonneg y)
        (lin 4 (λ k e v m. 1 *≤ # 0 ⊴ k ⊗ k ⊗ e ⊕ (⊝ # 1) ⊗ (⊝ # 1) ⊗ v ⊕ k ⊗ (⊝ # 1) ⊗ m ⇒ (k ⊗ k) *⊴ e ⊴ # 0 ⇒ ⊩ k ⊗ m ⊴ v) refl
        k (energy U W S x z) (U y y) (cross x z y) (≤ℤ-≡ (nonneg ((k ⊡ x) ⊞ (neg_ℤ (pos 1) ⊡ y)) (k ⊡ z))
        (energy_combination k (neg_ℤ (pos 1)) x z y)) (square_nonneg k) e) in
        ≡-≤ℤ (ap (λ e. c *ℤ e) (energy_plus x z y))
        (lin 5 (λ c K e v m. 1 *≤ c ⊗ v ⊴ K ⇒ c *⊴ e ⊴ # 0 ⇒ c *⊴ m ⊴ # 0 ⇒ ⊩ c ⊗ (e ⊕ v ⊕ m) ⊴ K) refl
        c K (energy U W S x z) (U y y) (cross x z y) hy (<ℤ_weaken c_pos) e (<ℤ_weaken c_pos) m)

  -- one more part of at most 1
  pub triangle_step : {c : ℤ} → pos 0 ⋖ c → (K : ℤ) (x z y : Level) (n : ℕ) → c *ℤ energy U W S x z ⩽ K *ℤ (pos n *ℤ pos n) → c *ℤ U y y ⩽ K
      *ℤ (pos 1 *ℤ pos 1)
      → c *ℤ energy U W S (x ⊞ y) z ⩽ K *ℤ (pos (suc n) *ℤ pos (suc n))
  triangle_step c_pos K x z y zero hx hy = triangle_zero c_pos (K *ℤ (pos 1 *ℤ pos 1)) x z y
      (≤ℤ-≡ hx (ring 1 (λ k. k ⊗ (# 0 ⊗ # 0) ≈ # 0) refl K)) hy
  triangle_step c_pos K x z y (suc m) hx hy =
      ≤ℤ-≡ (triangle c_pos K x z y {α = pos (suc m)} {β = pos 1} (0<pos m) (0<pos 0) hx hy)
      (ap (λ k. K *ℤ (pos k *ℤ pos k)) (add-one (suc m)))

  module _ {c : ℤ} (c_pos : pos 0 ⋖ c) (K : ℤ) (a b : Level) where
    -- a level from the energy and the level before it: from 0 ≤ E(γa, (κ+γ)b)
    pub norm : {κ γ : ℤ} → pos 0 ⋖ κ → pos 0 ⋖ γ → c *ℤ energy U W S a b ⩽ K *ℤ (κ *ℤ κ) → c *ℤ W b b ⩽ K *ℤ (γ *ℤ γ)
        → c *ℤ U a a ⩽ K *ℤ ((κ +ℤ γ) *ℤ (κ +ℤ γ))
    norm {κ} {γ} hκ hγ he hb =
        let nκ = <ℤ_weaken hκ in
        let nγ = <ℤ_weaken hγ in
        let l : ℤ = κ +ℤ γ in
        *ℤ_cancel (mul-positive hκ hγ)
        (lin 7 (λ c K κ γ v w s. c *⊴ # 0 ⊴ γ ⊗ (γ ⊗ v) ⊕ (κ ⊕ γ) ⊗ ((κ ⊕ γ) ⊗ w) ⊖ γ ⊗ ((κ ⊕ γ) ⊗ s) ⇒
        (γ ⊗ (κ ⊕ γ)) *⊴ c ⊗ (v ⊕ w ⊖ s) ⊴ K ⊗ (κ ⊗ κ) ⇒ (κ ⊗ (κ ⊕ γ)) *⊴ c ⊗ w ⊴ K ⊗ (γ ⊗ γ) ⇒
        ⊩ κ ⊗ γ ⊗ (c ⊗ v) ⊴ κ ⊗ γ ⊗ (K ⊗ ((κ ⊕ γ) ⊗ (κ ⊕ γ)))) refl
        c K κ γ (U a a) (W b b) (S a b)
        (<ℤ_weaken c_pos) (≤ℤ-≡ (nonneg (γ ⊡ a) (l ⊡ b)) (parts (scale-both FV γ γ a a) (scale-both FW l l b b) (scale-both FS γ l a b)))
        (nonneg_mul nγ (nonneg_add nκ nγ)) he (nonneg_mul nκ (nonneg_add nκ nγ)) hb)

    -- the same where γ is 0: from 0 ≤ E(a, kb) for one large k
    pub norm-zero : c *ℤ energy U W S a b ⩽ K → c *ℤ W b b ⩽ pos 0 → c *ℤ U a a ⩽ K
    norm-zero he hb =
        let k : ℤ = U a a +ℤ pos 1 in
        let w : W b b ⩽ pos 0 = *ℤ_cancel c_pos (lin 2 (λ c w. 1 *≤ c ⊗ w ⊴ # 0 ⇒ ⊩ c ⊗ w ⊴ c ⊗ # 0) refl c (W b b) hb) in
        let s : S a b ⩽ pos 0 = at_most_zero (S a b) (U a a) (U_nonneg a)
        (lin 4 (λ k v w s. 1 *≤ # 0 ⊴ v ⊕ k ⊗ (k ⊗ w) ⊖ k ⊗ s ⇒ (k ⊗ k) *⊴ w ⊴ # 0 ⇒ ⊩ k ⊗ s ⊴ v) refl
        k (U a a) (W b b) (S a b) (≤ℤ-≡ (nonneg a (k ⊡ b)) (parts {v = U a a} refl (scale-both FW k k b b) (scale-right FS k a b)))
        (square_nonneg k) w) in
        lin 5 (λ c K v w s. 1 *≤ c ⊗ (v ⊕ w ⊖ s) ⊴ K ⇒ c *⊴ s ⊴ # 0 ⇒ c *⊴ # 0 ⊴ w ⇒ ⊩ c ⊗ v ⊴ K) refl
        c K (U a a) (W b b) (S a b) he (<ℤ_weaken c_pos) s (<ℤ_weaken c_pos) (W_nonneg b)

-- ---- a scheme, known by its forms

-- `next a b` is d times the next level without a hit, 0 where nothing moves; U = D·G and d = D + s is a scheme with loss s
pub record Scheme : Type 0 where
  pub moving : ℕ → Bool
  pub G : Level → Level → ℤ
  pub U : Level → Level → ℤ
  pub S : Level → Level → ℤ
  pub d : ℤ
  pub next : Level → Level → Level
  pub G_form : Form G
  pub U_form : Form U
  pub S_form : Form S
  pub inside : (a b : Level) → Still moving (next a b)
  pub law : (a b c : Level) → Still moving c → G (next a b) c ≡ S a c -ℤ (pos 2 *ℤ U b c -ℤ d *ℤ G b c)
  pub lossy : (c : Level) → U c c ⩽ d *ℤ G c c
  pub nonneg : (a b : Level) → pos 0 ⩽ energy U U S a b

module _ (T : Scheme) where
  abbrev pub E : Level → Level → ℤ
  E = energy T.U T.U T.S

  -- what a step moves beyond d times the older level
  abbrev pub moved : Level → Level → Level
  moved a b = T.next a b ⊞ (neg_ℤ T.d ⊡ b)

  square-moved : {B : Level → Level → ℤ} → Form B → (a b : Level) → let n : Level = T.next a b in
      B (moved a b) (moved a b) ≡ B n n -ℤ pos 2 *ℤ T.d *ℤ B n b +ℤ T.d *ℤ T.d *ℤ B b b
  square-moved {B} F a b = let n : Level = T.next a b in
      square-sum F n (neg_ℤ T.d ⊡ b) ∙ (λ i. B n n +ℤ pos 2 *ℤ scale-right F (neg_ℤ T.d) n b i
      +ℤ scale-both F (neg_ℤ T.d) (neg_ℤ T.d) b b i) ∙
      ring 4 (λ d x y z. x ⊕ # 2 ⊗ ((⊝ d) ⊗ y) ⊕ (⊝ d) ⊗ ((⊝ d) ⊗ z) ≈ x ⊖ # 2 ⊗ d ⊗ y ⊕ d ⊗ d ⊗ z) refl T.d (B n n) (B n b) (B b b)

  -- the balance of energy over a step: what is lost is d·G − U of what is moved
  pub balance : (a b : Level) → Still T.moving b
      → E (T.next a b) (T.d ⊡ a) ≡ T.d *ℤ T.d *ℤ E a b -ℤ (T.d *ℤ T.G (moved a b) (moved a b) -ℤ T.U (moved a b) (moved a b))
  balance a b sb =
      let n : Level = T.next a b in
      let d : ℤ = T.d in
      let h₁ : T.G n n ≡ T.S a n -ℤ (pos 2 *ℤ T.U n b -ℤ d *ℤ T.G n b) =
      T.law a b n (T.inside a b) ∙ ap₂ (λ x y. T.S a n -ℤ (pos 2 *ℤ x -ℤ d *ℤ y)) (T.U_form.symm b n) (T.G_form.symm b n) in
      let h₂ : T.G n b ≡ T.S a b -ℤ (pos 2 *ℤ T.U b b -ℤ d *ℤ T.G b b) = T.law a b b sb in
      parts {v = T.U n n} refl (scale-both T.U_form d d a a) (T.S_form.symm n (d ⊡ a) ∙ T.S_form.scale d a n) ∙
      lin 10 (λ d vnn vaa vbb vnb gnn gnb gbb san sab. d *≈ gnn ≈ san ⊖ (# 2 ⊗ vnb ⊖ d ⊗ gnb) ⇒ (⊝ (d ⊗ d)) *≈ gnb
      ≈ sab ⊖ (# 2 ⊗ vbb ⊖ d ⊗ gbb) ⇒
      ⊩≈ vnn ⊕ d ⊗ (d ⊗ vaa) ⊖ d ⊗ san ≈ d ⊗ d ⊗ (vaa ⊕ vbb ⊖ sab) ⊖
      (d ⊗ (gnn ⊖ # 2 ⊗ d ⊗ gnb ⊕ d ⊗ d ⊗ gbb) ⊖ (vnn ⊖ # 2 ⊗ d ⊗ vnb ⊕ d ⊗ d ⊗ vbb))) refl
      d (T.U n n) (T.U a a) (T.U b b) (T.U n b) (T.G n n) (T.G n b) (T.G b b) (T.S a n) (T.S a b) h₁ h₂ ∙
      ap₂ (λ x y. d *ℤ d *ℤ E a b -ℤ (d *ℤ x -ℤ y)) (sym (square-moved T.G_form a b)) (sym (square-moved T.U_form a b))

  pub never_raised : (a b : Level) → Still T.moving b → E (T.next a b) (T.d ⊡ a) ⩽ T.d *ℤ T.d *ℤ E a b
  never_raised a b sb = ≡-≤ℤ (balance a b sb)
      (lin 3 (λ x g v. 1 *≤ v ⊴ g ⇒ ⊩ x ⊖ (g ⊖ v) ⊴ x) refl (T.d *ℤ T.d *ℤ E a b) (T.d *ℤ T.G (moved a b) (moved a b))
      (T.U (moved a b) (moved a b)) (T.lossy (moved a b)))

  pub kept : ((c : Level) → T.U c c ≡ T.d *ℤ T.G c c) → (a b : Level) → Still T.moving b → E (T.next a b) (T.d ⊡ a) ≡ T.d *ℤ T.d
      *ℤ E a b
  kept lossless a b sb = balance a b sb ∙
      lin 3 (λ x g v. # 1 *≈ v ≈ g ⇒ ⊩≈ x ⊖ (g ⊖ v) ≈ x) refl (T.d *ℤ T.d *ℤ E a b) (T.d *ℤ T.G (moved a b) (moved a b))
      (T.U (moved a b) (moved a b)) (lossless (moved a b))
