-- A scheme of tension S and loss s, d = D + s and e = D − s, as a step of forms: three forms that its steps do not raise.
-- The energy D·G(a,a) + D·G(b,b) − S(a,b). Where the loss is light, d·G(a,a) + e·G(b,b) − S(a,b), which shrinks by d·e exactly.
-- For any loss (d·D + s²)·G(a,a) + (e·D + s²)·G(b,b) − D·S(a,b), which bounds s²·G(a,a), and shrinks where the loss is heavy.
use mathlib.Core.Path.{◌≡◌, refl, sym, ap, ap₂, ◌∙◌}
use mathlib.Core.Bool.{Bool}
use Prim.Native.Nat.{ℕ}
use lib.IntN.{ℤ, pos, neg_ℤ, ◌+ℤ◌, ◌-ℤ◌, ◌*ℤ◌}
use Rattle.integers.proofs.Ring.{#◌, ⊝◌, ◌⊕◌, ◌⊖◌, ◌⊗◌, ◌², ◌≈◌, ring}
use Rattle.integers.proofs.Order.{◌⩽◌, ◌⋖◌, 0≤pos, 0<pos, square_nonneg, nonneg_add, nonneg_mul, sub_nonneg, *ℤ_cancel, mul-positive, <ℤ_le}
use Rattle.integers.proofs.Order.{le-<ℤ, <ℤ_weaken, ≡-≤ℤ, ≤ℤ-≡}
use Rattle.integers.proofs.Lin.{◌⊴◌, ◌*≤◌, ◌*⊴◌, ◌*≈◌, ◌⇒◌, ⊩◌, ⊩≈◌, lin}
use Rattle.forms.proofs.Level.{Level, ◌⊞◌, ◌⊡◌, Still, still-add, still-scale}
use Rattle.forms.proofs.Form.{Form, times, scale-both, square_combination}
use Rattle.forms.proofs.Energy.{energy, parts}
use Rattle.tighter.proofs.Lyapunov.{Lyapunov, Fading}

pub record Lossy : Type 0 where
  pub moving : ℕ → Bool
  pub G : Level → Level → ℤ
  pub S : Level → Level → ℤ
  pub next : Level → Level → Level
  pub D : ℤ
  pub s : ℤ
  pub G_form : Form G
  pub S_form : Form S
  pub inside : (a b : Level) → Still moving (next a b)
  pub law : (a b c : Level) → Still moving c → G (next a b) c ≡ S a c -ℤ (D -ℤ s) *ℤ G b c
  pub D_positive : pos 0 ⋖ D
  pub s_nonneg : pos 0 ⩽ s
  pub s_low : s ⩽ D
  pub G_nonneg : (c : Level) → pos 0 ⩽ G c c
  pub nonneg : (a b : Level) → pos 0 ⩽ D *ℤ G a a +ℤ D *ℤ G b b -ℤ S a b

-- its energy holds its levels
pub record Held (T : Lossy) : Type 0 where
  pub hold : ℤ
  pub far : ℤ
  pub hold_nonneg : pos 0 ⩽ hold
  pub far_positive : pos 0 ⋖ far
  pub held : (a b : Level) → Still T.moving a → Still T.moving b
      → hold *ℤ (T.G a a +ℤ T.G b b) ⩽ far *ℤ (T.D *ℤ T.G a a +ℤ T.D *ℤ T.G b b -ℤ T.S a b)

module _ (T : Lossy) where
  abbrev G : Level → Level → ℤ
  G = T.G

  abbrev S : Level → Level → ℤ
  S = T.S

  abbrev D : ℤ
  D = T.D

  abbrev s : ℤ
  s = T.s

  abbrev d : ℤ
  d = T.D +ℤ T.s

  abbrev e : ℤ
  e = T.D -ℤ T.s

  abbrev still : Level → Type 0
  still = Still T.moving

  pub D_nonneg : pos 0 ⩽ D
  D_nonneg = <ℤ_weaken T.D_positive

  pub d-positive : pos 0 ⋖ d
  d-positive = le-<ℤ (lin 2 (λ D s. 1 *≤ # 0 ⊕ # 1 ⊴ D ⇒ 1 *≤ # 0 ⊴ s ⇒ ⊩ # 0 ⊕ # 1 ⊴ D ⊕ s) refl D s (<ℤ_le T.D_positive) T.s_nonneg)

  pub d_nonneg : pos 0 ⩽ d
  d_nonneg = <ℤ_weaken d-positive

  e_nonneg : pos 0 ⩽ e
  e_nonneg = sub_nonneg T.s_low

  -- ---- what is known of a step, n the next level: squares of levels, and the law at n and at b

  -- |x·a + y·b|² is not negative
  combination : (x y : ℤ) (a b : Level) → pos 0 ⩽ x *ℤ (x *ℤ G a a) +ℤ pos 2 *ℤ (x *ℤ (y *ℤ G a b)) +ℤ y *ℤ (y *ℤ G b b)
  combination x y a b = ≤ℤ-≡ (T.G_nonneg ((x ⊡ a) ⊞ (y ⊡ b))) (square_combination T.G_form x y a b)

  -- the parts of an energy at x·a and y·b
  scaled : (x y : ℤ) (a b : Level) → D *ℤ G (x ⊡ a) (x ⊡ a) +ℤ D *ℤ G (y ⊡ b) (y ⊡ b) -ℤ S (x ⊡ a) (y ⊡ b)
      ≡ D *ℤ (x *ℤ (x *ℤ G a a)) +ℤ D *ℤ (y *ℤ (y *ℤ G b b)) -ℤ x *ℤ (y *ℤ S a b)
  scaled x y a b =
      parts (ap (λ z. D *ℤ z) (scale-both T.G_form x x a a)) (ap (λ z. D *ℤ z) (scale-both T.G_form y y b b))
      (scale-both T.S_form x y a b)

  energy-at : (x y : ℤ) (a b : Level) → pos 0 ⩽ D *ℤ (x *ℤ (x *ℤ G a a)) +ℤ D *ℤ (y *ℤ (y *ℤ G b b)) -ℤ x *ℤ (y *ℤ S a b)
  energy-at x y a b = ≤ℤ-≡ (T.nonneg (x ⊡ a) (y ⊡ b)) (scaled x y a b)

  law_next : (a b : Level) → let n : Level = T.next a b in G n n ≡ S a n -ℤ e *ℤ G n b
  law_next a b = let n : Level = T.next a b in T.law a b n (T.inside a b) ∙ ap (λ g. S a n -ℤ e *ℤ g) (T.G_form.symm b n)

  -- c = n + e·b is what S does to a
  abbrev image : Level → Level → Level
  image a b = T.next a b ⊞ (e ⊡ b)

  image-still : (a b : Level) → still b → still (image a b)
  image-still a b sb = still-add (T.inside a b) (still-scale e sb)

  image_law : (a b : Level) → still b → let c : Level = image a b in S a c ≡ G c c
  image_law a b sb =
      let n : Level = T.next a b in
      let c : Level = image a b in
      lin 5 (λ e gnc gbc gcc sac. (⊝ # 1) *≈ gnc ≈ sac ⊖ e ⊗ gbc ⇒ (⊝ # 1) *≈ gcc ≈ gnc ⊕ e ⊗ gbc ⇒ ⊩≈ sac ≈ gcc) refl
      e (G n c) (G b c) (G c c) (S a c) (T.law a b c (image-still a b sb))
      (T.G_form.add n (e ⊡ b) c ∙ ap (λ z. G n c +ℤ z) (T.G_form.scale e b c))

  image-square : (a b : Level) → let n : Level = T.next a b in let c : Level = image a b in
      G c c ≡ G n n +ℤ pos 2 *ℤ (e *ℤ G n b) +ℤ e *ℤ (e *ℤ G b b)
  image-square a b =
      let n : Level = T.next a b in
      ap (λ (x : Level). G x x) (λ i k. one (n k) i +ℤ e *ℤ b k) ∙ square_combination T.G_form (pos 1) e n b ∙
      ring 4 (λ e x y z. # 1 ⊗ (# 1 ⊗ x) ⊕ # 2 ⊗ (# 1 ⊗ (e ⊗ y)) ⊕ e ⊗ (e ⊗ z) ≈ x ⊕ # 2 ⊗ (e ⊗ y) ⊕ e ⊗ (e ⊗ z)) refl
      e (G n n) (G n b) (G b b)
    where
      one : (x : ℤ) → x ≡ pos 1 *ℤ x
      one x = ring 1 (λ x. x ≈ # 1 ⊗ x) refl x

  -- |c|² ≤ 4D²·|a|²
  image_small : (a b : Level) → still b → G (image a b) (image a b) ⩽ pos 4 *ℤ (D *ℤ D) *ℤ G a a
  image_small a b sb =
      let c : Level = image a b in
      *ℤ_cancel T.D_positive
      (lin 4 (λ D A C t. 1 *≤ # 0 ⊴ D ⊗ ((# 2 ⊗ D) ⊗ ((# 2 ⊗ D) ⊗ A)) ⊕ D ⊗ (# 1 ⊗ (# 1 ⊗ C)) ⊖ (# 2 ⊗ D) ⊗ (# 1 ⊗ t) ⇒ (# 2 ⊗ D) *≈ t ≈ C ⇒
      ⊩ D ⊗ C ⊴ D ⊗ (# 4 ⊗ D ² ⊗ A)) refl
      D (G a a) (G c c) (S a c) (energy-at (pos 2 *ℤ D) (pos 1) a c) (image_law a b sb))

  -- the value of a form x·G + y·G − z·S after the step
  after : (x y z : ℤ) (a b : Level) → let n : Level = T.next a b in
      energy (λ a b. x *ℤ G a b) (λ a b. y *ℤ G a b) (λ a b. z *ℤ S a b) n (d ⊡ a) ≡ x *ℤ G n n +ℤ y *ℤ (d *ℤ (d *ℤ G a a)) -ℤ z *ℤ
      (d *ℤ S a n)
  after x y z a b =
      let n : Level = T.next a b in
      parts {v = x *ℤ G n n} refl (ap (λ g. y *ℤ g) (scale-both T.G_form d d a a))
      (ap (λ g. z *ℤ g) (T.S_form.symm n (d ⊡ a) ∙ T.S_form.scale d a n))

  -- ---- the energy

  module _ (H : Held T) where
    -- what holds the levels, at x·a and y·b
    held_at : (x y : ℤ) (a b : Level) → still a → still b
        → H.hold *ℤ (x *ℤ (x *ℤ G a a) +ℤ y *ℤ (y *ℤ G b b)) ⩽ H.far *ℤ
        (D *ℤ (x *ℤ (x *ℤ G a a)) +ℤ D *ℤ (y *ℤ (y *ℤ G b b)) -ℤ x *ℤ (y *ℤ S a b))
    held_at x y a b sa sb =
        ≡-≤ℤ (sym (ap₂ (λ u v. H.hold *ℤ (u +ℤ v)) (scale-both T.G_form x x a a) (scale-both T.G_form y y b b)))
        (≤ℤ-≡ (H.held (x ⊡ a) (y ⊡ b) (still-scale x sa) (still-scale y sb)) (ap (λ z. H.far *ℤ z) (scaled x y a b)))

    abbrev E : Level → Level → ℤ
    E = energy (λ a b. D *ℤ G a b) (λ a b. D *ℤ G a b) (λ a b. pos 1 *ℤ S a b)

    pub energy_holds : (a b : Level) → still a → still b → H.hold *ℤ (D *ℤ G a a) ⩽ H.far *ℤ D *ℤ E a b
    energy_holds a b sa sb =
        lin 6 (λ D h f A B t. D *⊴ h ⊗ (A ⊕ B) ⊴ f ⊗ (D ⊗ A ⊕ D ⊗ B ⊖ t) ⇒ (D ⊗ h) *⊴ # 0 ⊴ B ⇒
        ⊩ h ⊗ (D ⊗ A) ⊴ f ⊗ D ⊗ (D ⊗ A ⊕ D ⊗ B ⊖ # 1 ⊗ t)) refl
        D H.hold H.far (G a a) (G b b) (S a b) D_nonneg (H.held a b sa sb) (nonneg_mul D_nonneg H.hold_nonneg) (T.G_nonneg b)

    -- what is lost is s·|n − d·b|²
    pub energy-not_raised : (a b : Level) → still b → E (T.next a b) (d ⊡ a) ⩽ d *ℤ d *ℤ E a b
    energy-not_raised a b sb =
        let n : Level = T.next a b in
        ≡-≤ℤ (after D D (pos 1) a b)
        (lin 8 (λ D s nn nb bb aa san sab. let d = D ⊕ s in let e = D ⊖ s in
        s *⊴ # 0 ⊴ # 1 ⊗ (# 1 ⊗ nn) ⊕ # 2 ⊗ (# 1 ⊗ ((⊝ d) ⊗ nb)) ⊕ (⊝ d) ⊗ ((⊝ d) ⊗ bb) ⇒
        (⊝ d) *≈ nn ≈ san ⊖ e ⊗ nb ⇒ (d ²) *≈ nb ≈ sab ⊖ e ⊗ bb ⇒
        ⊩ D ⊗ nn ⊕ D ⊗ (d ⊗ (d ⊗ aa)) ⊖ # 1 ⊗ (d ⊗ san) ⊴ d ² ⊗ (D ⊗ aa ⊕ D ⊗ bb ⊖ # 1 ⊗ sab)) refl
        D s (G n n) (G n b) (G b b) (G a a) (S a n) (S a b)
        T.s_nonneg (combination (pos 1) (neg_ℤ d) n b) (law_next a b) (T.law a b b sb))

    abbrev pub by_energy : Lyapunov T.moving T.G T.next (T.D +ℤ T.s)
    by_energy = record {
      w = D;
      W = λ a b. D *ℤ G a b;
      R = λ a b. pos 1 *ℤ S a b;
      hold = H.hold;
      far = H.far *ℤ D;
      W_form = times D T.G_form;
      R_form = times (pos 1) T.S_form;
      w_positive = T.D_positive;
      far_nonneg = nonneg_mul (<ℤ_weaken H.far_positive) D_nonneg;
      nonneg = λ a b sa sb. ≤ℤ-≡ (T.nonneg a b) (ring 2 (λ x t. x ⊖ t ≈ x ⊖ # 1 ⊗ t) refl (D *ℤ G a a +ℤ D *ℤ G b b) (S a b));
      holds = energy_holds;
      not_raised = λ a b sa sb. energy-not_raised a b sb;
    }

    -- ---- light loss: far·s² ≤ hold·D

    far_D : pos 0 ⋖ H.far *ℤ D
    far_D = mul-positive H.far_positive T.D_positive

    module _ (s-positive : pos 0 ⋖ T.s) (light : H.far *ℤ (T.s *ℤ T.s) ⩽ H.hold *ℤ T.D) where
      abbrev F : Level → Level → ℤ
      F = energy (λ a b. d *ℤ G a b) (λ a b. e *ℤ G a b) (λ a b. pos 1 *ℤ S a b)

      -- from the energy at d·a and D·b
      pub light_holds : (a b : Level) → still a → still b → H.hold *ℤ (d *ℤ G a a) ⩽ H.far *ℤ D *ℤ F a b
      light_holds a b sa sb = *ℤ_cancel d-positive
          (lin 7 (λ D s h f A B t. let d = D ⊕ s in
          1 *≤ h ⊗ (d ⊗ (d ⊗ A) ⊕ D ⊗ (D ⊗ B)) ⊴ f ⊗ (D ⊗ (d ⊗ (d ⊗ A)) ⊕ D ⊗ (D ⊗ (D ⊗ B)) ⊖ d ⊗ (D ⊗ t)) ⇒ (D ⊗ B) *⊴ f ⊗ s ² ⊴ h ⊗ D ⇒
          ⊩ d ⊗ (h ⊗ (d ⊗ A)) ⊴ d ⊗ (f ⊗ D ⊗ (d ⊗ A ⊕ (D ⊖ s) ⊗ B ⊖ # 1 ⊗ t))) refl
          D s H.hold H.far (G a a) (G b b) (S a b) (held_at d D a b sa sb) (nonneg_mul D_nonneg (T.G_nonneg b)) light)

      pub light_nonneg : (a b : Level) → still a → still b → pos 0 ⩽ F a b
      light_nonneg a b sa sb = *ℤ_cancel far_D
          (lin 4 (λ h A f x. 1 *≤ h ⊗ A ⊴ f ⊗ x ⇒ h *⊴ # 0 ⊴ A ⇒ ⊩ f ⊗ # 0 ⊴ f ⊗ x) refl
          H.hold (d *ℤ G a a) (H.far *ℤ D) (F a b) (light_holds a b sa sb) H.hold_nonneg (nonneg_mul d_nonneg (T.G_nonneg a)))

      light_step : (a b : Level) → still b → F (T.next a b) (d ⊡ a) ≡ d *ℤ e *ℤ F a b
      light_step a b sb =
          let n : Level = T.next a b in
          after d e (pos 1) a b ∙
          lin 8 (λ d e nn nb bb aa san sab. d *≈ nn ≈ san ⊖ e ⊗ nb ⇒ (⊝ (d ⊗ e)) *≈ nb ≈ sab ⊖ e ⊗ bb ⇒
          ⊩≈ d ⊗ nn ⊕ e ⊗ (d ⊗ (d ⊗ aa)) ⊖ # 1 ⊗ (d ⊗ san) ≈ d ⊗ e ⊗ (d ⊗ aa ⊕ e ⊗ bb ⊖ # 1 ⊗ sab)) refl
          d e (G n n) (G n b) (G b b) (G a a) (S a n) (S a b) (law_next a b) (T.law a b b sb)

      pub light_not_raised : (a b : Level) → still a → still b → F (T.next a b) (d ⊡ a) ⩽ d *ℤ d *ℤ F a b
      light_not_raised a b sa sb = ≡-≤ℤ (light_step a b sb)
          (lin 3 (λ D s f. let d = D ⊕ s in (# 2 ⊗ d ⊗ s) *⊴ # 0 ⊴ f ⇒ ⊩ d ⊗ (D ⊖ s) ⊗ f ⊴ d ² ⊗ f) refl
          D s (F a b) (nonneg_mul (nonneg_mul (0≤pos 2) d_nonneg) T.s_nonneg) (light_nonneg a b sa sb))

      abbrev pub by_light_loss : Lyapunov T.moving T.G T.next (T.D +ℤ T.s)
      by_light_loss = record {
        w = d;
        W = λ a b. e *ℤ G a b;
        R = λ a b. pos 1 *ℤ S a b;
        hold = H.hold;
        far = H.far *ℤ D;
        W_form = times e T.G_form;
        R_form = times (pos 1) T.S_form;
        w_positive = d-positive;
        far_nonneg = nonneg_mul (<ℤ_weaken H.far_positive) D_nonneg;
        nonneg = light_nonneg;
        holds = light_holds;
        not_raised = light_not_raised;
      }

      -- (D+s)²·(D+s)(D−s) ≤ D²·(D+s)²
      pub light_shrinks : (a b : Level) → still a → still b → d *ℤ d *ℤ F (T.next a b) (d ⊡ a) ⩽ D *ℤ D *ℤ (d *ℤ d *ℤ F a b)
      light_shrinks a b sa sb =
          lin 4 (λ D s f f'. let d = D ⊕ s in (⊝ d ²) *≈ f' ≈ d ⊗ (D ⊖ s) ⊗ f ⇒ (d ² ⊗ s ²) *⊴ # 0 ⊴ f ⇒ ⊩ d ² ⊗ f' ⊴ D ² ⊗ (d ² ⊗ f)) refl
          D s (F a b) (F (T.next a b) (d ⊡ a)) (light_step a b sb) (nonneg_mul (square_nonneg d) (square_nonneg s))
          (light_nonneg a b sa sb)

      abbrev pub light_fading : Fading by_light_loss
      light_fading = record { α = D; β = s; α-positive = T.D_positive; β-positive = s-positive; shrinks = light_shrinks }

  -- ---- any loss

  abbrev pub w : ℤ
  w = (T.D +ℤ T.s) *ℤ T.D +ℤ T.s *ℤ T.s

  abbrev pub z : ℤ
  z = (T.D -ℤ T.s) *ℤ T.D +ℤ T.s *ℤ T.s

  abbrev Φ : Level → Level → ℤ
  Φ = energy (λ a b. w *ℤ G a b) (λ a b. z *ℤ G a b) (λ a b. D *ℤ S a b)

  pub w_positive : pos 0 ⋖ w
  w_positive = le-<ℤ (lin 3 (λ d D t. (# 1) *⊴ # 0 ⊕ # 1 ⊴ d ⊗ D ⇒ 1 *≤ # 0 ⊴ t ⇒ ⊩ # 0 ⊕ # 1 ⊴ d ⊗ D ⊕ t) refl
      d D (s *ℤ s) (0≤pos 1) (<ℤ_le (mul-positive d-positive T.D_positive)) (square_nonneg s))

  -- s²·G(a,a) ≤ Φ, from the energy at d·a and D·b
  Φ-above : (a b : Level) → s *ℤ s *ℤ G a a ⩽ Φ a b
  Φ-above a b = *ℤ_cancel d-positive
      (lin 5 (λ D s A B t. let d = D ⊕ s in 1 *≤ # 0 ⊴ D ⊗ (d ⊗ (d ⊗ A)) ⊕ D ⊗ (D ⊗ (D ⊗ B)) ⊖ d ⊗ (D ⊗ t) ⇒ (s ² ⊗ s) *⊴ # 0 ⊴ B ⇒
      ⊩ d ⊗ (s ² ⊗ A) ⊴ d ⊗ ((d ⊗ D ⊕ s ²) ⊗ A ⊕ ((D ⊖ s) ⊗ D ⊕ s ²) ⊗ B ⊖ D ⊗ t)) refl
      D s (G a a) (G b b) (S a b) (energy-at d D a b) (nonneg_mul (square_nonneg s) T.s_nonneg) (T.G_nonneg b))

  pub Φ_holds : (a b : Level) → s *ℤ s *ℤ (w *ℤ G a a) ⩽ w *ℤ Φ a b
  Φ_holds a b = lin 4 (λ s w A f. w *⊴ s ² ⊗ A ⊴ f ⇒ ⊩ s ² ⊗ (w ⊗ A) ⊴ w ⊗ f) refl s w (G a a) (Φ a b) (<ℤ_weaken w_positive) (Φ-above a b)

  pub Φ_nonneg : (a b : Level) → pos 0 ⩽ Φ a b
  Φ_nonneg a b = lin 3 (λ s A f. 1 *≤ s ² ⊗ A ⊴ f ⇒ (s ²) *⊴ # 0 ⊴ A ⇒ ⊩ # 0 ⊴ f) refl
      s (G a a) (Φ a b) (Φ-above a b) (square_nonneg s) (T.G_nonneg a)

  -- |n − d·b|², and 4D²·|a|² − |c|²
  abbrev moved : Level → Level → ℤ
  moved a b = let n : Level = T.next a b in G n n -ℤ pos 2 *ℤ (d *ℤ G n b) +ℤ d *ℤ (d *ℤ G b b)

  abbrev spare : Level → Level → ℤ
  spare a b = let c : Level = image a b in pos 4 *ℤ (D *ℤ D) *ℤ G a a -ℤ G c c

  moved_nonneg : (a b : Level) → pos 0 ⩽ moved a b
  moved_nonneg a b =
      let n : Level = T.next a b in
      ≤ℤ-≡ (combination (pos 1) (neg_ℤ d) n b)
      (ring 4 (λ d x y z. # 1 ⊗ (# 1 ⊗ x) ⊕ # 2 ⊗ (# 1 ⊗ ((⊝ d) ⊗ y)) ⊕ (⊝ d) ⊗ ((⊝ d) ⊗ z) ≈ x ⊖ # 2 ⊗ (d ⊗ y) ⊕ d ⊗ (d ⊗ z)) refl
      d (G n n) (G n b) (G b b))

  spare_nonneg : (a b : Level) → still b → pos 0 ⩽ spare a b
  spare_nonneg a b sb = sub_nonneg (image_small a b sb)

  -- what is lost in a step, times 2D/s
  lost : Level → Level → ℤ
  lost a b = d *ℤ d *ℤ spare a b +ℤ (D *ℤ D +ℤ s *ℤ s) *ℤ moved a b

  lost_nonneg : (a b : Level) → still b → pos 0 ⩽ lost a b
  unfolding lost
  lost_nonneg a b sb =
      nonneg_add (nonneg_mul (square_nonneg d) (spare_nonneg a b sb))
      (nonneg_mul (nonneg_add (square_nonneg D) (square_nonneg s)) (moved_nonneg a b))

  Φ-step : (a b : Level) → still b → pos 2 *ℤ D *ℤ (d *ℤ d *ℤ Φ a b -ℤ Φ (T.next a b) (d ⊡ a)) ≡ s *ℤ lost a b
  unfolding lost
  Φ-step a b sb =
      let n : Level = T.next a b in
      let c : Level = image a b in
      ap (λ x. pos 2 *ℤ D *ℤ (d *ℤ d *ℤ Φ a b -ℤ x)) (after w z D a b) ∙
      lin 9 (λ D s nn nb bb aa san sab C. let d = D ⊕ s in let e = D ⊖ s in let w = d ⊗ D ⊕ s ² in let z = e ⊗ D ⊕ s ² in
      (⊝ (# 2 ⊗ D ² ⊗ d)) *≈ nn ≈ san ⊖ e ⊗ nb ⇒ (# 2 ⊗ D ² ⊗ d ²) *≈ nb ≈ sab ⊖ e ⊗ bb ⇒
      (s ⊗ d ²) *≈ C ≈ nn ⊕ # 2 ⊗ (e ⊗ nb) ⊕ e ⊗ (e ⊗ bb) ⇒
      ⊩≈ # 2 ⊗ D ⊗ (d ² ⊗ (w ⊗ aa ⊕ z ⊗ bb ⊖ D ⊗ sab) ⊖ (w ⊗ nn ⊕ z ⊗ (d ⊗ (d ⊗ aa)) ⊖ D ⊗ (d ⊗ san)))
      ≈ s ⊗ (d ² ⊗ (# 4 ⊗ D ² ⊗ aa ⊖ C) ⊕ (D ² ⊕ s ²) ⊗ (nn ⊖ # 2 ⊗ (d ⊗ nb) ⊕ d ⊗ (d ⊗ bb)))) refl
      D s (G n n) (G n b) (G b b) (G a a) (S a n) (S a b) (G c c) (law_next a b) (T.law a b b sb) (image-square a b)

  pub Φ-not_raised : (a b : Level) → still b → Φ (T.next a b) (d ⊡ a) ⩽ d *ℤ d *ℤ Φ a b
  Φ-not_raised a b sb =
      *ℤ_cancel {a = pos 2 *ℤ D} (mul-positive (0<pos 1) T.D_positive)
      (lin 5 (λ D s x x' l. # 1 *≈ # 2 ⊗ D ⊗ (x ⊖ x') ≈ s ⊗ l ⇒ s *⊴ # 0 ⊴ l ⇒ ⊩ # 2 ⊗ D ⊗ x' ⊴ # 2 ⊗ D ⊗ x) refl
      D s (d *ℤ d *ℤ Φ a b) (Φ (T.next a b) (d ⊡ a)) (lost a b) (Φ-step a b sb) T.s_nonneg (lost_nonneg a b sb))

  abbrev pub by_loss : Lyapunov T.moving T.G T.next (T.D +ℤ T.s)
  by_loss = record {
    w = w;
    W = λ a b. z *ℤ G a b;
    R = λ a b. D *ℤ S a b;
    hold = s *ℤ s;
    far = w;
    W_form = times z T.G_form;
    R_form = times D T.S_form;
    w_positive = w_positive;
    far_nonneg = <ℤ_weaken w_positive;
    nonneg = λ a b sa sb. Φ_nonneg a b;
    holds = λ a b sa sb. Φ_holds a b;
    not_raised = λ a b sa sb. Φ-not_raised a b sb;
  }

  -- ---- heavy loss: hold·D ≤ far·s²

  module _ (H : Held T) (s-positive : pos 0 ⋖ T.s) (hold-positive : pos 0 ⋖ H.hold)
      (heavy : H.hold *ℤ T.D ⩽ H.far *ℤ (T.s *ℤ T.s)) where
    abbrev h : ℤ
    h = H.hold

    abbrev f : ℤ
    f = H.far

    f_nonneg : pos 0 ⩽ f
    f_nonneg = <ℤ_weaken H.far_positive

    -- hold·(4D²·|a|² + |c|²) ≤ far·D·(4D²·|a|² − |c|²), from the energy at 2D·a and c
    image-held : (a b : Level) → still a → still b → let c : Level = image a b in
        h *ℤ (pos 4 *ℤ (D *ℤ D) *ℤ G a a +ℤ G c c) ⩽ f *ℤ (D *ℤ (pos 4 *ℤ (D *ℤ D) *ℤ G a a -ℤ G c c))
    image-held a b sa sb =
        let c : Level = image a b in
        lin 6 (λ D h f A C t.
        1 *≤ h ⊗ ((# 2 ⊗ D) ⊗ ((# 2 ⊗ D) ⊗ A) ⊕ # 1 ⊗ (# 1 ⊗ C)) ⊴ f ⊗
        (D ⊗ ((# 2 ⊗ D) ⊗ ((# 2 ⊗ D) ⊗ A)) ⊕ D ⊗ (# 1 ⊗ (# 1 ⊗ C)) ⊖ (# 2 ⊗ D) ⊗ (# 1 ⊗ t)) ⇒
        (# 2 ⊗ f ⊗ D) *≈ t ≈ C ⇒ ⊩ h ⊗ (# 4 ⊗ D ² ⊗ A ⊕ C) ⊴ f ⊗ (D ⊗ (# 4 ⊗ D ² ⊗ A ⊖ C))) refl
        D h f (G a a) (G c c) (S a c) (held_at H (pos 2 *ℤ D) (pos 1) a c sa (image-still a b sb)) (image_law a b sb)

    -- enough is lost for a rate of hold/(4·s·far): four D times, so that no number is divided
    enough : (a b : Level) → still a → still b → pos 4 *ℤ D *ℤ (h *ℤ (d *ℤ d *ℤ (D *ℤ Φ a b))) ⩽ pos 4 *ℤ D *ℤ (f *ℤ (s *ℤ s) *ℤ lost a b)
    unfolding lost
    enough a b sa sb =
        let n : Level = T.next a b in
        let c : Level = image a b in
        let nm : pos 0 ⩽ moved a b = moved_nonneg a b in
        let nq : pos 0 ⩽ spare a b = spare_nonneg a b sb in
        let nh : pos 0 ⩽ h = H.hold_nonneg in
        let nD : pos 0 ⩽ D *ℤ D = square_nonneg D in
        let ns : pos 0 ⩽ s *ℤ s = square_nonneg s in
        let nd : pos 0 ⩽ d *ℤ d = square_nonneg d in
        lin 10 (λ D s h f A nn nb bb C sab. let d = D ⊕ s in let e = D ⊖ s in let x = # 2 ⊗ s ⊖ D in let y = e ⊗ (D ⊕ # 2 ⊗ s) in
        let m = nn ⊖ # 2 ⊗ (d ⊗ nb) ⊕ d ⊗ (d ⊗ bb) in let q = # 4 ⊗ D ² ⊗ A ⊖ C in
        (# 4 ⊗ D ⊗ ((D ² ⊕ s ²) ⊗ m) ⊕ # 2 ⊗ D ⊗ (d ² ⊗ q)) *⊴ h ⊗ D ⊴ f ⊗ s ² ⇒
        (# 2 ⊗ (s ² ⊗ d ²)) *⊴ h ⊗ (# 4 ⊗ D ² ⊗ A ⊕ C) ⊴ f ⊗ (D ⊗ q) ⇒
        (h ⊗ d ² ⊗ (D ⊗ e ⊕ s ²)) *⊴ # 0 ⊴ q ⇒
        (h ⊗ d ²) *⊴ # 0 ⊴ x ⊗ (x ⊗ nn) ⊕ # 2 ⊗ (x ⊗ (y ⊗ nb)) ⊕ y ⊗ (y ⊗ bb) ⇒
        (h ⊗ (s ² ⊗ d ²)) *⊴ # 0 ⊴ C ⇒
        (h ⊗ (m ⊗ (D ² ⊗ D ⊕ D ⊗ s ² ⊕ # 2 ⊗ (s ² ⊗ d)))) *⊴ # 0 ⊴ e ⇒
        (h ⊗ (D ² ⊗ (D ² ⊕ # 3 ⊗ s ²))) *⊴ # 0 ⊴ m ⇒
        (⊝ (# 4 ⊗ D ² ⊗ D ⊗ (h ⊗ d ²))) *≈ nb ≈ sab ⊖ e ⊗ bb ⇒
        (⊝ (h ⊗ d ² ⊗ y)) *≈ C ≈ nn ⊕ # 2 ⊗ (e ⊗ nb) ⊕ e ⊗ (e ⊗ bb) ⇒
        ⊩ # 4 ⊗ D ⊗ (h ⊗ (d ² ⊗ (D ⊗ ((d ⊗ D ⊕ s ²) ⊗ A ⊕ (e ⊗ D ⊕ s ²) ⊗ bb ⊖ D ⊗ sab))))
        ⊴ # 4 ⊗ D ⊗ (f ⊗ s ² ⊗ (d ² ⊗ q ⊕ (D ² ⊕ s ²) ⊗ m))) refl
        D s h f (G a a) (G n n) (G n b) (G b b) (G c c) (S a b)
        (nonneg_add (nonneg_mul (nonneg_mul (0≤pos 4) D_nonneg) (nonneg_mul (nonneg_add nD ns) nm))
        (nonneg_mul (nonneg_mul (0≤pos 2) D_nonneg) (nonneg_mul nd nq))) heavy
        (nonneg_mul (0≤pos 2) (nonneg_mul ns nd)) (image-held a b sa sb)
        (nonneg_mul (nonneg_mul nh nd) (nonneg_add (nonneg_mul D_nonneg e_nonneg) ns)) nq
        (nonneg_mul nh nd) (combination (pos 2 *ℤ s -ℤ D) (e *ℤ (D +ℤ pos 2 *ℤ s)) n b)
        (nonneg_mul nh (nonneg_mul ns nd)) (T.G_nonneg c)
        (nonneg_mul nh (nonneg_mul nm (nonneg_add (nonneg_add (nonneg_mul nD D_nonneg) (nonneg_mul D_nonneg ns))
        (nonneg_mul (0≤pos 2) (nonneg_mul ns d_nonneg))))) e_nonneg
        (nonneg_mul nh (nonneg_mul nD (nonneg_add nD (nonneg_mul (0≤pos 3) ns)))) nm
        (T.law a b b sb) (image-square a b)

    -- α + β = 4·s·far, β = hold
    abbrev pub rest : ℤ
    rest = pos 4 *ℤ (T.s *ℤ H.far) -ℤ H.hold

    -- hold ≤ far·s, because hold·D ≤ far·s² ≤ far·s·D
    pub rest-positive : pos 0 ⋖ rest
    rest-positive =
        let below : h ⩽ f *ℤ s = *ℤ_cancel T.D_positive
        (lin 4 (λ D s h f. 1 *≤ h ⊗ D ⊴ f ⊗ s ² ⇒ (f ⊗ s) *⊴ s ⊴ D ⇒ ⊩ D ⊗ h ⊴ D ⊗ (f ⊗ s)) refl
        D s h f heavy (nonneg_mul f_nonneg T.s_nonneg) T.s_low) in
        le-<ℤ (lin 3 (λ s h f. 1 *≤ h ⊴ f ⊗ s ⇒ 1 *≤ # 0 ⊕ # 1 ⊴ s ⊗ f ⇒ (# 2) *⊴ # 0 ⊴ s ⊗ f ⇒ ⊩ # 0 ⊕ # 1 ⊴ # 4 ⊗ (s ⊗ f) ⊖ h) refl
        s h f below (<ℤ_le (mul-positive s-positive H.far_positive)) (0≤pos 2) (nonneg_mul T.s_nonneg f_nonneg))

    pub heavy_shrinks : (a b : Level) → still a → still b
        → (rest +ℤ h) *ℤ (rest +ℤ h) *ℤ Φ (T.next a b) (d ⊡ a) ⩽ rest *ℤ rest *ℤ (d *ℤ d *ℤ Φ a b)
    heavy_shrinks a b sa sb =
        *ℤ_cancel {a = pos 2 *ℤ D} (mul-positive (0<pos 1) T.D_positive)
        (lin 8 (λ D s h f dd x x' l. let r = # 4 ⊗ (s ⊗ f) ⊖ h in
        (# 16 ⊗ (s ² ⊗ f ²)) *≈ # 2 ⊗ D ⊗ (dd ⊗ x ⊖ x') ≈ s ⊗ l ⇒ (# 16 ⊗ (s ⊗ f)) *⊴ h ⊗ (dd ⊗ (D ⊗ x)) ⊴ f ⊗ s ² ⊗ l ⇒
        (# 2 ⊗ D ⊗ (h ² ⊗ dd)) *⊴ # 0 ⊴ x ⇒ ⊩ # 2 ⊗ D ⊗ ((r ⊕ h) ² ⊗ x') ⊴ # 2 ⊗ D ⊗ (r ² ⊗ (dd ⊗ x))) refl
        D s h f (d *ℤ d) (Φ a b) (Φ (T.next a b) (d ⊡ a)) (lost a b) (Φ-step a b sb)
        (nonneg_mul (0≤pos 16) (nonneg_mul T.s_nonneg f_nonneg))
        (*ℤ_cancel {a = pos 4 *ℤ D} (mul-positive (0<pos 3) T.D_positive) (enough a b sa sb))
        (nonneg_mul (nonneg_mul (0≤pos 2) D_nonneg) (nonneg_mul (square_nonneg h) (square_nonneg d))) (Φ_nonneg a b))

    abbrev pub heavy_fading : Fading by_loss
    heavy_fading = record { α = rest; β = h; α-positive = rest-positive; β-positive = hold-positive; shrinks = heavy_shrinks }
