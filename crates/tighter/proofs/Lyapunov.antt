-- A form of newer and older, F(a,b) = w·G(a,a) + W(b,b) − R(a,b), that a step without a hit does not raise (a Lyapunov function) and that
-- holds the newer level: how far rounding then takes that level. After n steps √F is at most n times what one step rounds off; where F
-- shrinks by (α/(α+β))² in a step, it is at most (α+β)/β times that, however many steps there are.
use mathlib.Core.Path.{◌≡◌, refl, sym, ap, ap₂, ◌∙◌, fun_ext}
use mathlib.Core.Bool.{Bool, true, false, cond}
use Prim.Native.Nat.{ℕ, suc}
use lib.IntN.{ℤ, pos, ◌+ℤ◌, ◌*ℤ◌}
use Rattle.integers.proofs.Ring.{#◌, ⊝◌, ◌⊕◌, ◌⊖◌, ◌⊗◌, ◌², ◌≈◌}
use Rattle.integers.proofs.Order.{◌⩽◌, ◌⋖◌, 0≤pos, 0<pos, square_nonneg, nonneg_mul, *ℤ_cancel, mul-positive, <ℤ_le, le-<ℤ, <ℤ_weaken, ≡-≤ℤ}
use Rattle.integers.proofs.Lin.{◌⊴◌, ◌*≤◌, ◌*⊴◌, ◌*≈◌, ◌⇒◌, ⊩◌, lin}
use Rattle.forms.proofs.Level.{Level, ◌⊞◌, ◌⊡◌, zeros, Still, still-add, still-scale, linear_at, linear_cond}
use Rattle.forms.proofs.Form.{Form, times, scale-both}
use Rattle.forms.proofs.Energy.{energy, triangle, triangle_step}

-- ---- the part of a level that moves

module _ (moving : ℕ → Bool) where
  abbrev part : Level → Level
  part a = λ k. cond (moving k) (a k) (pos 0)

  part-still : (a : Level) → Still moving (part a)
  part-still a = record { still = λ k e. simp e }

  part_same : {a : Level} → Still moving a → part a ≡ a
  part_same {a} s = fun_ext (λ k. go (moving k) (a k) (s.still k))
    where
      go : (t : Bool) (x : ℤ) → (t ≡ false → x ≡ pos 0) → cond t x (pos 0) ≡ x
      go true x z = refl
      go false x z = sym (z refl)

  part_form : {B : Level → Level → ℤ} → Form B → Form (λ a b. B (part a) (part b))
  part_form {B} F = record {
    symm = λ a b. F.symm (part a) (part b);
    add = λ a b c. ap (λ (x : Level). B x (part c)) (fun_ext (λ k. (linear_cond (moving k) (linear_at k)).add a b)) ∙
        F.add (part a) (part b) (part c);
    scale = λ k a b. ap (λ (x : Level). B x (part b)) (fun_ext (λ j. (linear_cond (moving j) (linear_at j)).scale k a)) ∙
        F.scale k (part a) (part b);
  }

-- ---- the form

-- of a scheme: what moves, a form G that measures a level, the step without a hit at the scale d
pub record Lyapunov (moving : ℕ → Bool) (G : Level → Level → ℤ) (next : Level → Level → Level) (d : ℤ) : Type 0 where
  pub w : ℤ
  pub W : Level → Level → ℤ
  pub R : Level → Level → ℤ
  pub hold : ℤ
  pub far : ℤ
  pub W_form : Form W
  pub R_form : Form R
  pub w_positive : pos 0 ⋖ w
  pub far_nonneg : pos 0 ⩽ far
  pub nonneg : (a b : Level) → Still moving a → Still moving b → pos 0 ⩽ energy (λ x y. w *ℤ G x y) W R a b
  pub holds : (a b : Level) → Still moving a → Still moving b → hold *ℤ (w *ℤ G a a) ⩽ far *ℤ energy (λ x y. w *ℤ G x y) W R a b
  pub not_raised : (a b : Level) → Still moving a → Still moving b
      → energy (λ x y. w *ℤ G x y) W R (next a b) (d ⊡ a) ⩽ d *ℤ d *ℤ energy (λ x y. w *ℤ G x y) W R a b

module _ {moving : ℕ → Bool} {G : Level → Level → ℤ} {next : Level → Level → Level} {d : ℤ} (L : Lyapunov moving G next d) where
  abbrev pub F : Level → Level → ℤ
  F = energy (λ x y. L.w *ℤ G x y) L.W L.R

  -- F shrinks by (α/(α+β))²
  pub record Fading : Type 0 where
    pub α : ℤ
    pub β : ℤ
    pub α-positive : pos 0 ⋖ α
    pub β-positive : pos 0 ⋖ β
    pub shrinks : (a b : Level) → Still moving a → Still moving b
        → (α +ℤ β) *ℤ (α +ℤ β) *ℤ F (next a b) (d ⊡ a) ⩽ α *ℤ α *ℤ (d *ℤ d *ℤ F a b)

-- ---- rounding: N bounds what a step rounds off, 4·G(r,r) ≤ N·d²; X and Y are held times p

module _ {moving : ℕ → Bool} {G : Level → Level → ℤ} {next : Level → Level → Level} {d : ℤ}
    (G_form : Form G) (inside : (a b : Level) → Still moving (next a b)) (N : ℤ) (L : Lyapunov moving G next d) where
  abbrev w : ℤ
  w = L.w

  abbrev still : Level → Type 0
  still = Still moving

  abbrev U : Level → Level → ℤ
  U a b = w *ℤ G a b

  -- the part that moves has an energy that is never negative
  part_nonneg : (a b : Level) → pos 0 ⩽ F L (part moving a) (part moving b)
  part_nonneg a b = L.nonneg (part moving a) (part moving b) (part-still moving a) (part-still moving b)

  -- a triangle inequality of these parts, at levels that are their own
  of_still : (c : ℤ) {A B C : ℤ} {x y z : Level} → still x → still y → still z
      → (c *ℤ F L (part moving x) (part moving z) ⩽ A → c *ℤ U (part moving y) (part moving y) ⩽ B
      → c *ℤ F L (part moving (x ⊞ y)) (part moving z) ⩽ C)
      → c *ℤ F L x z ⩽ A → c *ℤ U y y ⩽ B → c *ℤ F L (x ⊞ y) z ⩽ C
  of_still c sx sy sz law hx hy =
      ≡-≤ℤ (sym (ap₂ (λ (a b : Level). c *ℤ F L a b) (part_same moving (still-add sx sy)) (part_same moving sz)))
      (law (≡-≤ℤ (ap₂ (λ (a b : Level). c *ℤ F L a b) (part_same moving sx) (part_same moving sz)) hx)
      (≡-≤ℤ (ap (λ (a : Level). c *ℤ U a a) (part_same moving sy)) hy))

  -- F of nothing is 0
  at_rest : F L zeros zeros ⩽ pos 0
  at_rest = lin 4 (λ w A B t. (⊝ w) *≈ A ≈ # 0 ⊗ A ⇒ (⊝ # 1) *≈ B ≈ # 0 ⊗ B ⇒ # 1 *≈ t ≈ # 0 ⊗ t ⇒ ⊩ w ⊗ A ⊕ B ⊖ t ⊴ # 0) refl
      w (G zeros zeros) (L.W zeros zeros) (L.R zeros zeros)
      (G_form.scale (pos 0) zeros zeros) (L.W_form.scale (pos 0) zeros zeros) (L.R_form.scale (pos 0) zeros zeros)

  -- what is rounded off, c times
  off_small : (c p : ℤ) (r : Level) → pos 0 ⩽ c → pos 4 *ℤ G r r ⩽ N *ℤ (d *ℤ d)
      → pos 4 *ℤ c *ℤ U (p ⊡ r) (p ⊡ r) ⩽ w *ℤ N *ℤ ((p *ℤ d) *ℤ (p *ℤ d)) *ℤ c
  off_small c p r hc off =
      ≡-≤ℤ (ap (λ g. pos 4 *ℤ c *ℤ (w *ℤ g)) (scale-both G_form p p r r))
      (lin 6 (λ c d w N p g. (c ⊗ (w ⊗ p ²)) *⊴ # 4 ⊗ g ⊴ N ⊗ d ² ⇒ ⊩ # 4 ⊗ c ⊗ (w ⊗ (p ⊗ (p ⊗ g))) ⊴ w ⊗ N ⊗ (p ⊗ d) ² ⊗ c) refl
      c d w N p (G r r) (nonneg_mul hc (nonneg_mul (<ℤ_weaken L.w_positive) (square_nonneg p))) off)

  -- ---- n steps

  -- 4·F(X,Y) ≤ w·N·p²·n²
  pub record Grown (n : ℕ) (p : ℤ) (X Y : Level) : Type 0 where
    pub by_growth : pos 4 *ℤ F L X Y ⩽ w *ℤ N *ℤ (p *ℤ p) *ℤ (pos n *ℤ pos n)

  pub grow_start : (p : ℤ) → Grown 0 p zeros zeros
  grow_start p =
      record { by_growth = lin 2 (λ f k. 4 *≤ f ⊴ # 0 ⇒ ⊩ # 4 ⊗ f ⊴ k ⊗ (# 0) ²) refl (F L zeros zeros) (w *ℤ N *ℤ (p *ℤ p)) at_rest }

  pub grow_step : {n : ℕ} (p : ℤ) {X Y r : Level} → still X → still Y → still r → pos 4 *ℤ G r r ⩽ N *ℤ (d *ℤ d) → Grown n p X Y
      → Grown (suc n) (p *ℤ d) (next X Y ⊞ (p ⊡ r)) (d ⊡ X)
  grow_step {n} p {X} {Y} {r} sX sY sr off now =
      let K' : ℤ = w *ℤ N *ℤ ((p *ℤ d) *ℤ (p *ℤ d)) in
      let before : pos 4 *ℤ F L (next X Y) (d ⊡ X) ⩽ K' *ℤ (pos n *ℤ pos n) =
      lin 6 (λ d k p n f f'. 4 *≤ f' ⊴ d ² ⊗ f ⇒ (d ²) *⊴ # 4 ⊗ f ⊴ k ⊗ p ² ⊗ n ² ⇒ ⊩ # 4 ⊗ f' ⊴ k ⊗ (p ⊗ d) ² ⊗ n ²) refl
      d (w *ℤ N) p (pos n) (F L X Y) (F L (next X Y) (d ⊡ X)) (L.not_raised X Y sX sY) (square_nonneg d) now.by_growth in
      record {
        by_growth = of_still (pos 4) (inside X Y) (still-scale p sr) (still-scale d sX)
            (triangle_step (part_form moving (times w G_form)) (part_form moving L.W_form) (part_form moving L.R_form) part_nonneg
            (0<pos 3) K' (next X Y) (d ⊡ X) (p ⊡ r) n)
            before (off_small (pos 1) p r (0≤pos 1) off);
      }

  -- 4·hold·G(X,X) ≤ far·N·n²·p²
  pub grow_bound : (n : ℕ) (p : ℤ) {X Y : Level} → still X → still Y → Grown n p X Y
      → pos 4 *ℤ (L.hold *ℤ G X X) ⩽ L.far *ℤ (N *ℤ ((pos n *ℤ pos n) *ℤ (p *ℤ p)))
  grow_bound n p {X} {Y} sX sY now = *ℤ_cancel L.w_positive
      (lin 8 (λ w h f N A e p n. 4 *≤ h ⊗ (w ⊗ A) ⊴ f ⊗ e ⇒ f *⊴ # 4 ⊗ e ⊴ w ⊗ N ⊗ p ² ⊗ n ² ⇒
      ⊩ w ⊗ (# 4 ⊗ (h ⊗ A)) ⊴ w ⊗ (f ⊗ (N ⊗ (n ² ⊗ p ²)))) refl
      w L.hold L.far N (G X X) (F L X Y) p (pos n) (L.holds X Y sX sY) L.far_nonneg now.by_growth)

  -- ---- any number of steps

  module _ (T : Fading L) where
    abbrev α : ℤ
    α = T.α

    abbrev β : ℤ
    β = T.β

    β²_positive : pos 0 ⋖ β *ℤ β
    β²_positive = mul-positive T.β-positive T.β-positive

    whole-positive : pos 0 ⋖ α +ℤ β
    whole-positive = le-<ℤ (lin 2 (λ a b. 1 *≤ # 0 ⊕ # 1 ⊴ a ⇒ 1 *≤ # 0 ⊴ b ⇒ ⊩ # 0 ⊕ # 1 ⊴ a ⊕ b) refl
        α β (<ℤ_le T.α-positive) (<ℤ_weaken T.β-positive))

    -- 4·β²·F(X,Y) ≤ w·N·(α + β)²·p²
    pub record Faded (p : ℤ) (X Y : Level) : Type 0 where
      pub by_fading : pos 4 *ℤ (β *ℤ β) *ℤ F L X Y ⩽ w *ℤ N *ℤ (p *ℤ p) *ℤ ((α +ℤ β) *ℤ (α +ℤ β))

    pub fade_start : (p : ℤ) → pos 0 ⩽ N → Faded p zeros zeros
    fade_start p hN = record {
      by_fading = lin 6 (λ b f w N p a. (# 4 ⊗ b ²) *⊴ f ⊴ # 0 ⇒ (w ⊗ p ² ⊗ a ²) *⊴ # 0 ⊴ N ⇒ ⊩ # 4 ⊗ b ² ⊗ f ⊴ w ⊗ N ⊗ p ² ⊗ a ²) refl
          β (F L zeros zeros) w N p (α +ℤ β) (nonneg_mul (0≤pos 4) (square_nonneg β)) at_rest
          (nonneg_mul (nonneg_mul (<ℤ_weaken L.w_positive) (square_nonneg p)) (square_nonneg (α +ℤ β))) hN;
    }

    -- √F shrinks to α of α + β parts, and what is rounded off adds the other β
    pub fade_step : (p : ℤ) {X Y r : Level} → still X → still Y → still r → pos 4 *ℤ G r r ⩽ N *ℤ (d *ℤ d) → Faded p X Y
        → Faded (p *ℤ d) (next X Y ⊞ (p ⊡ r)) (d ⊡ X)
    fade_step p {X} {Y} {r} sX sY sr off now =
        let K' : ℤ = w *ℤ N *ℤ ((p *ℤ d) *ℤ (p *ℤ d)) in
        let before : pos 4 *ℤ (β *ℤ β) *ℤ F L (next X Y) (d ⊡ X) ⩽ K' *ℤ (α *ℤ α) =
        *ℤ_cancel (mul-positive whole-positive whole-positive)
        (lin 7 (λ a b d k p f f'. (# 4 ⊗ b ²) *⊴ (a ⊕ b) ² ⊗ f' ⊴ a ² ⊗ (d ² ⊗ f) ⇒ (a ² ⊗ d ²) *⊴ # 4 ⊗ b ² ⊗ f ⊴ k ⊗ p ² ⊗ (a ⊕ b) ² ⇒
        ⊩ (a ⊕ b) ² ⊗ (# 4 ⊗ b ² ⊗ f') ⊴ (a ⊕ b) ² ⊗ (k ⊗ (p ⊗ d) ² ⊗ a ²)) refl
        α β d (w *ℤ N) p (F L X Y) (F L (next X Y) (d ⊡ X))
        (nonneg_mul (0≤pos 4) (square_nonneg β)) (T.shrinks X Y sX sY) (nonneg_mul (square_nonneg α) (square_nonneg d))
        now.by_fading) in
        record {
          by_fading = of_still (pos 4 *ℤ (β *ℤ β)) (inside X Y) (still-scale p sr) (still-scale d sX)
              (triangle (part_form moving (times w G_form)) (part_form moving L.W_form) (part_form moving L.R_form) part_nonneg
              (mul-positive (0<pos 3) β²_positive) K' (next X Y) (d ⊡ X) (p ⊡ r) T.α-positive T.β-positive)
              before (off_small (β *ℤ β) p r (square_nonneg β) off);
        }

    -- 4·β²·hold·G(X,X) ≤ far·N·(α + β)²·p²
    pub fade_bound : (p : ℤ) {X Y : Level} → still X → still Y → Faded p X Y
        → pos 4 *ℤ ((β *ℤ β) *ℤ (L.hold *ℤ G X X)) ⩽ L.far *ℤ (N *ℤ (((α +ℤ β) *ℤ (α +ℤ β)) *ℤ (p *ℤ p)))
    fade_bound p {X} {Y} sX sY now = *ℤ_cancel L.w_positive
        (lin 9 (λ w b h f N A e p a. (# 4 ⊗ b ²) *⊴ h ⊗ (w ⊗ A) ⊴ f ⊗ e ⇒ f *⊴ # 4 ⊗ b ² ⊗ e ⊴ w ⊗ N ⊗ p ² ⊗ a ² ⇒
        ⊩ w ⊗ (# 4 ⊗ (b ² ⊗ (h ⊗ A))) ⊴ w ⊗ (f ⊗ (N ⊗ (a ² ⊗ p ²)))) refl
        w β L.hold L.far N (G X X) (F L X Y) p (α +ℤ β)
        (nonneg_mul (0≤pos 4) (square_nonneg β)) (L.holds X Y sX sY) L.far_nonneg now.by_fading)
