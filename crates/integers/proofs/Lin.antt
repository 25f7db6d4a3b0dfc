-- Inequalities and equations over ℤ from hypotheses, by a certificate: multiples of the hypotheses that add up to the goal.
-- `lin 3 (λ x y z. 1 *≤ x ⊴ y ⇒ 1 *≤ y ⊴ z ⇒ ⊩ x ⊴ z) refl a b c h k : a ⩽ c`, with `h : a ⩽ b` and `k : b ⩽ c`.
-- A fact is taken a natural number of times (`k *≤ a ⊴ b`), or an expression's times,
-- with a proof that this is not negative before the fact's own (`c *⊴ a ⊴ b`),
-- or, an equation, any expression's times (`c *≈ a ≈ b`).
-- For `⊩ l ⊴ r` the difference `r - l`, less the sum of the facts' differences, must come to a natural number.
-- For `⊩≈ l ≈ r` only the equations count, and `l - r` less the sum of the `c * (a - b)` must come to nothing.
-- Where `refl` is refused, the refusal shows what is left over.
use mathlib.Core.Path.{◌≡◌, refl, sym, ◌∙◌, ap, ap₂}
use mathlib.Core.List.{List, []}
use mathlib.Core.Logic.{◌⊎◌, inl, inr}
use Prim.Native.Nat.{ℕ, suc}
use native.Mathlib.Omega.{arith}
use lib.IntN.{ℤ, pos, ◌+ℤ◌, ◌-ℤ◌, ◌*ℤ◌, +ℤ_invr, *ℤ-zero}
use lib.Signed.{≤ℤ_refl}
use Rattle.integers.proofs.Laws.{eq_of_sub}
use Rattle.integers.proofs.Ring.{E, ◌⊕◌, ◌⊖◌, ◌⊗◌, #◌, Eqn, ◌≈◌, den, norm, nil, drop_const, zero_sound, const_sound, Of, applied}
use Rattle.integers.proofs.Ring.{ForAll, for_all, ring}
use Rattle.integers.proofs.Order.{◌⩽◌, 0≤pos, pos-suc, pos≰0, le_or_above, ≤ℤ_of_eq, ≤ℤ-≡, nonneg_add, nonneg_mul, sub_nonneg}
use Rattle.integers.proofs.Order.{≤ℤ_of_sub}

infix 4 ◌⊴◌
infix 3 ◌*≤◌ ◌*⊴◌ ◌*≈◌
infixr 2 ◌⇒◌
infix 2 ⊩◌ ⊩≈◌
pub data Ineq : Type 0 where
  ◌⊴◌ : E → E → Ineq

pub data Fact : Type 0 where
  ◌*≤◌ : ℕ → Ineq → Fact
  ◌*⊴◌ : E → Ineq → Fact
  ◌*≈◌ : E → Eqn → Fact

pub data Claim : Type 0 where
  ⊩◌ : Ineq → Claim
  ⊩≈◌ : Eqn → Claim
  ◌⇒◌ : Fact → Claim → Claim

-- what a fact adds to an inequality, and to an equation
abbrev pub adds : E → Fact → E
adds t (k *≤ (a ⊴ b)) = t ⊕ # k ⊗ (b ⊖ a)
adds t (c *⊴ (a ⊴ b)) = t ⊕ c ⊗ (b ⊖ a)
adds t (c *≈ (a ≈ b)) = t ⊕ c ⊗ (a ⊖ b)

abbrev pub adds≈ : E → Fact → E
adds≈ u (k *≤ (a ⊴ b)) = u
adds≈ u (c *⊴ (a ⊴ b)) = u
adds≈ u (c *≈ (a ≈ b)) = u ⊕ c ⊗ (a ⊖ b)

abbrev pub Valid : E → E → Claim → Type 0
Valid t u (⊩ (a ⊴ b)) = drop_const (norm (b ⊖ a ⊖ t)) ≡ nil
Valid t u (⊩≈ (a ≈ b)) = norm (a ⊖ b ⊖ u) ≡ nil
Valid t u (f ⇒ g) = Valid (adds t f) (adds≈ u f) g

abbrev pub Given : Fact → List ℤ → Type 0 → Type 0
Given (k *≤ (a ⊴ b)) ρ G = den a ρ ⩽ den b ρ → G
Given (c *⊴ (a ⊴ b)) ρ G = pos 0 ⩽ den c ρ → den a ρ ⩽ den b ρ → G
Given (c *≈ (a ≈ b)) ρ G = den a ρ ≡ den b ρ → G

abbrev pub Means : Claim → List ℤ → Type 0
Means (⊩ (a ⊴ b)) ρ = den a ρ ⩽ den b ρ
Means (⊩≈ (a ≈ b)) ρ = den a ρ ≡ den b ρ
Means (f ⇒ g) ρ = Given f ρ (Means g ρ)

vanish : (c a b : ℤ) → a ≡ b → c *ℤ (a -ℤ b) ≡ pos 0
vanish c a b h = ap (λ x. c *ℤ (x -ℤ b)) h ∙ ap (λ x. c *ℤ x) (+ℤ_invr b) ∙ *ℤ-zero c

module _ (ρ : List ℤ) where
  gather : (f : Fact) (t u : E) → pos 0 ⩽ den t ρ → den u ρ ≡ pos 0 → (G : Type 0)
      → (pos 0 ⩽ den (adds t f) ρ → den (adds≈ u f) ρ ≡ pos 0 → G) → Given f ρ G
  gather (k *≤ (a ⊴ b)) t u p q G go = λ h. go (nonneg_add p (nonneg_mul (0≤pos k) (sub_nonneg h))) q
  gather (c *⊴ (a ⊴ b)) t u p q G go = λ n h. go (nonneg_add p (nonneg_mul n (sub_nonneg h))) q
  gather (c *≈ (a ≈ b)) t u p q G go = λ h.
      go (nonneg_add p (≤ℤ_of_eq (sym (vanish (den c ρ) (den a ρ) (den b ρ) h)))) (ap₂ ◌+ℤ◌ q (vanish (den c ρ) (den a ρ) (den b ρ) h))

  sound : (g : Claim) (t u : E) → pos 0 ⩽ den t ρ → den u ρ ≡ pos 0 → Valid t u g → Means g ρ
  sound (⊩ (a ⊴ b)) t u p q v = ≤ℤ_of_sub
      (let d = const_sound ρ (b ⊖ a ⊖ t) v in
      ≤ℤ-≡ (nonneg_add (≤ℤ-≡ (0≤pos d.0) (sym d.1)) p) (ring 2 (λ x y. (x ⊖ y) ⊕ y ≈ x) refl (den b ρ -ℤ den a ρ) (den t ρ)))
  sound (⊩≈ (a ≈ b)) t u p q v = eq_of_sub (den a ρ) (den b ρ)
      (sym (ring 2 (λ x y. (x ⊖ y) ⊕ y ≈ x) refl (den a ρ -ℤ den b ρ) (den u ρ)) ∙ ap₂ ◌+ℤ◌ (zero_sound ρ (a ⊖ b ⊖ u) v) q)
  sound (f ⇒ g) t u p q v = gather f t u p q (Means g ρ) (λ p' q'. sound g (adds t f) (adds≈ u f) p' q' v)

abbrev pub Certain : Claim → Type 0
Certain g = Valid (# 0) (# 0) g

-- a claim about n whole numbers
pub lin : (n : ℕ) (g : Of n Claim) → Certain (applied n g) → ForAll n (Means (applied n g)) []
lin n g v = for_all n (Means (applied n g)) (λ ρ. sound ρ (applied n g) (# 0) (# 0) (≤ℤ_refl (pos 0)) refl v) []

-- what is at most y however often it is taken, y + 1 times already, is not positive
pub at_most_zero : (x y : ℤ) → pos 0 ⩽ y → (y +ℤ pos 1) *ℤ x ⩽ y → x ⩽ pos 0
at_most_zero x y hy h = go (le_or_above x (pos 0))
  where
    go : (x ⩽ pos 0) ⊎ ((n : ℕ) × (x ≡ pos 0 +ℤ pos (suc n))) → x ⩽ pos 0
    go (inl l) = l
    go (inr e) = absurd (pos≰0 {n = 1} (omega arith)
        (lin 4 (λ x y m n. 1 *≤ (y ⊕ # 1) ⊗ x ⊴ y ⇒ (y ⊕ # 1) *≈ x ≈ # 0 ⊕ m ⇒ (y ⊕ # 1) *≈ m ≈ # 1 ⊕ n ⇒ (y ⊕ # 1) *⊴ # 0 ⊴ n ⇒ ⊩ # 1
        ⊴ # 0) refl
        x y (pos (suc e.0)) (pos e.0) h e.1 (pos-suc e.0) (nonneg_add hy (0≤pos 1)) (0≤pos e.0)))
