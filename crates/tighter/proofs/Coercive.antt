-- The energy bounds the levels themselves where an edge is fixed (it is coercive), with η the edge's grip and κ its reach:
-- η·q·(G(a,a) + G(b,b)) ≤ κ·E(a,b), and η²·2m·(G(a,a) + G(b,b)) ≤ κ²·E(a,b).
-- With c = a − b and e = a + b, P the sum over pairs of (difference)², J of (sum)², Λ the sum of L²:
-- 4E ≥ 2q·(J(c) + P(e)) + 4K·m·J(c) + 2m·Λ(e), by the stability limits and P + J ≤ K·G.
use mathlib.Core.Path.{◌≡◌, refl, sym, ap, ◌∙◌}
use mathlib.Core.Bool.{Bool, true, false, cond}
use mathlib.Core.Logic.{◌⊎◌, inl, inr}
use Prim.Native.Nat.{ℕ, ◌+◌, ◌*◌, ◌<◌}
use lib.IntN.{ℤ, pos, negsuc, neg_ℤ, ◌+ℤ◌, ◌-ℤ◌, ◌*ℤ◌, *ℤ-zero, zero-*ℤ}
use lib.ListN.{length}
use Rattle.integers.proofs.Ring.{#◌, ⊝◌, ◌⊕◌, ◌⊖◌, ◌⊗◌, ◌≈◌, ring}
use Rattle.integers.proofs.Order.{◌⩽◌, 0≤pos, 0<pos, pos≤, square_nonneg, nonneg_mul, *ℤ_mono_l, *ℤ_cancel, ≡-≤ℤ, ≤ℤ-≡}
use Rattle.integers.proofs.Lin.{◌⊴◌, ◌*≤◌, ◌*⊴◌, ◌*≈◌, ◌⇒◌, ⊩◌, lin}
use Rattle.integers.proofs.Sum.{sum_ext, sum-add, sum-scale, sum_mono, sum_nonneg, over_ext, over_add, over_nonneg, over_const}
use Rattle.forms.proofs.Level.{Level, ◌⊞◌, ◌⊡◌, Still, still-add, still-scale}
use Rattle.forms.proofs.Form.{square-sum, square-difference, square_combination, polarisation}
use Rattle.types.specs.declared.Grid.{Grid}
use Rattle.types.specs.declared.Instrument.{Instrument}
use Rattle.types.specs.Numbers.{D}
use Rattle.scheme.specs.Instruments.{kind, points, moving}
use Rattle.scheme.specs.Step.{beside, laplacian, inner_laplacian}
use Rattle.scheme.specs.Energy.{weight, later, pair_sum, laplacian_sum, energy}
use Rattle.scheme.specs.Passing.{InstrumentPasses}
use Rattle.scheme.proofs.Laws.Kinds.{degree, stable_means}
use Rattle.scheme.proofs.Theorems.Balance.{beside_balance}
use Rattle.scheme.proofs.Theorems.Forms.{weighed, weighed_form, weighed_nonneg, pair_form, pair_nonneg, laplacian_form, laplacian_nonneg}
use Rattle.scheme.proofs.Theorems.Forms.{laplacian_parts, squares_are}
use Rattle.scheme.proofs.Theorems.Bounds.{some_columns, some_rows, soft_or_held, few_beside, stiffness-bound}
use Rattle.tighter.specs.Bounds.{edge, grip, reach}
use Rattle.tighter.proofs.Edge.{over_pairs, by_differences, by_sums}

-- Σ over the pairs of (sum)²
abbrev pub join_sum : Grid → Level → ℤ
join_sum g c = over_pairs g (λ k j. (c j +ℤ c k) *ℤ (c j +ℤ c k))

pub join_nonneg : (g : Grid) (c : Level) → pos 0 ⩽ join_sum g c
join_nonneg g c = sum_nonneg (points g) (λ k l. over_nonneg (later g k) (λ j. square_nonneg (c j +ℤ c k)))

module _ (i : Instrument) (ok : InstrumentPasses i) where
  abbrev g : Grid
  g = i.grid

  abbrev K : ℕ
  K = degree (kind i.grid)

  abbrev q : ℤ
  q = pos i.settings.q

  abbrev m : ℤ
  m = pos i.settings.m

  -- P(c) + J(c) ≤ K·G(c,c), from (y − x)² + (y + x)² = 2x² + 2y²
  parallelogram : (c : Level) → pair_sum g c c +ℤ join_sum g c ⩽ pos K *ℤ weighed g c c
  unfolding pair_sum weighed
  parallelogram c =
      ≡-≤ℤ (sym (sum-add (points g) _ _) ∙ sum_ext (points g)
      (λ k. sym (over_add (later g k) _ _) ∙ over_ext (later g k) (λ j. both (c k) (c j))) ∙
      sym (beside_balance g (some_columns i ok) (some_rows i ok) (λ k j. pos 2 *ℤ (c k *ℤ c k))))
      (≤ℤ-≡ (sum_mono (points g) (λ k l. ≡-≤ℤ (over_const (beside g k) (pos 2 *ℤ (c k *ℤ c k))) (each k l)))
      (sum-scale (points g) (pos K) _))
    where
      both : (x y : ℤ) → (y -ℤ x) *ℤ (y -ℤ x) +ℤ (y +ℤ x) *ℤ (y +ℤ x) ≡ pos 2 *ℤ (x *ℤ x) +ℤ pos 2 *ℤ (y *ℤ y)
      both x y = ring 2 (λ x y. (y ⊖ x) ⊗ (y ⊖ x) ⊕ (y ⊕ x) ⊗ (y ⊕ x) ≈ # 2 ⊗ (x ⊗ x) ⊕ # 2 ⊗ (y ⊗ y)) refl x y

      each : (k : ℕ) → k < points g → pos (length (beside g k)) *ℤ (pos 2 *ℤ (c k *ℤ c k)) ⩽ pos K *ℤ (pos (weight g k) *ℤ (c k *ℤ c k))
      each k l = lin 4 (λ n K w x. x *⊴ # 2 ⊗ n ⊴ K ⊗ w ⇒ ⊩ n ⊗ (# 2 ⊗ x) ⊴ K ⊗ (w ⊗ x)) refl
          (pos (length (beside g k))) (pos K) (pos (weight g k)) (c k *ℤ c k) (square_nonneg (c k)) (pos≤ (few_beside i ok k l))

  -- 4E ≥ 2q·(J(c) + P(e)) + 4K·m·J(c) + 2m·Λ(e)
  energy-below : (a b : Level) → let c : Level = a ⊞ (negsuc 0 ⊡ b) in let e : Level = a ⊞ b in
      pos 2 *ℤ q *ℤ (join_sum g c +ℤ pair_sum g e e) +ℤ pos 4 *ℤ (m *ℤ pos K) *ℤ join_sum g c +ℤ pos 2 *ℤ m *ℤ laplacian_sum g e e
      ⩽ pos 4 *ℤ energy i a b
  unfolding energy
  energy-below a b = let c : Level = a ⊞ (negsuc 0 ⊡ b) in let e : Level = a ⊞ b in
      ≤ℤ-≡
      (lin 12 (λ q m K G p P x l Λ y D J. (# 2 ⊗ q) *≈ # 4 ⊗ x ≈ P ⊖ p ⇒ (# 2 ⊗ m) *≈ # 4 ⊗ y ≈ Λ ⊖ l ⇒ 2 *≤ m ⊗ l ⊴ m ⊗ (K ⊗ (# 2 ⊗ p)) ⇒
      (# 2 ⊗ q ⊕ # 4 ⊗ (m ⊗ K)) *⊴ p ⊕ J ⊴ K ⊗ G ⇒ (# 2 ⊗ G) *⊴ K ⊗ q ⊕ # 2 ⊗ (K ⊗ K) ⊗ m ⊴ # 2 ⊗ D ⇒
      ⊩ # 2 ⊗ q ⊗ (J ⊕ P) ⊕ # 4 ⊗ (m ⊗ K) ⊗ J ⊕ # 2 ⊗ m ⊗ Λ ⊴ # 4 ⊗ (D ⊗ G ⊕ (# 2 ⊗ q) ⊗ x ⊕ (# 2 ⊗ m) ⊗ y)) refl
      q m (pos K) (weighed g c c) (pair_sum g c c) (pair_sum g e e) (pair_sum g a b) (laplacian_sum g c c) (laplacian_sum g e e)
      (laplacian_sum g a b) (pos D) (join_sum g c)
      (polarisation (pair_form g) a b) (polarisation (laplacian_form g) a b) (stiffness-bound i ok c)
      (0≤pos (2 * i.settings.q + 4 * (i.settings.m * K))) (parallelogram c)
      (nonneg_mul (0≤pos 2) (weighed_nonneg g c)) (pos≤ (stable_means (kind g) i.settings.q i.settings.m ok.stable)))
      (ap (λ z. pos 4 *ℤ (pos D *ℤ z +ℤ pos (2 * i.settings.q) *ℤ pair_sum g a b +ℤ pos (2 * i.settings.m) *ℤ laplacian_sum g a b))
      (sym (squares_are g a b)))

  abbrev grip_g : ℕ
  grip_g = grip (edge i.grid)

  abbrev reach_g : ℕ
  reach_g = reach (edge i.grid)

  abbrev η : ℤ
  η = pos grip_g

  abbrev κ : ℤ
  κ = pos reach_g

  held_differences : {e : Level} → Still (moving g) e → η *ℤ weighed g e e ⩽ κ *ℤ pair_sum g e e
  held_differences {e} s = by_differences g ok.size e s

  held_sums : {c : Level} → Still (moving g) c → η *ℤ weighed g c c ⩽ κ *ℤ join_sum g c
  held_sums {c} s = by_sums g ok.size c s

  -- 2η²·G ≤ κ²·Λ where there is stiffness: from 0 ≤ G(2η·e + κ·L(e)) and η·G ≤ κ·P = −κ·Σ e·L(e)
  twice_held : {e : Level} → Still (moving g) e → m *ℤ (pos 2 *ℤ (η *ℤ η *ℤ weighed g e e)) ⩽ m *ℤ (κ *ℤ κ *ℤ laplacian_sum g e e)
  unfolding weighed laplacian_sum inner_laplacian
  twice_held {e} s = go (soft_or_held i ok)
    where
      ℓ : Level
      ℓ = inner_laplacian g e

      inner : (k : ℕ) → ℓ k *ℤ e k ≡ laplacian g e k *ℤ e k
      inner k = cut (moving g k) (laplacian g e k) (e k) (s.still k)
        where
          cut : (t : Bool) (n x : ℤ) → (t ≡ false → x ≡ pos 0) → cond t n (pos 0) *ℤ x ≡ n *ℤ x
          cut true n x z = refl
          cut false n x z = zero-*ℤ x ∙ sym (ap (λ y. n *ℤ y) (z refl) ∙ *ℤ-zero n)

      mixed : weighed g e ℓ ≡ neg_ℤ (pos 2) *ℤ pair_sum g e e
      mixed = (weighed_form g).symm e ℓ ∙ sum_ext (points g) (λ k. ap (λ z. pos (weight g k) *ℤ z) (inner k)) ∙
          laplacian_parts g (some_columns i ok) (some_rows i ok) e e

      held : ((k : ℕ) → weight g k ≡ 2) → pos 2 *ℤ (η *ℤ η *ℤ weighed g e e) ⩽ κ *ℤ κ *ℤ laplacian_sum g e e
      held two =
          let both : weighed g ℓ ℓ ≡ pos 2 *ℤ laplacian_sum g e e =
          sum_ext (points g) (λ k. ap (λ (n : ℕ). pos n *ℤ (ℓ k *ℤ ℓ k)) (two k)) ∙ sum-scale (points g) (pos 2) (λ k. ℓ k *ℤ ℓ k) in
          *ℤ_cancel (0<pos 1)
          (lin 7 (λ η κ G P Λ x y. 1 *≤ # 0 ⊴ (# 2 ⊗ η) ⊗ ((# 2 ⊗ η) ⊗ G) ⊕ # 2 ⊗ ((# 2 ⊗ η) ⊗ (κ ⊗ x)) ⊕ κ ⊗ (κ ⊗ y) ⇒
          (⊝ (# 4 ⊗ η ⊗ κ)) *≈ x ≈ (⊝ # 2) ⊗ P ⇒ (⊝ (κ ⊗ κ)) *≈ y ≈ # 2 ⊗ Λ ⇒ (# 8 ⊗ η) *⊴ η ⊗ G ⊴ κ ⊗ P ⇒
          ⊩ # 2 ⊗ (# 2 ⊗ (η ⊗ η ⊗ G)) ⊴ # 2 ⊗ (κ ⊗ κ ⊗ Λ)) refl
          η κ (weighed g e e) (pair_sum g e e) (laplacian_sum g e e) (weighed g e ℓ) (weighed g ℓ ℓ)
          (≤ℤ-≡ (weighed_nonneg g (((pos 2 *ℤ η) ⊡ e) ⊞ (κ ⊡ ℓ))) (square_combination (weighed_form g) (pos 2 *ℤ η) κ e ℓ)) mixed both
          (0≤pos (8 * grip_g)) (held_differences s))

      go : (i.settings.m ≡ 0) ⊎ ((k : ℕ) → weight g k ≡ 2)
          → m *ℤ (pos 2 *ℤ (η *ℤ η *ℤ weighed g e e)) ⩽ m *ℤ (κ *ℤ κ *ℤ laplacian_sum g e e)
      go (inl z) = lin 3 (λ m x y. (y ⊖ x) *≈ m ≈ # 0 ⇒ ⊩ m ⊗ x ⊴ m ⊗ y) refl
          m (pos 2 *ℤ (η *ℤ η *ℤ weighed g e e)) (κ *ℤ κ *ℤ laplacian_sum g e e) (ap pos z)
      go (inr two) = *ℤ_mono_l m (0≤pos i.settings.m) (held two)

  module _ (a b : Level) (sa : Still (moving i.grid) a) (sb : Still (moving i.grid) b) where
    abbrev c : Level
    c = a ⊞ (negsuc 0 ⊡ b)

    abbrev e : Level
    e = a ⊞ b

    sc : Still (moving g) c
    sc = still-add sa (still-scale (negsuc 0) sb)

    se : Still (moving g) e
    se = still-add sa sb

    pub by_tension_lem : η *ℤ q *ℤ (weighed g a a +ℤ weighed g b b) ⩽ κ *ℤ energy i a b
    by_tension_lem = *ℤ_cancel (0<pos 3)
        (lin 14 (λ q m K η κ E A B H Ge Gc J P Λ. κ *⊴ # 2 ⊗ q ⊗ (J ⊕ P) ⊕ # 4 ⊗ (m ⊗ K) ⊗ J ⊕ # 2 ⊗ m ⊗ Λ ⊴ # 4 ⊗ E ⇒
        (# 2 ⊗ q) *⊴ η ⊗ Ge ⊴ κ ⊗ P ⇒ (# 2 ⊗ q) *⊴ η ⊗ Gc ⊴ κ ⊗ J ⇒ (κ ⊗ (# 4 ⊗ (m ⊗ K))) *⊴ # 0 ⊴ J ⇒ (κ ⊗ (# 2 ⊗ m)) *⊴ # 0 ⊴ Λ ⇒
        (# 2 ⊗ (η ⊗ q)) *≈ Ge ≈ A ⊕ # 2 ⊗ H ⊕ B ⇒ (# 2 ⊗ (η ⊗ q)) *≈ Gc ≈ A ⊖ # 2 ⊗ H ⊕ B ⇒
        ⊩ # 4 ⊗ (η ⊗ q ⊗ (A ⊕ B)) ⊴ # 4 ⊗ (κ ⊗ E)) refl
        q m (pos K) η κ (energy i a b) (weighed g a a) (weighed g b b) (weighed g a b) (weighed g e e) (weighed g c c) (join_sum g c)
        (pair_sum g e e) (laplacian_sum g e e)
        (0≤pos reach_g) (energy-below a b) (0≤pos (2 * i.settings.q)) (held_differences se) (0≤pos (2 * i.settings.q))
        (held_sums sc)
        (0≤pos (reach_g * (4 * (i.settings.m * K)))) (join_nonneg g c) (0≤pos (reach_g * (2 * i.settings.m))) (laplacian_nonneg g e)
        (square-sum (weighed_form g) a b) (square-difference (weighed_form g) a b))

    -- η·G(c) ≤ K·κ·G(c)
    far_enough : η *ℤ weighed g c c ⩽ pos K *ℤ (κ *ℤ weighed g c c)
    far_enough = lin 6 (λ K η κ G P J. 1 *≤ η ⊗ G ⊴ κ ⊗ P ⇒ κ *⊴ P ⊕ J ⊴ K ⊗ G ⇒ κ *⊴ # 0 ⊴ J ⇒ ⊩ η ⊗ G ⊴ K ⊗ (κ ⊗ G)) refl
        (pos K) η κ (weighed g c c) (pair_sum g c c) (join_sum g c) (held_differences sc) (0≤pos reach_g) (parallelogram c)
        (0≤pos reach_g) (join_nonneg g c)

    pub by_stiffness_lem : η *ℤ η *ℤ (pos 2 *ℤ m) *ℤ (weighed g a a +ℤ weighed g b b) ⩽ κ *ℤ κ *ℤ energy i a b
    by_stiffness_lem = *ℤ_cancel (0<pos 3)
        (lin 14 (λ q m K η κ E A B H Ge Gc J P Λ. (κ ⊗ κ) *⊴ # 2 ⊗ q ⊗ (J ⊕ P) ⊕ # 4 ⊗ (m ⊗ K) ⊗ J ⊕ # 2 ⊗ m ⊗ Λ ⊴ # 4 ⊗ E ⇒
        2 *≤ m ⊗ (# 2 ⊗ (η ⊗ η ⊗ Ge)) ⊴ m ⊗ (κ ⊗ κ ⊗ Λ) ⇒ (κ ⊗ (# 4 ⊗ (m ⊗ K))) *⊴ η ⊗ Gc ⊴ κ ⊗ J ⇒
        (# 4 ⊗ (m ⊗ η)) *⊴ η ⊗ Gc ⊴ K ⊗ (κ ⊗ Gc) ⇒
        (κ ⊗ κ ⊗ (# 2 ⊗ q)) *⊴ # 0 ⊴ J ⇒ (κ ⊗ κ ⊗ (# 2 ⊗ q)) *⊴ # 0 ⊴ P ⇒
        (# 4 ⊗ (m ⊗ (η ⊗ η))) *≈ Ge ≈ A ⊕ # 2 ⊗ H ⊕ B ⇒ (# 4 ⊗ (m ⊗ (η ⊗ η))) *≈ Gc ≈ A ⊖ # 2 ⊗ H ⊕ B ⇒
        ⊩ # 4 ⊗ (η ⊗ η ⊗ (# 2 ⊗ m) ⊗ (A ⊕ B)) ⊴ # 4 ⊗ ((κ ⊗ κ) ⊗ E)) refl
        q m (pos K) η κ (energy i a b) (weighed g a a) (weighed g b b) (weighed g a b) (weighed g e e) (weighed g c c) (join_sum g c)
        (pair_sum g e e) (laplacian_sum g e e)
        (0≤pos (reach_g * reach_g)) (energy-below a b) (twice_held se) (0≤pos (reach_g * (4 * (i.settings.m * K)))) (held_sums sc)
        (0≤pos (4 * (i.settings.m * grip_g))) far_enough
        (0≤pos (reach_g * reach_g * (2 * i.settings.q))) (join_nonneg g c) (0≤pos (reach_g * reach_g * (2 * i.settings.q)))
        (pair_nonneg g e)
        (square-sum (weighed_form g) a b) (square-difference (weighed_form g) a b))
