-- The balance of the neighbour rule, for line and grid at once:
-- what goes from each point to its neighbours, weighted, is twice what goes both ways over the pairs.
-- Nothing here depends on the kind: a free end has half the weight and its one neighbour twice.
use mathlib.Core.Path.{◌≡◌, refl, sym, ap, ap₂, ◌∙◌, subst}
use mathlib.Core.Bool.{Bool, true, false, cond}
use mathlib.Core.List.{◌++◌}
use Prim.Native.Nat.{ℕ, ◌+◌, ◌-◌, ◌*◌, ◌/◌, ◌%◌, ◌<◌}
use native.Mathlib.Nat as N
use native.Mathlib.Omega.{arith}
use borrow.Author.Tests.{ltb-true, ltb-false, lt-ltb, le-ltb}
use lib.Dec.{ltb}
use lib.IntN.{ℤ, pos, neg_ℤ, ◌+ℤ◌, ◌-ℤ◌, ◌*ℤ◌, +ℤ_idl, +ℤ_idr, *ℤ_comm}
use Rattle.integers.specs.Sum.{sum, sum_over}
use Rattle.integers.proofs.Ring.{#◌, ⊝◌, ◌⊕◌, ◌⊖◌, ◌⊗◌, ◌≈◌, ring}
use Rattle.integers.proofs.Sum.{sum_cong, sum_ext, sum-add, sum-scale, sum_split, sum_vanish, over_ext, over-append, over-scale}
use Rattle.types.specs.declared.Grid.{Grid}
use Rattle.scheme.specs.Lists.{only}
use Rattle.scheme.specs.Instruments.{points, free_end}
use Rattle.scheme.specs.Step.{beside, neighbours, laplacian}
use Rattle.scheme.specs.Energy.{weight, later, pair_sum}
use Rattle.scheme.proofs.Laws.Step.{laplacian_differences}

-- two sums, one with its first k terms 0 and the other with its last k, and the rest the same
shift : (n k : ℕ) (F G : ℕ → ℤ) → ((i : ℕ) → i < k → F i ≡ pos 0) → ((i : ℕ) → i < n → F (k + i) ≡ G i)
    → ((i : ℕ) → i < k → G (n + i) ≡ pos 0) → sum (k + n) F ≡ sum (n + k) G
shift n k F G a b d =
    sum_split k n F ∙ ap₂ ◌+ℤ◌ (sum_vanish k a) (sum_cong n b) ∙ +ℤ_idl (sum n G) ∙
    sym (sum_split n k G ∙ ap (λ z. sum n G +ℤ z) (sum_vanish k d) ∙ +ℤ_idr (sum n G))

-- one term or none
abbrev pub term : Bool → ℤ → ℤ
term b z = cond b z (pos 0)

term-add : (b : Bool) (x y : ℤ) → term b (x +ℤ y) ≡ term b x +ℤ term b y
term-add true x y = refl
term-add false x y = refl

pub only_sum : (b : Bool) (j : ℕ) (f : ℕ → ℤ) → sum_over (only b j) f ≡ term b (f j)
unfolding only sum_over
only_sum true j f = +ℤ_idr (f j)
only_sum false j f = refl

-- ---- c columns, r rows: to the left is from the right, to above is from below

module _ (c r : ℕ) (hc : 0 < c) (hr : 0 < r) where
  -- a point has one to its left exactly if the point before has one to its right
  next-column : (i : ℕ) → ltb 0 ((1 + i) % c) ≡ ltb (i % c + 1) c
  next-column i = go (ltb (i % c + 1) c) refl
    where
      step : (1 + i) % c ≡ (i % c + 1) % c
      step = ap (λ (n : ℕ). n % c) (N.add_comm 1 i) ∙ sym (N.mod-add-mod i c 1)

      go : (b : Bool) → ltb (i % c + 1) c ≡ b → ltb 0 ((1 + i) % c) ≡ b
      go true e =
          let w : i % c + 1 < c = ltb-true (i % c + 1) c e in
          lt-ltb 0 ((1 + i) % c) (omega (arith, step, N.mod-eq_of_lt w))
      go false e =
          let w : i % c + 1 ≡ c = omega (arith, ltb-false (i % c + 1) c e, N.mod-lt i hc) in
          le-ltb 0 ((1 + i) % c) (omega (arith, step, ap (λ (n : ℕ). n % c) w, N.mod_self c))

  rows_split : c * r ≡ c * (r - 1) + c
  rows_split = ap (λ (n : ℕ). c * n) (omega arith) ∙ N.mul-suc c (r - 1)

  last_column : (c * r - 1) % c ≡ c - 1
  last_column =
      let split : c * r - 1 ≡ c * (r - 1) + (c - 1) = omega (arith, rows_split) in
      ap (λ (n : ℕ). n % c) split ∙ N.mul-add-mod_self_left c (r - 1) (c - 1) ∙ N.mod-eq_of_lt (omega arith)

  module _ (φ : ℕ → ℕ → ℤ) where
    abbrev to_left : ℕ → ℤ
    to_left i = term (ltb 0 (i % c)) (φ i (i - 1))

    abbrev from_right : ℕ → ℤ
    from_right i = term (ltb (i % c + 1) c) (φ (i + 1) i)

    abbrev to_above : ℕ → ℤ
    to_above i = term (ltb 0 (i / c)) (φ i (i - c))

    abbrev from_below : ℕ → ℤ
    from_below i = term (ltb (i / c + 1) r) (φ (i + c) i)

    across : sum (c * r) to_left ≡ sum (c * r) from_right
    across =
        ap (λ (n : ℕ). sum n to_left) (omega (arith, N.mul-pos hc hr)) ∙
        shift (c * r - 1) 1 to_left from_right first inner last ∙
        ap (λ (n : ℕ). sum n from_right) (omega (arith, N.mul-pos hc hr))
      where
        first : (i : ℕ) → i < 1 → to_left i ≡ pos 0
        first i p = ap (λ (b : Bool). term b (φ i (i - 1))) (le-ltb 0 (i % c) (omega (arith, N.mod-le i c)))

        inner : (i : ℕ) → i < c * r - 1 → to_left (1 + i) ≡ from_right i
        inner i p = ap₂ term (next-column i) (ap₂ φ (N.add_comm 1 i) (omega arith))

        last : (i : ℕ) → i < 1 → from_right (c * r - 1 + i) ≡ pos 0
        last i p =
            let here : c * r - 1 + i ≡ c * r - 1 = omega arith in
            ap (λ (b : Bool). term b (φ (c * r - 1 + i + 1) (c * r - 1 + i)))
            (le-ltb ((c * r - 1 + i) % c + 1) c (omega (arith, ap (λ (n : ℕ). n % c) here, last_column)))

    down : sum (c * r) to_above ≡ sum (c * r) from_below
    down =
        ap (λ (n : ℕ). sum n to_above) (rows_split ∙ N.add_comm (c * (r - 1)) c) ∙
        shift (c * (r - 1)) c to_above from_below first inner last ∙
        ap (λ (n : ℕ). sum n from_below) (sym rows_split)
      where
        first : (i : ℕ) → i < c → to_above i ≡ pos 0
        first i p = ap (λ (b : Bool). term b (φ i (i - c))) (le-ltb 0 (i / c) (omega (arith, N.div-eq_of_lt p)))

        inner : (i : ℕ) → i < c * (r - 1) → to_above (c + i) ≡ from_below i
        inner i p =
            ap₂ term
            (lt-ltb 0 ((c + i) / c) (omega (arith, N.add-div_left i hc)) ∙
            sym (lt-ltb (i / c + 1) r (omega (arith, (N.div-lt_iff_lt-mul hc).1 (subst (λ (n : ℕ). i < n) (N.mul_comm c (r - 1)) p)))))
            (ap₂ φ (N.add_comm c i) (omega arith))

        last : (i : ℕ) → i < c → from_below (c * (r - 1) + i) ≡ pos 0
        last i p =
            ap (λ (b : Bool). term b (φ (c * (r - 1) + i + c) (c * (r - 1) + i)))
            (le-ltb ((c * (r - 1) + i) / c + 1) r (omega (arith, N.mul-add-div hc (r - 1) i, N.div-eq_of_lt p)))

-- ---- the rule

module _ (g : Grid) (hc : 0 < g.columns) (hr : 0 < g.rows) (φ : ℕ → ℕ → ℤ) where
  abbrev C : ℕ
  C = g.columns

  abbrev R : ℕ
  R = g.rows

  abbrev to_right : ℕ → ℤ
  to_right i = term (ltb (i % C + 1) C) (φ i (i + 1))

  abbrev to_below : ℕ → ℤ
  to_below i = term (ltb (i / C + 1) R) (φ i (i + C))

  beside_is : (i : ℕ) → sum_over (beside g i) (φ i) ≡ to_left C R hc hr φ i +ℤ (to_right i +ℤ (to_above C R hc hr φ i +ℤ to_below i))
  unfolding beside
  beside_is i = simp (over-append, only_sum)

  later_is : (i : ℕ) → sum_over (later g i) (λ j. φ i j +ℤ φ j i) ≡ (to_right i +ℤ from_right C R hc hr φ i)
      +ℤ (to_below i +ℤ from_below C R hc hr φ i)
  unfolding later
  later_is i = simp (over-append, only_sum, term-add)

  -- over all points: what stands beside them, and the pairs both ways
  pub beside_balance : sum (points g) (λ i. sum_over (beside g i) (φ i)) ≡ sum (points g) (λ i. sum_over (later g i) (λ j. φ i j +ℤ φ j i))
  beside_balance =
      sum_ext n beside_is ∙ sum-add n _ _ ∙ ap (λ z. sum n (to_left C R hc hr φ) +ℤ z)
      (sum-add n _ _ ∙ ap (λ z. sum n to_right +ℤ z) (sum-add n _ _)) ∙
      ap₂ (λ x y. x +ℤ (sum n to_right +ℤ (y +ℤ sum n to_below))) (across C R hc hr φ) (down C R hc hr φ) ∙
      ring 4 (λ a b c d. a ⊕ (b ⊕ (c ⊕ d)) ≈ (b ⊕ a) ⊕ (d ⊕ c)) refl (sum n (from_right C R hc hr φ)) (sum n to_right)
      (sum n (from_below C R hc hr φ)) (sum n to_below) ∙
      sym (sum_ext n later_is ∙ sum-add n _ _ ∙ ap₂ ◌+ℤ◌ (sum-add n _ _) (sum-add n _ _))
    where
      n : ℕ
      n = points g

  -- half the weight, twice the neighbour
  weighted : (i : ℕ) → pos (weight g i) *ℤ sum_over (neighbours g i) (φ i) ≡ pos 2 *ℤ sum_over (beside g i) (φ i)
  unfolding weight neighbours
  weighted i = go (free_end g i)
    where
      go : (b : Bool) → pos (cond b 1 2) *ℤ sum_over (cond b (beside g i ++ beside g i) (beside g i)) (φ i) ≡ pos 2
          *ℤ sum_over (beside g i) (φ i)
      go true = ap (λ z. pos 1 *ℤ z) (over-append (beside g i) (beside g i) (φ i))
          ∙ ring 1 (λ a. # 1 ⊗ (a ⊕ a) ≈ # 2 ⊗ a) refl (sum_over (beside g i) (φ i))
      go false = refl

  pub balance : sum (points g) (λ i. pos (weight g i) *ℤ sum_over (neighbours g i) (φ i)) ≡ pos 2
      *ℤ sum (points g) (λ i. sum_over (later g i) (λ j. φ i j +ℤ φ j i))
  balance = sum_ext (points g) weighted ∙ sum-scale (points g) (pos 2) _ ∙ ap (λ z. pos 2 *ℤ z) beside_balance

-- summation by parts: Σ w·L(a)·b = −2·(sum over pairs of difference in a × difference in b)
pub by_parts : (g : Grid) → 0 < g.columns → 0 < g.rows → (a b : ℕ → ℤ)
    → sum (points g) (λ i. pos (weight g i) *ℤ (laplacian g a i *ℤ b i)) ≡ neg_ℤ (pos 2) *ℤ pair_sum g a b
unfolding pair_sum
by_parts g hc hr a b =
    sum_ext (points g) (λ i. ap (λ z. pos (weight g i) *ℤ z) (turn i)) ∙
    balance g hc hr (λ i j. b i *ℤ (a j -ℤ a i)) ∙
    ap (λ z. pos 2 *ℤ z) (sum_ext (points g) (λ i. over_ext (later g i) (λ j. swap (a i) (a j) (b i) (b j))
    ∙ over-scale (later g i) (neg_ℤ (pos 1)) _) ∙ sum-scale (points g) (neg_ℤ (pos 1)) _) ∙
    ring 1 (λ x. # 2 ⊗ (⊝ # 1 ⊗ x) ≈ ⊝ # 2 ⊗ x) refl (sum (points g) (λ i. sum_over (later g i) (λ j. (a j -ℤ a i) *ℤ (b j -ℤ b i))))
  where
    turn : (i : ℕ) → laplacian g a i *ℤ b i ≡ sum_over (neighbours g i) (λ j. b i *ℤ (a j -ℤ a i))
    turn i = ap (λ z. z *ℤ b i) (laplacian_differences g a i) ∙ *ℤ_comm _ (b i) ∙ sym (over-scale (neighbours g i) (b i) (λ j. a j -ℤ a i))

    swap : (ai aj bi bj : ℤ) → bi *ℤ (aj -ℤ ai) +ℤ bj *ℤ (ai -ℤ aj) ≡ neg_ℤ (pos 1) *ℤ ((aj -ℤ ai) *ℤ (bj -ℤ bi))
    swap ai aj bi bj = ring 4 (λ ai aj bi bj. bi ⊗ (aj ⊖ ai) ⊕ bj ⊗ (ai ⊖ aj) ≈ ⊝ # 1 ⊗ ((aj ⊖ ai) ⊗ (bj ⊖ bi))) refl ai aj bi bj
