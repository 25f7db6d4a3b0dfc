-- What an edge holds: grip × Σ w·c² ≤ reach × Σ over the pairs of (difference)², and the same with sums in the place of differences.
-- A line has it from `Line`, a grid from its rows and its columns, each of them a line with both ends fixed.
use mathlib.Core.Path.{◌≡◌, refl, sym, ap, ap₂, ◌∙◌, subst}
use mathlib.Core.Bool.{Bool, true, false, ◌||◌, cond, true≢false}
use Prim.Native.Nat.{ℕ, zero, suc, ◌+◌, ◌-◌, ◌*◌, ◌/◌, ◌%◌, ◌≤◌, ◌<◌}
use native.Mathlib.Nat as N
use native.Mathlib.Omega.{arith}
use borrow.Author.Tests.{lt-ltb, le-ltb, eqb-true, eq-eqb}
use lib.Dec.{T, ltb, eqb}
use lib.IntN.{ℤ, pos, negsuc, ◌+ℤ◌, ◌-ℤ◌, ◌*ℤ◌, +ℤ_idr}
use Rattle.integers.specs.Sum.{sum, sum_over}
use Rattle.integers.proofs.Ring.{#◌, con, ⊝◌, ◌⊕◌, ◌⊖◌, ◌⊗◌, ◌², ◌≈◌, ring}
use Rattle.integers.proofs.Order.{◌⩽◌, 0≤pos, pos≤, square_nonneg, *ℤ_mono_r, ≡-≤ℤ, ≤ℤ-≡, ≤ℤ_trans}
use Rattle.integers.proofs.Lin.{◌⊴◌, ◌*≤◌, ◌*⊴◌, ◌*≈◌, ◌⇒◌, ⊩◌, ⊩≈◌, lin}
use Rattle.integers.proofs.Sum.{sum_ext, sum_cong, sum-add, sum-scale, sum_0, sum_vanish, sum_mono, sum_nonneg, sum_split}
use Rattle.integers.proofs.Sum.{over-append, over_nonneg}
use Rattle.forms.proofs.Level.{Level, Still}
use Rattle.types.specs.declared.Grid.{Grid}
use Rattle.types.specs.declared.Kind.{Kind}
use Rattle.types.specs.declared.Kind.TheVariants.{Unknown, StringFixed, StringFixedFree, StringFree, Bar, MembraneRectangular, MembraneRound, Plate}
use Rattle.scheme.specs.Instruments.{kind, within, grid_size, size_in, points, at_edge, outer_ring, fixed_in, round_edge, off_centre}
use Rattle.scheme.specs.Instruments.{moving}
use Rattle.scheme.specs.Instruments.{free_in, free_end}
use Rattle.scheme.specs.Energy.{weight, later, pair_sum}
use Rattle.scheme.proofs.Laws.Bools.{and_both, or_yes}
use Rattle.scheme.proofs.Laws.Kinds.{within_is, sized}
use Rattle.scheme.proofs.Laws.Step.{fixed-still}
use Rattle.scheme.proofs.Theorems.Balance.{term, only_sum}
use Rattle.scheme.proofs.Theorems.Forms.{weighed, weighed_nonneg}
use Rattle.tighter.specs.Bounds.{span, Edge, no_edge, both_ends, all_round, edge_in, edge, grip, reach}
use Rattle.tighter.proofs.Line.{sum-zero, sum-suc, both_ends_lem, one_end}

-- ---- sums by rows and by columns

sum_rows : (C R : ℕ) (f : ℕ → ℤ) → sum (C * R) f ≡ sum R (λ b. sum C (λ a. f (C * b + a)))
sum_rows C zero f = ap (λ (k : ℕ). sum k f) (N.mul-zero C) ∙ sum-zero f ∙ sym (sum-zero (λ b. sum C (λ a. f (C * b + a))))
sum_rows C (suc R) f =
    ap (λ (k : ℕ). sum k f) (N.mul-suc C R) ∙ sum_split (C * R) C f ∙ ap (λ x. x +ℤ sum C (λ a. f (C * R + a))) (sum_rows C R f) ∙
    sym (sum-suc R (λ b. sum C (λ a. f (C * b + a))))

sum_turned : (n m : ℕ) (f : ℕ → ℕ → ℤ) → sum n (λ i. sum m (f i)) ≡ sum m (λ j. sum n (λ i. f i j))
sum_turned zero m f = sum-zero (λ i. sum m (f i)) ∙ sym (sum_vanish m (λ j l. sum-zero (λ i. f i j)))
sum_turned (suc n) m f = sum-suc n (λ i. sum m (f i)) ∙ ap (λ x. x +ℤ sum m (f n)) (sum_turned n m f) ∙
    sym (sum-add m (λ j. sum n (λ i. f i j)) (f n)) ∙ sum_ext m (λ j. sym (sum-suc n (λ i. f i j)))

-- all but the last
sum_but_last : (n : ℕ) (f : ℕ → ℤ) → sum n (λ i. term (ltb (i + 1) n) (f i)) ≡ sum (n - 1) f
sum_but_last zero f = sum-zero (λ i. term (ltb (i + 1) 0) (f i)) ∙ sym (sum-zero f)
sum_but_last (suc n) f =
    sum-suc n (λ i. term (ltb (i + 1) (suc n)) (f i)) ∙
    ap₂ ◌+ℤ◌ (sum_cong n (λ i l. ap (λ (b : Bool). term b (f i)) (lt-ltb (i + 1) (suc n) (omega arith))))
    (ap (λ (b : Bool). term b (f n)) (le-ltb (n + 1) (suc n) (omega arith))) ∙
    +ℤ_idr (sum n f) ∙ ap (λ (k : ℕ). sum k f) (omega arith)

sum-term : (t : Bool) (n : ℕ) (f : ℕ → ℤ) → sum n (λ i. term t (f i)) ≡ term t (sum n f)
sum-term true n f = refl
sum-term false n f = sum_0 n

-- ---- n lines of M steps, M + 1 points, with both ends fixed

-- a wider span would do
span_wide : (a : ℕ) → pos (5 * (a * a) + 4) ⩽ pos (span a)
unfolding span
span_wide a = pos≤ (omega arith)

span-positive : (a : ℕ) → 0 < span a
unfolding span
span-positive a = omega arith

lines_bound : (ε : ℤ) → ε *ℤ ε ≡ pos 1 → (n M : ℕ) → 2 ≤ M → (c v : ℕ → ℕ → ℤ) → ((i : ℕ) → i < n → c i 0 ≡ pos 0)
    → ((i : ℕ) → i < n → c i M ≡ pos 0) → ((i k : ℕ) → c i (suc k) ≡ ε *ℤ c i k +ℤ v i k)
    → pos 48 *ℤ sum n (λ i. sum (suc M) (λ k. c i k *ℤ c i k)) ⩽ pos (span M) *ℤ sum n (λ i. sum M (λ k. v i k *ℤ v i k))
lines_bound ε unit n zero h c v first last walk = absurd (omega arith)
lines_bound ε unit n (suc zero) h c v first last walk = absurd (omega arith)
lines_bound ε unit n (suc (suc m)) h c v first last walk = let M : ℕ = suc (suc m) in
    ≡-≤ℤ (sym (sum-scale n (pos 48) _))
    (≤ℤ-≡ (sum_mono n (λ i l. ≤ℤ_trans (both_ends_lem ε unit (c i) (v i) (first i l) (walk i) m (last i l))
    (*ℤ_mono_r _ (sum_nonneg M (λ k b. square_nonneg (v i k))) (span_wide M))))
    (sum-scale n (pos (span M)) (λ i. sum M (λ k. v i k *ℤ v i k))))

-- ---- the pairs within the rows and within the columns

module _ (g : Grid) where
  abbrev C : ℕ
  C = g.columns

  abbrev R : ℕ
  R = g.rows

  -- over the pairs, each once
  abbrev pub over_pairs : (ℕ → ℕ → ℤ) → ℤ
  over_pairs ψ = sum (points g) (λ k. sum_over (later g k) (ψ k))

  abbrev in_rows : (ℕ → ℕ → ℤ) → ℤ
  in_rows ψ = sum R (λ b. sum (C - 1) (λ a. ψ (C * b + a) (C * b + a + 1)))

  abbrev in_columns : (ℕ → ℕ → ℤ) → ℤ
  in_columns ψ = sum C (λ a. sum (R - 1) (λ b. ψ (C * b + a) (C * b + a + C)))

  later_terms : (ψ : ℕ → ℕ → ℤ) (k : ℕ) → sum_over (later g k) (ψ k)
      ≡ term (ltb (k % C + 1) C) (ψ k (k + 1)) +ℤ term (ltb (k / C + 1) R) (ψ k (k + C))
  unfolding later
  later_terms ψ k = simp (over-append, only_sum)

  pairs_are : 0 < C → (ψ : ℕ → ℕ → ℤ) → over_pairs ψ ≡ in_rows ψ +ℤ in_columns ψ
  pairs_are hc ψ = sum_ext (points g) (later_terms ψ) ∙ sum-add (points g) _ _ ∙ ap₂ ◌+ℤ◌ rows columns
    where
      rows : sum (points g) (λ k. term (ltb (k % C + 1) C) (ψ k (k + 1))) ≡ in_rows ψ
      rows = sum_rows C R _ ∙ sum_ext R
          (λ b. sum_cong C (λ a l. ap (λ (k : ℕ). term (ltb (k + 1) C) (ψ (C * b + a) (C * b + a + 1)))
          (N.mul-add-mod_self_left C b a ∙ N.mod-eq_of_lt l)) ∙ sum_but_last C (λ a. ψ (C * b + a) (C * b + a + 1)))

      columns : sum (points g) (λ k. term (ltb (k / C + 1) R) (ψ k (k + C))) ≡ in_columns ψ
      columns = sum_rows C R _ ∙ sum_ext R
          (λ b. sum_cong C (λ a l. ap (λ (k : ℕ). term (ltb (k + 1) R) (ψ (C * b + a) (C * b + a + C)))
          (omega (arith, N.mul-add-div hc b a, N.div-eq_of_lt l))) ∙ sum-term (ltb (b + 1) R) C (λ a. ψ (C * b + a) (C * b + a + C))) ∙
          sum_but_last R (λ b. sum C (λ a. ψ (C * b + a) (C * b + a + C))) ∙
          sum_turned (R - 1) C (λ b a. ψ (C * b + a) (C * b + a + C))

  light : (k : ℕ) → pos (weight g k) ⩽ pos 2
  unfolding weight
  light k = go (free_end g k)
    where
      go : (b : Bool) → pos (cond {A = ℕ} b 1 2) ⩽ pos 2
      go true = pos≤ (omega arith)
      go false = pos≤ (omega arith)

  weighed_light : (c : Level) → weighed g c c ⩽ pos 2 *ℤ sum (points g) (λ k. c k *ℤ c k)
  unfolding weighed
  weighed_light c = ≤ℤ-≡ (sum_mono (points g) (λ k l. *ℤ_mono_r (c k *ℤ c k) (square_nonneg (c k)) (light k)))
      (sum-scale (points g) (pos 2) _)

  -- ---- a level whose neighbours c k and c j differ by u k j, or add up to it

  module _ (hc : 3 ≤ g.columns) (c : Level) (ε : ℤ) (unit : ε *ℤ ε ≡ pos 1) (u : ℕ → ℕ → ℤ)
      (walk : (k j : ℕ) → c j ≡ ε *ℤ c k +ℤ u k j) where
    abbrev ψ : ℕ → ℕ → ℤ
    ψ k j = u k j *ℤ u k j

    abbrev sq : ℕ → ℤ
    sq k = c k *ℤ c k

    abbrev all : ℤ
    all = sum (points g) sq

    columns_nonneg : pos 0 ⩽ in_columns ψ
    columns_nonneg = sum_nonneg C (λ a l. sum_nonneg (R - 1) (λ b m. square_nonneg (u (C * b + a) (C * b + a + C))))

    pairs : over_pairs ψ ≡ in_rows ψ +ℤ in_columns ψ
    pairs = pairs_are (omega arith) ψ

    module _ (first : (b : ℕ) → b < g.rows → c (g.columns * b + 0) ≡ pos 0)
        (last : (b : ℕ) → b < g.rows → c (g.columns * b + (g.columns - 1)) ≡ pos 0) where
      by_rows : pos 48 *ℤ all ⩽ pos (span (C - 1)) *ℤ in_rows ψ
      by_rows =
          ≡-≤ℤ (ap (λ x. pos 48 *ℤ x) (sum_rows C R sq ∙ sum_ext R (λ b. ap (λ (n : ℕ). sum n (λ a. sq (C * b + a))) (omega arith))))
          (lines_bound ε unit R (C - 1) (omega arith) (λ b a. c (C * b + a)) (λ b a. u (C * b + a) (C * b + a + 1)) first last
          (λ b a. ap c (omega arith) ∙ walk (C * b + a) (C * b + a + 1)))

      -- a line
      pub both-fixed : pos 24 *ℤ weighed g c c ⩽ pos (span (C - 1)) *ℤ over_pairs ψ
      both-fixed = lin 6 (λ w s a x y p. 24 *≤ w ⊴ # 2 ⊗ s ⇒ 1 *≤ # 48 ⊗ s ⊴ a ⊗ x ⇒ a *⊴ # 0 ⊴ y ⇒ a *≈ p ≈ x ⊕ y ⇒
          ⊩ # 24 ⊗ w ⊴ a ⊗ p) refl
          (weighed g c c) all (pos (span (C - 1))) (in_rows ψ) (in_columns ψ) (over_pairs ψ)
          (weighed_light c) by_rows (0≤pos (span (C - 1))) columns_nonneg pairs

      module _ (hr : 3 ≤ g.rows) (top : (a : ℕ) → a < g.columns → c (g.columns * 0 + a) ≡ pos 0)
          (bottom : (a : ℕ) → a < g.columns → c (g.columns * (g.rows - 1) + a) ≡ pos 0) where
        by_columns : pos 48 *ℤ all ⩽ pos (span (R - 1)) *ℤ in_columns ψ
        by_columns =
            ≡-≤ℤ (ap (λ x. pos 48 *ℤ x) (sum_rows C R sq ∙ sum_turned R C (λ b a. sq (C * b + a)) ∙
            sum_ext C (λ a. ap (λ (n : ℕ). sum n (λ b. sq (C * b + a))) (omega arith))))
            (lines_bound ε unit C (R - 1) (omega arith) (λ a b. c (C * b + a)) (λ a b. u (C * b + a) (C * b + a + C)) top bottom
            (λ a b. ap c (omega (arith, N.mul-suc C b)) ∙ walk (C * b + a) (C * b + a + C)))

        -- a grid: its rows' bound times the columns' span and its columns' times the rows'
        pub all-fixed : pos (24 * (span (C - 1) + span (R - 1))) *ℤ weighed g c c ⩽ pos (span (C - 1) * span (R - 1)) *ℤ over_pairs ψ
        all-fixed =
            lin 7 (λ w s a b x y p. (# 24 ⊗ (a ⊕ b)) *⊴ w ⊴ # 2 ⊗ s ⇒ b *⊴ # 48 ⊗ s ⊴ a ⊗ x ⇒ a *⊴ # 48 ⊗ s ⊴ b ⊗ y ⇒
            (a ⊗ b) *≈ p ≈ x ⊕ y ⇒
            ⊩ (# 24 ⊗ (a ⊕ b)) ⊗ w ⊴ (a ⊗ b) ⊗ p) refl
            (weighed g c c) all (pos (span (C - 1))) (pos (span (R - 1))) (in_rows ψ) (in_columns ψ) (over_pairs ψ)
            (0≤pos (24 * (span (C - 1) + span (R - 1)))) (weighed_light c) (0≤pos (span (R - 1))) by_rows
            (0≤pos (span (C - 1))) by_columns pairs

    -- a line whose last point is free
    module _ (one : g.rows ≡ 1) (first : c 0 ≡ pos 0) (free : weight g (g.columns - 1) ≡ 1) where
      abbrev m : ℕ
      m = C - 2

      row_alone : in_rows ψ ≡ sum (suc m) (λ k. ψ k (k + 1))
      row_alone = ap (λ (r : ℕ). sum r (λ b. sum (C - 1) (λ a. ψ (C * b + a) (C * b + a + 1)))) one ∙ sum-suc 0 _ ∙
          ap (λ x. x +ℤ sum (C - 1) (λ a. ψ (C * 0 + a) (C * 0 + a + 1))) (sum-zero _) ∙
          ring 1 (λ x. # 0 ⊕ x ≈ x) refl _ ∙
          sum_ext (C - 1) (λ a. ap (λ (k : ℕ). ψ k (k + 1)) (omega arith)) ∙
          ap (λ (n : ℕ). sum n (λ k. ψ k (k + 1))) (omega arith)

      weighed-row : weighed g c c ⩽ pos 2 *ℤ sum (suc m) sq +ℤ sq (suc m)
      unfolding weighed
      weighed-row =
          ≡-≤ℤ (ap (λ (n : ℕ). sum n W) size ∙ sum-suc (suc m) W)
          (lin 4 (λ s t w y. 1 *≤ s ⊴ # 2 ⊗ t ⇒ (⊝ y) *≈ w ≈ # 1 ⇒ ⊩ s ⊕ w ⊗ y ⊴ # 2 ⊗ t ⊕ y) refl
          (sum (suc m) W) (sum (suc m) sq) (pos (weight g (suc m))) (sq (suc m))
          (≤ℤ-≡ (sum_mono (suc m) (λ k l. *ℤ_mono_r (sq k) (square_nonneg (c k)) (light k))) (sum-scale (suc m) (pos 2) sq))
          (ap (λ (k : ℕ). pos (weight g k)) (omega arith) ∙ ap pos free))
        where
          W : ℕ → ℤ
          W k = pos (weight g k) *ℤ sq k

          size : C * R ≡ suc (suc m)
          size = ap (λ (r : ℕ). C * r) one ∙ omega arith

      pub half_fixed : pos 24 *ℤ weighed g c c ⩽ pos (span (2 * (C - 1))) *ℤ over_pairs ψ
      half_fixed =
          let n : ℕ = suc m in
          let κ : ℤ = pos (span (2 * (C - 1))) in
          let s : ℤ = sum n (λ k. ψ k (k + 1)) in
          let low : pos (5 * (2 * n * (2 * n)) + 4) ⩽ κ = ≤ℤ-≡ (span_wide (2 * n)) (ap (λ (l : ℕ). pos (span (2 * l))) (omega arith)) in
          lin 8 (λ w t k x s y p r. 24 *≤ w ⊴ t ⇒ 1 *≤ # 24 ⊗ t ⊴ k ⊗ s ⇒ s *⊴ k ⊴ r ⇒ r *≈ x ≈ s ⇒ r *⊴ # 0 ⊴ y ⇒ r *≈ p ≈ x ⊕ y ⇒
          ⊩ # 24 ⊗ w ⊴ r ⊗ p) refl
          (weighed g c c) (pos 2 *ℤ sum n sq +ℤ sq n) (pos (5 * (2 * n * (2 * n)) + 4)) (in_rows ψ) s (in_columns ψ) (over_pairs ψ) κ
          weighed-row (one_end ε unit c (λ k. u k (k + 1)) first (λ k. ap c (omega arith) ∙ walk k (k + 1)) m)
          (sum_nonneg n (λ k l. square_nonneg (u k (k + 1)))) low row_alone (0≤pos (span (2 * (C - 1)))) columns_nonneg pairs

-- ---- the outer ring is fixed

is_true : (b : Bool) → T b → b ≡ true
is_true true t = refl
is_true false t = absurd t

or_right : (a : Bool) {b : Bool} → b ≡ true → (a || b) ≡ true
or_right true e = refl
or_right false e = e

last_edge : (n : ℕ) → 0 < n → at_edge n (n - 1) ≡ true
last_edge n h = or_right (eqb (n - 1) 0) (eq-eqb (n - 1 + 1) n (omega arith))

-- there (2a − G + 1)² is (G − 1)² by itself
off-edge : (G a : ℕ) → at_edge G a ≡ true → off_centre G a *ℤ off_centre G a ≡ (pos G -ℤ pos 1) *ℤ (pos G -ℤ pos 1)
off-edge G a e = go (eqb a 0) refl e
  where
    go : (b : Bool) → eqb a 0 ≡ b → (b || eqb (a + 1) G) ≡ true → off_centre G a *ℤ off_centre G a ≡ (pos G -ℤ pos 1) *ℤ (pos G -ℤ pos 1)
    go true q e = lin 2 (λ G a. (# 4 ⊗ (a ⊖ G ⊕ # 1)) *≈ a ≈ # 0 ⇒ ⊩≈ (# 2 ⊗ a ⊖ G ⊕ # 1) ² ≈ (G ⊖ # 1) ²) refl
        (pos G) (pos a) (ap pos (eqb-true a 0 q))
    go false q e = lin 2 (λ G a. (# 4 ⊗ a) *≈ a ⊕ # 1 ≈ G ⇒ ⊩≈ (# 2 ⊗ a ⊖ G ⊕ # 1) ² ≈ (G ⊖ # 1) ²) refl
        (pos G) (pos a) (ap pos (eqb-true (a + 1) G e))

round_column : (G a b : ℕ) → at_edge G a ≡ true → round_edge G a b ≡ true
unfolding round_edge
round_column G a b e = is_true _ (lin 3 (λ r x y. # 1 *≈ x ² ≈ r ² ⇒ 1 *≤ # 0 ⊴ y ² ⇒ ⊩ r ² ⊴ x ² ⊕ y ²) refl
    (pos G -ℤ pos 1) (off_centre G a) (off_centre G b) (off-edge G a e) (square_nonneg (off_centre G b))).le

round_row : (G a b : ℕ) → at_edge G b ≡ true → round_edge G a b ≡ true
unfolding round_edge
round_row G a b e = is_true _ (lin 3 (λ r x y. # 1 *≈ y ² ≈ r ² ⇒ 1 *≤ # 0 ⊴ x ² ⇒ ⊩ r ² ⊴ x ² ⊕ y ²) refl
    (pos G -ℤ pos 1) (off_centre G a) (off_centre G b) (off-edge G b e) (square_nonneg (off_centre G a))).le

record Ringed (K : Kind) (c r : ℕ) : Type 0 where
  columns_fixed : (a b : ℕ) → at_edge c a ≡ true → fixed_in K c r a b ≡ true
  rows_fixed : (a b : ℕ) → at_edge r b ≡ true → fixed_in K c r a b ≡ true
  rows_low : 3 ≤ r

outer_ringed : (K : Kind) (c r : ℕ) → ((a b : ℕ) → fixed_in K c r a b ≡ outer_ring c r a b) → grid_size c r ≡ true → Ringed K c r
outer_ringed K c r outer e = record {
  columns_fixed = λ a b h. outer a b ∙ or_yes (at_edge r b) h;
  rows_fixed = λ a b h. outer a b ∙ or_right (at_edge c a) h;
  rows_low = (within_is 3 64 r (and_both (within 3 64 c) (within 3 64 r) e).1).0;
}

round_ringed : (c r : ℕ) → size_in MembraneRound c r ≡ true → Ringed MembraneRound c r
unfolding fixed_in size_in
round_ringed c r e =
    let p = and_both (within 3 64 c) (eqb r c) e in
    let square = eqb-true r c p.1 in
    record {
      columns_fixed = λ a b h. round_column c a b h;
      rows_fixed = λ a b h. round_row c a b (subst (λ (n : ℕ). at_edge n b ≡ true) square h);
      rows_low = omega (arith, (within_is 3 64 c p.0).0);
    }

-- ---- what an edge holds

pub reach-positive : (e : Edge) → 0 < reach e
unfolding reach
reach-positive no_edge = omega arith
reach-positive (both_ends a) = omega (arith, span-positive a)
reach-positive (all_round a b) = omega (arith, span-positive a, N.mul-pos (span-positive a) (span-positive b))

module _ (g : Grid) (size : size_in (kind g) g.columns g.rows ≡ true) where
  abbrev a : ℕ
  a = g.columns - 1

  abbrev b : ℕ
  b = g.rows - 1

  wide : 3 ≤ g.columns
  wide = (sized (kind g) g.columns g.rows size).columns_low

  module _ (c : Level) (s : Still (moving g) c) (ε : ℤ) (unit : ε *ℤ ε ≡ pos 1) (u : ℕ → ℕ → ℤ)
      (walk : (k j : ℕ) → c j ≡ ε *ℤ c k +ℤ u k j) where
    abbrev P : ℤ
    P = over_pairs g (λ k j. u k j *ℤ u k j)

    P_nonneg : pos 0 ⩽ P
    P_nonneg = sum_nonneg (points g) (λ k l. over_nonneg (later g k) (λ j. square_nonneg (u k j)))

    -- a smaller grip, a larger reach
    weaker : {h h' f f' : ℕ} → h ≤ h' → f' ≤ f → pos h' *ℤ weighed g c c ⩽ pos f' *ℤ P → pos h *ℤ weighed g c c ⩽ pos f *ℤ P
    weaker hh hf held = ≤ℤ_trans (*ℤ_mono_r (weighed g c c) (weighed_nonneg g c) (pos≤ hh)) (≤ℤ_trans held (*ℤ_mono_r P P_nonneg (pos≤ hf)))

    nothing-held : pos 0 *ℤ weighed g c c ⩽ pos 1 *ℤ P
    nothing-held = lin 2 (λ w p. 1 *≤ # 0 ⊴ p ⇒ ⊩ # 0 ⊗ w ⊴ # 1 ⊗ p) refl (weighed g c c) P P_nonneg

    -- what holds of a kind's points holds of this grid's
    module _ (K : Kind) (k : kind g ≡ K) where
      zero-at : (x y : ℕ) → x < g.columns → fixed_in K g.columns g.rows x y ≡ true → c (g.columns * y + x) ≡ pos 0
      zero-at x y l f = s.still (g.columns * y + x) (fixed-still g (g.columns * y + x)
          (ap₂ (λ (p q : ℕ). fixed_in (kind g) g.columns g.rows p q) (N.mul-add-mod_self_left g.columns y x ∙ N.mod-eq_of_lt l)
          (omega (arith, N.mul-add-div {m = g.columns} (omega (arith, wide)) y x, N.div-eq_of_lt l)) ∙
          ap (λ (K : Kind). fixed_in K g.columns g.rows x y) k ∙ f))

      module _ (columns_fixed : (x y : ℕ) → at_edge g.columns x ≡ true → fixed_in K g.columns g.rows x y ≡ true) where
        first : (y : ℕ) → y < g.rows → c (g.columns * y + 0) ≡ pos 0
        first y l = zero-at 0 y (omega (arith, wide)) (columns_fixed 0 y refl)

        last : (y : ℕ) → y < g.rows → c (g.columns * y + a) ≡ pos 0
        last y l = zero-at a y (omega (arith, wide)) (columns_fixed a y (last_edge g.columns (omega (arith, wide))))

        line-held : pos 24 *ℤ weighed g c c ⩽ pos (span a) *ℤ P
        line-held = both-fixed g wide c ε unit u walk first last

      grid-held : Ringed K g.columns g.rows → pos (24 * (span a + span b)) *ℤ weighed g c c ⩽ pos (span a * span b) *ℤ P
      grid-held e = all-fixed g wide c ε unit u walk (first e.columns_fixed) (last e.columns_fixed) e.rows_low
          (λ x l. zero-at x 0 l (e.rows_fixed x 0 refl))
          (λ x l. zero-at x b l (e.rows_fixed x b (last_edge g.rows (omega (arith, e.rows_low)))))

    half_held : kind g ≡ StringFixedFree → size_in StringFixedFree g.columns g.rows ≡ true
        → pos 24 *ℤ weighed g c c ⩽ pos (span (2 * a)) *ℤ P
    unfolding fixed_in size_in weight free_in
    half_held k e = half_fixed g wide c ε unit u walk (eqb-true g.rows 1 (and_both (within 3 1024 g.columns) (eqb g.rows 1) e).1)
        (ap c (omega arith) ∙ zero-at StringFixedFree k 0 0 (omega (arith, wide)) refl) free
      where
        inside : a < g.columns
        inside = omega (arith, wide)

        free : weight g a ≡ 1
        free = ap (λ (t : Bool). cond {A = ℕ} t 1 2) (ap₂ (λ (K : Kind) (x : ℕ). free_in K g.columns x) k
            (N.mod-eq_of_lt inside) ∙ eq-eqb (a + 1) g.columns (omega (arith, wide)))

    held_in : (K : Kind) → kind g ≡ K → size_in K g.columns g.rows ≡ true
        → let e : Edge = edge_in K a b in pos (grip e) *ℤ weighed g c c ⩽ pos (reach e) *ℤ P
    unfolding span edge_in grip reach fixed_in size_in
    held_in Unknown k e = absurd (true≢false (sym e))
    held_in StringFixed k e = weaker (omega arith) (omega arith) (line-held StringFixed k (λ x y h. h))
    held_in StringFixedFree k e = weaker (omega arith) (omega arith) (half_held k e)
    held_in StringFree k e = weaker (omega arith) (omega arith) nothing-held
    held_in Bar k e = weaker (omega arith) (omega arith) (line-held Bar k (λ x y h. h))
    held_in MembraneRectangular k e = weaker (omega arith) (omega arith)
        (grid-held MembraneRectangular k (outer_ringed MembraneRectangular g.columns g.rows (λ x y. refl) e))
    held_in MembraneRound k e = weaker (omega arith) (omega arith) (grid-held MembraneRound k (round_ringed g.columns g.rows e))
    held_in Plate k e = weaker (omega arith) (omega arith)
        (grid-held Plate k (outer_ringed Plate g.columns g.rows (λ x y. refl) e))

    held_by : pos (grip (edge g)) *ℤ weighed g c c ⩽ pos (reach (edge g)) *ℤ P
    held_by = held_in (kind g) refl size

  module _ (c : Level) (s : Still (moving g) c) where
    pub by_differences : pos (grip (edge g)) *ℤ weighed g c c ⩽ pos (reach (edge g)) *ℤ pair_sum g c c
    unfolding pair_sum
    by_differences = held_by c s (pos 1) refl (λ k j. c j -ℤ c k) (λ k j. ring 2 (λ x y. y ≈ # 1 ⊗ x ⊕ (y ⊖ x)) refl (c k) (c j))

    pub by_sums : pos (grip (edge g)) *ℤ weighed g c c ⩽ pos (reach (edge g)) *ℤ over_pairs g (λ k j. (c j +ℤ c k) *ℤ (c j +ℤ c k))
    by_sums = held_by c s (negsuc 0) refl (λ k j. c j +ℤ c k)
        (λ k j. ring 2 (λ x y. y ≈ con (negsuc 0) ⊗ x ⊕ (y ⊕ x)) refl (c k) (c j))
