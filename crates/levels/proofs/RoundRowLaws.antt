-- A row of a round membrane from both of its ends.
use Rattle.std.proofs.Common.{◌≡◌, ℕ, suc, ◌-◌, ◌^◌, ◌<◌, ◌≤◌, Bool, true, false, not, ◌&&◌, ltb, List, ℤ, pos, negsuc, nat_abs, sym}
use Rattle.std.proofs.Common.{refl, ap, ◌∙◌, true≢false, arith, w64, of_z, ltb-false, ltb-true}
use mathlib.Core.Bool.{and-false}
use borrow.Author.Tests.{not-true}
use lib.Bits.{bit_or, or_comm, or_add_and, and_le_r}
use lib.Signed.{mag}
use Rattle.scheme.specs.Lists.{some_below}
use Rattle.scheme.specs.Instruments.{round_edge}
use Rattle.scheme.proofs.Laws.Bools.{and_both, and_yes, and_no, cases, not_so}
use Rattle.scheme.proofs.Laws.Lists.{some_at, none_below}
use Rattle.kinds.specs.Search.{Passed}
use Rattle.kinds.proofs.RoundLaws.{offset_mirror, edge_inward}
use Rattle.levels.specs.Levels.{not_zero}
use Rattle.levels.proofs.LevelLaws.{bits_zero, bits_not_zero}

-- ---- two numbers at once, as code tests them

or_left : (a b : ℕ) → bit_or a b ≡ 0 → a ≡ 0
or_left a b e = omega (arith, or_add_and a b, and_le_r a b)

pub both_zero : (x y : ℤ) → mag x < 2 ^ 63 → mag y < 2 ^ 63 → bit_or (of_z w64 x) (of_z w64 y) ≡ 0
    → (ltb 0 (nat_abs x) ≡ false) × (ltb 0 (nat_abs y) ≡ false)
both_zero x y h k e = (bits_zero x h (or_left _ _ e), bits_zero y k (or_left _ _ (or_comm (of_z w64 y) (of_z w64 x) ∙ e)))

no_bits : (z : ℤ) → ltb 0 (nat_abs z) ≡ false → of_z w64 z ≡ 0
no_bits (pos n) e = omega (arith, ltb-false 0 n e)
no_bits (negsuc n) e = absurd (omega (arith, ltb-false 0 (suc n) e))

-- one of them is not 0
pub one_not_zero : (x y : ℤ) (P : Type 0) → (ltb 0 (nat_abs x) ≡ true → P) → (ltb 0 (nat_abs y) ≡ true → P)
    → (bit_or (of_z w64 x) (of_z w64 y) ≡ 0 → ⊥) → P
one_not_zero x y P f g n = cases (λ (b : Bool). P) (ltb 0 (nat_abs x)) f
    (λ e. g (bits_not_zero y (λ q. n (ap (λ (a : ℕ). bit_or a (of_z w64 y)) (no_bits x e) ∙ q))))

-- ---- the columns passed are at the edge, and 0 from the left and from the right

module _ (xs : List ℤ) (c b : ℕ) where
  -- some column at the edge is not 0: `round_not_zero` of a row of c points
  abbrev pub edge_not_zero : Bool
  edge_not_zero = some_below c (λ a. round_edge c a b && not_zero xs a)

  abbrev pub clear : ℕ → Bool
  clear a = round_edge c a b && (not (not_zero xs a) && not (not_zero xs (c - 1 - a)))

  pub clear_is : (a : ℕ) → round_edge c a b ≡ true → (not_zero xs a ≡ false) × (not_zero xs (c - 1 - a) ≡ false) → clear a ≡
      true
  clear_is a e z = and_yes e ∙ and_yes (ap not z.0) ∙ ap not z.1

  pub left_found : (a : ℕ) → a < c → round_edge c a b ≡ true → not_zero xs a ≡ true → edge_not_zero ≡ true
  left_found a h e f = some_at c _ a h (and_yes e ∙ f)

  pub right_found : (a : ℕ) → a < c → round_edge c a b ≡ true → not_zero xs (c - 1 - a) ≡ true → edge_not_zero ≡ true
  right_found a h e f = left_found (c - 1 - a) (omega arith)
      (edge_inward c b a (c - 1 - a) (omega arith) (offset_mirror c a (c - 1 - a) (omega arith)) e) f

  -- where the search stops, the columns between move
  pub none_found : (k : ℕ) → Passed c clear k → (k < c → round_edge c k b ≡ false) → edge_not_zero ≡ false
  none_found k p stop = none_below c _ (λ i h. cases (λ (t : Bool). (round_edge c i b && not_zero xs i) ≡ false) (ltb i k)
      (λ t. from-left i (ltb-true i k t)) (λ t. cases (λ (u : Bool). (round_edge c i b && not_zero xs i) ≡ false) (ltb (c - 1 - i) k)
      (λ u. from-right i h (ltb-true (c - 1 - i) k u)) (λ u. between i h (ltb-false i k t) (ltb-false (c - 1 - i) k u))))
    where
      zeros : (i : ℕ) → i < k → (not (not_zero xs i) ≡ true) × (not (not_zero xs (c - 1 - i)) ≡ true)
      zeros i h = and_both (not (not_zero xs i)) (not (not_zero xs (c - 1 - i))) (and_both (round_edge c i b) _ (p.each i h)).1

      at_zero : (i j : ℕ) → i ≡ j → not (not_zero xs i) ≡ true → (round_edge c j b && not_zero xs j) ≡ false
      at_zero i j e z =
          ap (λ (t : Bool). round_edge c j b && t) (ap (λ (n : ℕ). not_zero xs n) (sym e) ∙ not-true (not_zero xs i) z)
          ∙ and-false (round_edge c j b)

      from-left : (i : ℕ) → i < k → (round_edge c i b && not_zero xs i) ≡ false
      from-left i h = at_zero i i refl (zeros i h).0

      from-right : (i : ℕ) → i < c → c - 1 - i < k → (round_edge c i b && not_zero xs i) ≡ false
      from-right i h l = at_zero (c - 1 - (c - 1 - i)) i (omega arith) (zeros (c - 1 - i) l).1

      between : (i : ℕ) → i < c → k ≤ i → k ≤ c - 1 - i → (round_edge c i b && not_zero xs i) ≡ false
      between i h l m = and_no _ (not_so (λ e. true≢false (sym (edge_inward c b i k (omega arith) (omega arith) e) ∙ stop (omega arith))))
