-- The round edge in numbers that are not negative.
use mathlib.Core.Path.{◌≡◌, refl, sym, ap, ap₂, ◌∙◌}
use mathlib.Core.Bool.{Bool, true, false, ◌&&◌}
use Prim.Native.Nat.{ℕ, zero, suc, ◌+◌, ◌-◌, ◌*◌, ◌≤◌, ◌<◌}
use native.Mathlib.Nat.{mul-le-mul}
use native.Mathlib.Omega.{arith}
use borrow.Author.Tests.{leb-true, le-leb, lt-ltb, le-ltb}
use lib.Dec.{ltb, leb, ltb→lt, nltb→le}
use lib.IntN.{ℤ, pos, negsuc, nat_abs, ◌+ℤ◌, ◌-ℤ◌}
use lib.Signed.{le_z}
use Rattle.integers.proofs.Ring.{◌⊕◌, ◌⊖◌, ◌⊗◌, #◌, ◌², ◌≈◌, ring}
use Rattle.integers.proofs.Size.{cond_ind, square-size}
use Rattle.scheme.specs.Lists.{square}
use Rattle.scheme.specs.Instruments.{off_centre, round_edge}
use Rattle.scheme.proofs.Laws.Bools.{and_yes, same}
use Rattle.kinds.specs.Search.{Passed}
use Rattle.kinds.specs.Runs.{run, on_square, round_run, apart}
use Rattle.kinds.proofs.SearchLaws.{leading_is}

-- ---- the round edge in numbers that are not negative

-- the distance of two numbers
pub gap : (x y : ℕ) → nat_abs (pos x -ℤ pos y) ≡ apart x y
gap x zero = omega arith
gap x (suc y) =
    cond_ind (ltb x (suc y)) (negsuc (suc y - suc x)) (pos (x - suc y)) (λ (z : ℤ). nat_abs z ≡ apart x (suc y))
    (λ t. omega (arith, ltb→lt x (suc y) t)) (λ t. omega (arith, nltb→le x (suc y) t))

-- twice the distance of column a from the middle of G columns
abbrev pub offset : ℕ → ℕ → ℕ
offset G a = apart (2 * a + 1) G

offset_is : (G a : ℕ) → square (off_centre G a) ≡ pos (offset G a * offset G a)
offset_is G a =
    ap square (ring 2 (λ x g. x ⊖ g ⊕ # 1 ≈ (x ⊕ # 1) ⊖ g) refl (pos (2 * a)) (pos G)) ∙
    square-size (pos (2 * a + 1) -ℤ pos G) ∙ ap (λ (n : ℕ). pos (n * n)) (gap (2 * a + 1) G)

less_one : (G : ℕ) → 1 ≤ G → square (pos G -ℤ pos 1) ≡ pos ((G - 1) * (G - 1))
less_one G h = square-size (pos G -ℤ pos 1) ∙ ap (λ (n : ℕ). pos (n * n)) (gap G 1 ∙ omega arith)

-- two columns as far from either end
pub offset_mirror : (G a c : ℕ) → a + c + 1 ≡ G → offset G a ≤ offset G c
offset_mirror G a c e = omega arith

-- the left side of the paper's test
abbrev reach : ℕ → ℕ → ℕ → ℕ
reach G a b = offset G a * offset G a + offset G b * offset G b

round_edge_is : (G a b : ℕ) → 1 ≤ G → round_edge G a b ≡ leb ((G - 1) * (G - 1)) (reach G a b)
unfolding round_edge
round_edge_is G a b h = ap₂ le_z (less_one G h) (ap₂ ◌+ℤ◌ (offset_is G a) (offset_is G b))

-- what the square of an offset lacks of the largest, by the columns on both sides
ends : (a m : ℕ) → offset (a + m + 1) a * offset (a + m + 1) a + 4 * a * m ≡ (a + m) * (a + m)
ends a m =
    ap nat_abs (ap (λ (z : ℤ). z +ℤ pos (4 * a * m)) (sym (offset_is (a + m + 1) a)) ∙
    ring 2 (λ x y. (# 2 ⊗ x ⊖ (x ⊕ y ⊕ # 1) ⊕ # 1) ² ⊕ # 4 ⊗ x ⊗ y ≈ (x ⊕ y) ²) refl (pos a) (pos m))

pub offset-ends : (G a : ℕ) → a < G → offset G a * offset G a + 4 * a * (G - 1 - a) ≡ (G - 1) * (G - 1)
offset-ends G a h =
    let m = G - 1 - a in
    let whole : G ≡ a + m + 1 = omega arith in
    ap (λ (n : ℕ). offset n a * offset n a + 4 * a * m) whole ∙ ends a m ∙ ap (λ (n : ℕ). n * n) (omega arith)

-- the paper's test by what both squares lack
rests : (r x y p q : ℕ) → x + p ≡ r → y + q ≡ r → leb p (r - q) ≡ leb r (x + y)
rests r x y p q e f = same (λ t. le-leb r (x + y) (omega (arith, leb-true p (r - q) t)))
    (λ t. le-leb p (r - q) (omega (arith, leb-true r (x + y) t)))

pub round_edge-ends : (G a b : ℕ) → a < G → b < G
    → leb (4 * a * (G - 1 - a)) ((G - 1) * (G - 1) - 4 * b * (G - 1 - b)) ≡ round_edge G a b
round_edge-ends G a b p q = rests _ _ _ _ _ (offset-ends G a p) (offset-ends G b q) ∙ sym (round_edge_is G a b (omega arith))

-- a column that is no further from the middle is at the edge only where the other is
pub edge_inward : (G b a c : ℕ) → 1 ≤ G → offset G a ≤ offset G c → round_edge G a b ≡ true → round_edge G c b ≡ true
edge_inward G b a c h l e =
    let far = leb-true ((G - 1) * (G - 1)) (reach G a b) (sym (round_edge_is G a b h) ∙ e) in
    round_edge_is G c b h ∙ le-leb ((G - 1) * (G - 1)) (reach G c b) (omega (arith, far, mul-le-mul l l))

-- ---- a point on a round membrane

pub on_square_lem : (c a b : ℕ) → c ≤ 64 → a < c → b < c → on_square c a b ≡ true
on_square_lem c a b l p q = and_yes (le-leb c 64 l) ∙ and_yes (lt-ltb a c p) ∙ lt-ltb b c q

-- what `is_round_fixed` said of a point on it
pub edge_said : (c a b : ℕ) {r x : Bool} → c ≤ 64 → a < c → b < c → r ≡ (on_square c a b && round_edge c a b) → r ≡ x → round_edge c a b ≡ x
edge_said c a b l p q e f = sym (and_yes (on_square_lem c a b l p q)) ∙ sym e ∙ f

-- ---- the search in a row

module _ (G b a : ℕ) (so_far : Passed G (λ k. round_edge G k b) a) where
  pub round_found : a < G → round_edge G a b ≡ false → round_run G b ≡ run a (G - a)
  unfolding round_run
  round_found h e = simp (leading_is G (λ k. round_edge G k b) a so_far (λ q. e), lt-ltb a G h)

  pub round_none : G ≤ a → round_run G b ≡ run 0 0
  unfolding round_run
  round_none h = simp (leading_is G (λ k. round_edge G k b) a so_far (λ q. absurd (omega arith)), le-ltb a G h)
