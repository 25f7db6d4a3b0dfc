-- What a point's numerator is made of, and that what is made of it is the scheme's: L and L of L by sums of neighbours.
use mathlib.Core.Path.{◌≡◌, refl, sym, ap, ◌∙◌, subst}
use mathlib.Core.Bool.{Bool, true, false, cond}
use mathlib.Core.List.{List}
use Prim.Native.Nat.{ℕ, ◌*◌, ◌≤◌, zero-le}
use native.Mathlib.Nat as N
use native.Mathlib.Omega.{arith}
use lib.IntN.{ℤ, pos, nat_abs, ◌+ℤ◌, ◌-ℤ◌, ◌*ℤ◌}
use mir.Syntax.{w64}
use mir.Val.{to_z, of_z}
use Rattle.integers.specs.Sum.{sum_over}
use Rattle.integers.proofs.Ring.{#◌, ◌⊕◌, ◌⊖◌, ◌⊗◌, ◌≈◌, ring}
use Rattle.integers.proofs.Size.{size-add, size-minus, size-mul, size-over}
use Rattle.integers.proofs.Sum.{over_ext, over_add, over-scale}
use Rattle.types.specs.declared.Settings.{Settings}
use Rattle.types.specs.declared.Grid.{Grid}
use Rattle.types.specs.declared.Instrument.{Instrument}
use Rattle.types.specs.Numbers.{D, ceiling}
use Rattle.scheme.specs.Lists.{point}
use Rattle.scheme.specs.Instruments.{in_table, moving}
use Rattle.scheme.specs.Step.{neighbours, laplacian, inner_laplacian, biharmonic, numerator, divisor}
use Rattle.plans.specs.declared.Plan.{Plan}
use Rattle.plans.specs.Plans.{count_of}
use Rattle.steps.specs.Plan.{inner_sum, bending_of, numerator_with, Bendable, Updatable, Ready, Summed, Neighbouring}
use Rattle.steps.specs.Run.{next_over, next_by}
use Rattle.steps.proofs.Held.{held, held_below}
use Rattle.steps.proofs.PlanLaws.{m_is, few, near_part, second_part, sum_part, stiff-part}
use Rattle.steps.proofs.BesideLaws.{count_is}

-- ---- L and L of L by sums, of a level that is 0 where nothing moves

module _ (g : Grid) (size : in_table g ≡ true) (a : ℕ → ℤ) (still : (k : ℕ) → moving g k ≡ false → a k ≡ pos 0) where
  abbrev c : ℤ
  c = pos (count_of g)

  abbrev S : ℕ → ℤ
  S = inner_sum g a

  abbrev L : ℕ → ℤ
  L = inner_laplacian g a

  by_sum : (k : ℕ) → moving g k ≡ true → laplacian g a k ≡ sum_over (neighbours g k) a -ℤ c *ℤ a k
  unfolding laplacian
  by_sum k mk = ap (λ (n : ℕ). sum_over (neighbours g k) a -ℤ pos n *ℤ a k) (count_is g size k mk)

  inner-sum : (k : ℕ) → moving g k ≡ true → S k ≡ sum_over (neighbours g k) a
  unfolding inner_sum
  inner-sum k mk = ap (λ (t : Bool). cond t (sum_over (neighbours g k) a) (pos 0)) mk

  -- "L counts as 0" where nothing moves, and so do the sum and the point
  inner_by_sum : (k : ℕ) → L k ≡ S k +ℤ (pos 0 -ℤ c) *ℤ a k
  unfolding inner_laplacian inner_sum
  inner_by_sum k = go (moving g k) refl
    where
      go : (t : Bool) → moving g k ≡ t
          → cond (moving g k) (laplacian g a k) (pos 0) ≡ cond (moving g k) (sum_over (neighbours g k) a) (pos 0) +ℤ (pos 0 -ℤ c) *ℤ a k
      go true e =
          ap (λ (t : Bool). cond t (laplacian g a k) (pos 0)) e ∙ by_sum k e ∙
          ring 3 (λ x c y. x ⊖ c ⊗ y ≈ x ⊕ (# 0 ⊖ c) ⊗ y) refl (sum_over (neighbours g k) a) c (a k) ∙
          ap (λ (t : Bool). cond t (sum_over (neighbours g k) a) (pos 0) +ℤ (pos 0 -ℤ c) *ℤ a k) (sym e)
      go false e =
          ap (λ (t : Bool). cond t (laplacian g a k) (pos 0)) e ∙ ring 1 (λ c. # 0 ≈ # 0 ⊕ (# 0 ⊖ c) ⊗ # 0) refl c ∙
          (λ j. cond (sym e j) (sum_over (neighbours g k) a) (pos 0) +ℤ (pos 0 -ℤ c) *ℤ sym (still k e) j)

  pub bending_by_sums : (k : ℕ) → moving g k ≡ true
      → biharmonic g a k ≡ bending_of c (sum_over (neighbours g k) a) (sum_over (neighbours g k) S) (a k)
  unfolding laplacian
  bending_by_sums k mk =
      let js = neighbours g k in
      (λ j. over_ext js inner_by_sum j -ℤ pos (count_is g size k mk j)
      *ℤ (inner_by_sum k ∙ ap (λ (z : ℤ). z +ℤ (pos 0 -ℤ c) *ℤ a k) (inner-sum k mk)) j) ∙
      ap (λ (z : ℤ). z -ℤ c *ℤ (sum_over js a +ℤ (pos 0 -ℤ c) *ℤ a k))
      (over_add js S (λ j. (pos 0 -ℤ c) *ℤ a j) ∙ ap (λ (z : ℤ). sum_over js S +ℤ z) (over-scale js (pos 0 -ℤ c) a)) ∙
      ring 4 (λ c x y z. y ⊕ (# 0 ⊖ c) ⊗ x ⊖ c ⊗ (x ⊕ (# 0 ⊖ c) ⊗ z) ≈ y ⊖ # 2 ⊗ c ⊗ x ⊕ c ⊗ c ⊗ z) refl
      c (sum_over js a) (sum_over js S) (a k)

  -- ---- how large the sums are

  over-low : (B : ℕ) (b : ℕ → ℤ) → ((j : ℕ) → nat_abs (b j) ≤ B) → (k : ℕ) → moving g k ≡ true
      → nat_abs (sum_over (neighbours g k) b) ≤ count_of g * B
  over-low B b low k mk =
      subst (λ (n : ℕ). nat_abs (sum_over (neighbours g k) b) ≤ n * B) (count_is g size k mk) (size-over (neighbours g k) b B low)

  pub inner-low : (B : ℕ) → ((j : ℕ) → nat_abs (a j) ≤ B) → (k : ℕ) → nat_abs (S k) ≤ count_of g * B
  unfolding inner_sum
  inner-low B low k = go (moving g k) refl
    where
      go : (t : Bool) → moving g k ≡ t → nat_abs (cond t (sum_over (neighbours g k) a) (pos 0)) ≤ count_of g * B
      go true e = over-low B a low k e
      go false e = zero-le

-- ---- a point whose neighbours' sums are added

module _ {p : Plan} {f : ℤ} {older newer : List ℤ} {k : ℕ} {sum second : ℤ} (r : Ready p f older newer)
    (n : Summed p.instrument.grid newer k sum second) where
  abbrev g : Grid
  g = p.instrument.grid

  abbrev count : ℕ
  count = count_of g

  in_table_lem : in_table g ≡ true
  in_table_lem = r.planned.passes.size

  second_low : nat_abs second ≤ count * count * ceiling
  second_low = subst (λ (z : ℤ). nat_abs z ≤ count * count * ceiling) (sym n.second_is)
      (omega (
        arith,
        over-low g in_table_lem (point newer) r.newer_still (count * ceiling) (inner_sum g (point newer))
            (inner-low g in_table_lem (point newer) r.newer_still ceiling r.newer_low) k n.moves,
        N.mul_assoc count count ceiling,
      ))

  summed-low : nat_abs sum ≤ count * ceiling
  summed-low = subst (λ (z : ℤ). nat_abs z ≤ count * ceiling) (sym n.sum_is)
      (over-low g in_table_lem (point newer) r.newer_still ceiling (point newer) r.newer_low k n.moves)

  pub bendable : Bendable p second sum (point newer k)
  bendable = record {
    second_low = N.le_trans second_low (N.mul-le-mul_right ceiling (N.mul-le-mul (few r.planned).1 (few r.planned).1));
    sum_low = N.le_trans summed-low (N.mul-le-mul_right ceiling (few r.planned).1);
    u_low = r.newer_low k;
    second_part = second_part r.planned second second_low;
    sum_part = sum_part r.planned sum summed-low;
  }

  -- m·B is what is made of them
  pub bent : Neighbouring p.instrument newer k sum (p.m *ℤ bending_of (pos count) sum second (point newer k))
  bent = record {
    moves = n.moves;
    sum_is = n.sum_is;
    stiff_is = λ j. m_is r.planned j
        *ℤ sym (bending_by_sums g in_table_lem (point newer) r.newer_still k n.moves
        ∙ (λ j. bending_of (pos count) (sym n.sum_is j) (sym n.second_is j) (point newer k))) j;
  }

-- ---- a point

module _ {p : Plan} {f : ℤ} {older newer : List ℤ} {k : ℕ} {sum stiff : ℤ} (r : Ready p f older newer)
    (n : Neighbouring p.instrument newer k sum stiff) where
  abbrev i : Instrument
  i = p.instrument

  abbrev s : Settings
  s = i.settings

  abbrev number : ℕ
  number = count_of i.grid

  abbrev u : ℤ
  u = point newer k

  size : in_table i.grid ≡ true
  size = r.planned.passes.size

  sum_low : nat_abs sum ≤ number * ceiling
  sum_low = subst (λ (z : ℤ). nat_abs z ≤ number * ceiling) (sym n.sum_is)
      (over-low i.grid size (point newer) r.newer_still ceiling (point newer) r.newer_low k n.moves)

  abbrev a : ℕ → ℤ
  a = point newer

  abbrev x : ℤ
  x = sum_over (neighbours i.grid k) a

  abbrev xs : ℤ
  xs = sum_over (neighbours i.grid k) (inner_sum i.grid a)

  -- |S − 2c·N + c²·u| where |S| is at most c²·C, |N| at most c·C and |u| at most C
  bending_low : nat_abs (biharmonic i.grid (point newer) k) ≤ 4 * (number * number) * ceiling
  bending_low = subst (λ (z : ℤ). nat_abs z ≤ 4 * (number * number) * ceiling)
      (sym (bending_by_sums i.grid size (point newer) r.newer_still k n.moves))
      (omega (
        arith,
        size-add (xs -ℤ pos 2 *ℤ pos number *ℤ x) (pos number *ℤ pos number *ℤ u),
        size-minus xs (pos 2 *ℤ pos number *ℤ x),
        size-mul (pos (2 * number)) x,
        size-mul (pos (number * number)) u,
        N.mul-le-mul_left (2 * number) (over-low i.grid size a r.newer_still ceiling a r.newer_low k n.moves),
        N.mul-le-mul_left (number * number) (r.newer_low k),
        over-low i.grid size a r.newer_still (number * ceiling) (inner_sum i.grid a)
            (inner-low i.grid size a r.newer_still ceiling r.newer_low) k n.moves,
        N.mul_assoc number number ceiling,
        N.mul_assoc 2 number (number * ceiling),
        N.mul_assoc 4 (number * number) ceiling,
      ))

  stiff_low : nat_abs stiff ≤ 4 * D * ceiling
  stiff_low = subst (λ (z : ℤ). nat_abs z ≤ 4 * D * ceiling) (sym n.stiff_is)
      (stiff-part r.planned (biharmonic i.grid (point newer) k) bending_low)

  pub updatable : Updatable p u sum (point older k) f stiff
  updatable = record {
    u_low = r.newer_low k;
    sum_low = N.le_trans sum_low (N.mul-le-mul_right ceiling (few r.planned).1);
    older_low = r.older_low k;
    f_low = r.f_low;
    near_part = near_part r.planned sum sum_low;
    stiff_low = stiff_low;
  }

  -- ---- what is made of it

  abbrev l : ℤ
  l = sum -ℤ pos number *ℤ u

  laplacian_is : laplacian i.grid (point newer) k ≡ l
  laplacian_is = by_sum i.grid size (point newer) r.newer_still k n.moves ∙ ap (λ (z : ℤ). z -ℤ pos number *ℤ u) (sym n.sum_is)

  pub numerator_is : numerator_with s u l stiff (point older k) f ≡ numerator i (point newer) (point older) (λ j. f) k
  unfolding numerator
  numerator_is = λ j. numerator_with s u (sym laplacian_is j) (n.stiff_is j) (point older k) f

  pub next_is : next_over (numerator_with s u l stiff (point older k) f) (divisor s) ≡ next_by i f older newer k
  unfolding next_by
  next_is = ap (λ (n : ℤ). next_over n (divisor s)) numerator_is

-- ---- the same, each number as the machine has it

module _ {p : Plan} {f : ℤ} {older newer : List ℤ} {k : ℕ} {sum stiff : ℤ} (r : Ready p f older newer)
    (n : Neighbouring p.instrument newer k sum stiff) where
  pub force_held : to_z w64 (of_z w64 f) ≡ f
  force_held = held r.f_low

  pub beside-held : Neighbouring p.instrument newer k (to_z w64 (of_z w64 sum)) (to_z w64 (of_z w64 stiff))
  beside-held =
      let u = updatable r n in
      let x : to_z w64 (of_z w64 sum) ≡ sum = held_below (4 * ceiling) tt u.sum_low in
      let y : to_z w64 (of_z w64 stiff) ≡ stiff = held_below (4 * D * ceiling) tt u.stiff_low in
      coe 1 0 (j. Neighbouring p.instrument newer k (x j) (y j)) n
