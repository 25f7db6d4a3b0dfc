-- A line has one row, and its fixed points are ends.
use Rattle.std.proofs.Common.{◌≡◌, ℕ, ◌+◌, ◌-◌, ◌*◌, ◌<◌, ◌≤◌, true, false, ◌&&◌, ◌||◌, eqb, List, length, ℤ, sym, ap, ◌∙◌, ap₂}
use Rattle.std.proofs.Common.{true≢false, add-zero, zero-add, zero-mul, mul-one, arith, eqb-true}
use mathlib.Core.Bool.{or-false}
use mathlib.Core.Logic.{◌⊎◌, inl, inr}
use Rattle.types.specs.declared.Grid.{Grid}
use Rattle.scheme.specs.Lists.{some_below}
use Rattle.types.specs.declared.Kind.{Kind}
use Rattle.types.specs.declared.Kind.TheVariants.{Unknown, StringFixed, StringFixedFree, StringFree, Bar, MembraneRectangular}
use Rattle.types.specs.declared.Kind.TheVariants.{MembraneRound, Plate}
use Rattle.scheme.specs.Instruments.{kind, points, fixed, within, size_in, in_table}
use Rattle.scheme.specs.Refusals.{fixed_not_zero}
use Rattle.scheme.proofs.Laws.Bools.{and_both}
use Rattle.scheme.proofs.Laws.Kinds.{sized}
use Rattle.kinds.specs.Runs.{run, run_in}
use Rattle.sizes.proofs.KindLaws.{number_of}
use Rattle.kinds.proofs.RunLaws.{run_is}
use Rattle.levels.specs.Levels.{not_zero, some_not_zero, row_not_zero, row_unfixed, ends_not_zero}
use Rattle.levels.proofs.LevelLaws.{some_first, some_after, row_test}
use Rattle.kinds.proofs.SearchLaws.{some_ext}
use Rattle.std.proofs.Common.{take, drop}

line_rows : (c r : ℕ) → (within 3 1024 c && eqb r 1) ≡ true → r ≡ 1
line_rows c r s = eqb-true r 1 (and_both (within 3 1024 c) (eqb r 1) s).1

one_row : (K : Kind) (c r : ℕ) → size_in K c r ≡ true → number_of K ≤ 4 → r ≡ 1
unfolding size_in
one_row Unknown c r s h = absurd (true≢false (sym s))
one_row StringFixed c r s h = line_rows c r s
one_row StringFixedFree c r s h = line_rows c r s
one_row StringFree c r s h = line_rows c r s
one_row Bar c r s h = line_rows c r s
one_row MembraneRectangular c r s h = absurd (omega arith)
one_row MembraneRound c r s h = absurd (omega arith)
one_row Plate c r s h = absurd (omega arith)

-- a line of the table has as many points as columns, 3 at least
pub line-points : (g : Grid) {K : Kind} → kind g ≡ K → number_of K ≤ 4 → in_table g ≡ true → (3 ≤ g.columns) × (points g ≡ g.columns)
line-points g {K} e low size =
    let s = ap (λ (K : Kind). size_in K g.columns g.rows) (sym e) ∙ size in
    ((sized K g.columns g.rows s).columns_low, ap (λ (r : ℕ). g.columns * r) (one_row K g.columns g.rows s low) ∙ mul-one g.columns)

module _ (xs : List ℤ) where
  -- no column before a run, or one; none after it, or one
  none_before : some_not_zero (take 0 xs) ≡ false
  unfolding some_below
  none_before = some_first xs 0 (omega arith)

  one_before : 1 ≤ length xs → some_not_zero (take 1 xs) ≡ not_zero xs 0
  unfolding some_below
  one_before h = some_first xs 1 h

  none_after : (a : ℕ) → length xs ≡ a → some_not_zero (drop a xs) ≡ false
  unfolding some_below
  none_after a l =
      let n : length xs - a ≡ 0 = omega arith in some_after xs a ∙ ap (λ (m : ℕ). some_below m (λ k. not_zero xs (a + k))) n

  one_after : (a : ℕ) → length xs ≡ a + 1 → some_not_zero (drop a xs) ≡ not_zero xs a
  unfolding some_below
  one_after a l =
      let n : length xs - a ≡ 1 = omega arith in
      some_after xs a ∙ ap (λ (m : ℕ). some_below m (λ k. not_zero xs (a + k))) n ∙ ap (not_zero xs) (add-zero a)

  two_ends : (c : ℕ) → length xs ≡ c → 3 ≤ c → row_not_zero xs (run 1 (c - 1)) ≡ (not_zero xs 0 || not_zero xs (c - 1))
  two_ends c l h = ap₂ ◌||◌ (one_before (omega arith)) (one_after (c - 1) (omega arith))

  line-ends : (K : Kind) (c r : ℕ) → length xs ≡ c → size_in K c r ≡ true → number_of K ≤ 4
      → row_not_zero xs (run_in K c r 0) ≡ ends_not_zero K xs (c - 1)
  unfolding run_in size_in
  line-ends Unknown c r l s h = absurd (true≢false (sym s))
  line-ends StringFixed c r l s h = two_ends c l (sized StringFixed c r s).columns_low
  line-ends StringFixedFree c r l s h = let w = (sized StringFixedFree c r s).columns_low in
      ap₂ ◌||◌ (one_before (omega arith)) (none_after c l) ∙ or-false (not_zero xs 0)
  line-ends StringFree c r l s h = ap₂ ◌||◌ none_before (none_after c l)
  line-ends Bar c r l s h = two_ends c l (sized Bar c r s).columns_low
  line-ends MembraneRectangular c r l s h = absurd (omega arith)
  line-ends MembraneRound c r l s h = absurd (omega arith)
  line-ends Plate c r l s h = absurd (omega arith)

  -- the level is the line's one row
  only_row : (g : Grid) → length xs ≡ g.columns → fixed_not_zero g xs ≡ row_unfixed g xs 0
  unfolding fixed_not_zero
  only_row g l =
      ap (λ (n : ℕ). some_below n (λ i. fixed g i && not_zero xs i)) l ∙
      some_ext g.columns (λ a q. ap (λ (i : ℕ). fixed g i && not_zero xs a) (sym (ap (λ (k : ℕ). k + a) (zero-mul g.columns) ∙ zero-add a)))

  pub line_test : (g : Grid) {K : Kind} → kind g ≡ K → number_of K ≤ 4 → in_table g ≡ true → length xs ≡ points g
      → ends_not_zero K xs (g.columns - 1) ≡ fixed_not_zero g xs
  line_test g {K} e low size l =
      let s = ap (λ (K : Kind). size_in K g.columns g.rows) (sym e) ∙ size in
      let one = one_row K g.columns g.rows s low in
      let some : 0 < g.rows = omega (arith, one) in
      let long = l ∙ (line-points g e low size).1 in
      sym (only_row g long
      ∙ row_test g size 0 some xs long
      ∙ ap (row_not_zero xs) (run_is g 0 size some ∙ ap (λ (K : Kind). run_in K g.columns g.rows 0) e)
      ∙ line-ends K g.columns g.rows long s low)

  -- both ends, of the two kinds that fix them
  pub both_ends : (g : Grid) {K : Kind} → (K ≡ StringFixed) ⊎ (K ≡ Bar) → K ≡ kind g → in_table g ≡ true → length xs ≡ points g
      → (3 ≤ g.columns) × (length xs ≡ g.columns) × ((not_zero xs 0 || not_zero xs (g.columns - 1)) ≡ fixed_not_zero g xs)
  both_ends g (inl e) k size l = let p = line-points g (sym k ∙ e) (omega arith) size in
      (p.0, l ∙ p.1, line_test g (sym k ∙ e) (omega arith) size l)
  both_ends g (inr e) k size l = let p = line-points g (sym k ∙ e) (omega arith) size in
      (p.0, l ∙ p.1, line_test g (sym k ∙ e) (omega arith) size l)
