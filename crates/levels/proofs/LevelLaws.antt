-- A level's points as code looks at them.
use Rattle.std.proofs.Common.{◌≡◌, ℕ, zero, suc, ◌+◌, ◌-◌, ◌*◌, ◌^◌, ◌<◌, ◌≤◌, Bool, true, false, ◌&&◌, ◌||◌, ltb, List}
use Rattle.std.proofs.Common.{length, ℤ, pos, negsuc, nat_abs, sym, refl, ap, ◌∙◌, ap₂, subst₂, le_refl, suc-mul}
use Rattle.std.proofs.Common.{mul_comm, mul-le-mul, add-one, arith, w64, to_z, of_z, lt-ltb, eq-eqb}
use Rattle.std.specs.Prelude.{nat_lt, unsigned_abs}
use Rattle.std.specs.List.{list_any}
use Rattle.std.proofs.lemmas.List.Folds.{list_any_more}
use Rattle.std.proofs.Common.{take, drop, length-drop, length-take-le}
use Rattle.std.proofs.lemmas.List.{get_or-drop, get_or-take}
use Rattle.std.proofs.Math.Seq.{take-length}
use lib.Arith.{digits_div, digits_mod}
use lib.Signed.{mag}
use Rattle.bounded.proofs.Num.{back}
use Rattle.types.specs.declared.Grid.{Grid}
use Rattle.scheme.specs.Lists.{point, some_below}
use Rattle.types.specs.declared.Kind.{Kind}
use Rattle.types.specs.declared.Kind.TheVariants.{MembraneRound}
use Rattle.scheme.specs.Instruments.{kind, points, column, row, round_edge, fixed_in, fixed}
use Rattle.scheme.specs.Refusals.{fixed_not_zero}
use Rattle.scheme.specs.Instruments.{in_table}
use Rattle.scheme.proofs.Laws.Bools.{and_yes}
use Rattle.kinds.specs.Runs.{run_of}
use Rattle.levels.specs.Levels.{not_zero, some_not_zero, row_not_zero, round_not_zero, row_unfixed, row_of, unfixed}
use Rattle.kinds.proofs.SearchLaws.{some_ext, some_rows, some_outside_lem}
use Rattle.kinds.proofs.RunLaws.{fixed-run, run_bounds}

-- ---- not 0, as code tests it: by the bits of the number

pub bits_zero : (z : ℤ) → mag z < 2 ^ 63 → of_z w64 z ≡ 0 → ltb 0 (nat_abs z) ≡ false
bits_zero z h e = ap (λ (v : ℤ). ltb 0 (nat_abs v)) (sym (back z h) ∙ ap (to_z w64) e)

pub bits_not_zero : (z : ℤ) → (of_z w64 z ≡ 0 → ⊥) → ltb 0 (nat_abs z) ≡ true
bits_not_zero (pos zero) f = absurd (f refl)
bits_not_zero (pos (suc n)) f = lt-ltb 0 (suc n) (omega arith)
bits_not_zero (negsuc n) f = lt-ltb 0 (suc n) (omega arith)

-- ---- some point is not 0: of a level, of its first n points, of those after

any_first : (p : ℤ → Bool) (ys : List ℤ) (n : ℕ) → n ≤ length ys → list_any p (take n ys) ≡ some_below n (λ k. p (point ys k))
unfolding some_below
any_first p ys zero h = refl
any_first p ys (suc n) h =
    ap (λ (m : ℕ). list_any p (take m ys)) (sym (add-one n)) ∙ list_any_more p ys n (pos 0) (omega arith) ∙
    ap (λ (t : Bool). t || p (point ys n)) (any_first p ys n (omega arith))

pub some_of : (xs : List ℤ) → list_any (λ v. nat_lt 0 (unsigned_abs v)) xs ≡ some_not_zero xs
unfolding some_not_zero
some_of xs =
    ap (list_any (λ v. nat_lt 0 (unsigned_abs v))) (sym (take-length xs)) ∙
    any_first (λ v. nat_lt 0 (unsigned_abs v)) xs (length xs) (omega arith)

pub some_first : (ys : List ℤ) (n : ℕ) → n ≤ length ys → some_not_zero (take n ys) ≡ some_below n (not_zero ys)
unfolding some_not_zero
some_first ys n h =
    ap (λ (m : ℕ). some_below m (not_zero (take n ys))) (length-take-le n ys h) ∙
    some_ext n (λ k q. ap (λ (z : ℤ). nat_lt 0 (unsigned_abs z)) (get_or-take n ys k (pos 0) q))

pub some_after : (ys : List ℤ) (n : ℕ) → some_not_zero (drop n ys) ≡ some_below (length ys - n) (λ k. not_zero ys (n + k))
unfolding some_not_zero
some_after ys n =
    ap (λ (m : ℕ). some_below m (not_zero (drop n ys))) (length-drop n ys) ∙
    some_ext (length ys - n) (λ k q. ap (λ (z : ℤ). nat_lt 0 (unsigned_abs z)) (get_or-drop n ys k (pos 0)))

-- ---- a fixed point that is not 0: row by row, outside each row's run

-- the row after b begins where b ends, and ends within r rows of c columns where b is one of them
pub next_row : (b c : ℕ) → b * c + c ≡ (b + 1) * c
next_row b c = sym (ap (λ (n : ℕ). n * c) (add-one b) ∙ suc-mul b c)

pub row_inside : (b r c : ℕ) → b < r → b * c + c ≤ c * r
row_inside b r c h = subst₂ ◌≤◌ (sym (next_row b c)) (mul_comm r c) (mul-le-mul (omega arith) (le_refl c))

module _ (g : Grid) where
  -- by the run of the row
  pub row_test : in_table g ≡ true → (b : ℕ) → b < g.rows → (ys : List ℤ) → length ys ≡ g.columns
      → row_unfixed g ys b ≡ row_not_zero ys (run_of g b)
  row_test size b h ys l =
      let r = run_of g b in
      let w = run_bounds g b in
      some_ext g.columns (λ a q. ap (λ (t : Bool). t && not_zero ys a) (fixed-run g b a size h q)) ∙
      some_outside_lem g.columns r.from r.to (not_zero ys) w.rising w.inside ∙
      ap₂ ◌||◌ (sym (some_first ys r.from (omega (arith, w.rising, w.inside))))
      (ap (λ (n : ℕ). some_below (n - r.to) (λ k. not_zero ys (r.to + k))) (sym l) ∙ sym (some_after ys r.to))

  -- of a round membrane by its edge
  pub round_row : kind g ≡ MembraneRound → (b : ℕ) (ys : List ℤ) → length ys ≡ g.columns → row_unfixed g ys b ≡ round_not_zero ys b
  unfolding fixed_in
  round_row e b ys l =
      some_ext g.columns (λ a q. ap (λ (t : Bool). t && not_zero ys a)
      (ap (λ (K : Kind). fixed_in K g.columns g.rows (column g (b * g.columns + a)) (row g (b * g.columns + a))) e
      ∙ ap₂ (round_edge g.columns) (digits_mod b q) (digits_div b q)))
      ∙ ap (λ (n : ℕ). some_below n (λ a. round_edge n a b && not_zero ys a)) (sym l)

  -- a row's points are the level's
  row_point : (xs : List ℤ) (b a : ℕ) → a < g.columns → not_zero xs (b * g.columns + a) ≡ not_zero (row_of g.columns xs b) a
  row_point xs b a q =
      let s = b * g.columns in
      let n = s + g.columns - s in
      let p : a < n = omega arith in
      ap (λ (z : ℤ). nat_lt 0 (unsigned_abs z)) (sym (get_or-take n (drop s xs) a (pos 0) p ∙ get_or-drop s xs a (pos 0)))

  pub rows_test : (xs : List ℤ) → length xs ≡ points g
      → fixed_not_zero g xs ≡ some_below g.rows (λ b. row_unfixed g (row_of g.columns xs b) b)
  unfolding fixed_not_zero
  rows_test xs l =
      let test : ℕ → Bool = λ i. fixed g i && not_zero xs i in
      ap (λ (n : ℕ). some_below n test) (l ∙ mul_comm g.columns g.rows) ∙ some_rows g.rows g.columns test ∙
      some_ext g.rows (λ b q. some_ext g.columns (λ a p. ap (λ (t : Bool). fixed g (b * g.columns + a) && t) (row_point xs b a p)))

-- 12 of a level that has the grid's length
pub unfixed_is : (g : Grid) (xs : List ℤ) → in_table g ≡ true → length xs ≡ points g → unfixed g xs ≡ fixed_not_zero g xs
unfolding unfixed
unfixed_is g xs size e = and_yes size ∙ and_yes (eq-eqb (length xs) (points g) e)
