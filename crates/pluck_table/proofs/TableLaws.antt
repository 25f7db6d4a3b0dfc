-- The table T keeps its rule: tests that are computed over the whole table, and laws that turn them into the rule at each entry.
use mathlib.Core.Path.{◌≡◌, refl, sym, ap, subst, ◌∙◌}
use mathlib.Core.Bool.{Bool, true, false, ◌&&◌}
use mathlib.Core.List.{List, [], ◌∷◌, reverse, reverse_aux}
use Prim.Native.Nat.{ℕ, zero, suc, ◌+◌, ◌-◌, ◌≤◌, ◌<◌}
use native.Mathlib.Nat.{add-zero, zero-add, add-suc, le_of_suc-le-suc, not-suc-le-zero}
use native.Mathlib.Omega.{arith}
use mir.Facts.{and_yes}
use lib.Dec.{T, leb, eqb, leb→le, eqb→eq}
use lib.ListN.{length, get_or}
use Rattle.pluck_table.specs.Table.{ShapeRule, TableRule, table}
use Rattle.pluck_table.specs.Loading.{never_falls}

-- the entries of two lists sum to 65536, place by place
abbrev summed : List ℕ → List ℕ → Bool
summed [] ys = true
summed (x ∷ xs) [] = false
summed (x ∷ xs) (y ∷ ys) = eqb (x + y) 65536 && summed xs ys

sums : (xs ys : List ℕ) → T (summed xs ys) → (k : ℕ) → k < length xs → get_or xs k 0 + get_or ys k 0 ≡ 65536
sums [] ys t k h = absurd (not-suc-le-zero h)
sums (x ∷ xs) [] t k h = absurd t
sums (x ∷ xs) (y ∷ ys) t zero h = eqb→eq (x + y) 65536 (and_yes (eqb (x + y) 65536) (summed xs ys) t).0
sums (x ∷ xs) (y ∷ ys) t (suc k) h = sums xs ys (and_yes (eqb (x + y) 65536) (summed xs ys) t).1 k (le_of_suc-le-suc h)

-- the entries of a list from its end, onto another list
after_reversed : (xs ys : List ℕ) (k : ℕ) → get_or (reverse_aux xs ys) (length xs + k) 0 ≡ get_or ys k 0
after_reversed [] ys k = ap (λ (m : ℕ). get_or ys m 0) (zero-add k)
after_reversed (x ∷ xs) ys k =
    ap (λ (m : ℕ). get_or (reverse_aux xs (x ∷ ys)) m 0) (omega arith) ∙ after_reversed xs (x ∷ ys) (suc k)

in_reversed : (xs ys : List ℕ) (k : ℕ) → k < length xs → get_or (reverse_aux xs ys) (length xs - suc k) 0 ≡ get_or xs k 0
in_reversed [] ys k h = absurd (not-suc-le-zero h)
in_reversed (x ∷ xs) ys zero h =
    ap (λ (m : ℕ). get_or (reverse_aux xs (x ∷ ys)) m 0) (omega arith) ∙ after_reversed xs (x ∷ ys) 0
in_reversed (x ∷ xs) ys (suc k) h =
    ap (λ (m : ℕ). get_or (reverse_aux xs (x ∷ ys)) m 0) (omega arith) ∙ in_reversed xs (x ∷ ys) k (le_of_suc-le-suc h)

-- what never falls, entry by entry
pub rises : (xs : List ℕ) → T (never_falls xs) → (k : ℕ) → suc k < length xs → get_or xs k 0 ≤ get_or xs (suc k) 0
rises [] t k h = absurd (not-suc-le-zero h)
rises (x ∷ []) t k h = absurd (not-suc-le-zero (le_of_suc-le-suc h))
rises (x ∷ y ∷ ys) t zero h = leb→le x y (and_yes (leb x y) (never_falls (y ∷ ys)) t).0
rises (x ∷ y ∷ ys) t (suc k) h = rises (y ∷ ys) (and_yes (leb x y) (never_falls (y ∷ ys)) t).1 k (le_of_suc-le-suc h)

-- in one pass, by the table from its end
all_mirrored : T (summed table (reverse table))
unfolding table
all_mirrored = tt

pub table_rule : TableRule table
unfolding table
table_rule = record {
  shape = record { long = refl; begins = refl; ends = refl; rises = λ j h. rises table tt j h };
  mirrors = λ j h.
      let place : 1025 - suc (1024 - j) ≡ j = omega arith in
      let other = sym (in_reversed table [] (1024 - j) (omega arith)) ∙ ap (λ (m : ℕ). get_or (reverse table) m 0) place in
      ap (λ (n : ℕ). get_or table j 0 + n) other ∙ sums table (reverse table) all_mirrored j h;
}

-- ---- any table that keeps the rule of a shape

module _ (t : List ℕ) (rule : ShapeRule t) where
  climbs : (j n : ℕ) → j + n < 1025 → get_or t j 0 ≤ get_or t (j + n) 0
  climbs j zero h = subst (λ (m : ℕ). get_or t j 0 ≤ get_or t m 0) (sym (add-zero j)) (omega arith)
  climbs j (suc n) h =
      let one = rule.rises (j + n) (omega arith) in
      subst (λ (m : ℕ). get_or t j 0 ≤ get_or t m 0) (sym (add-suc j n)) (omega (arith, climbs j n (omega arith)))

  -- no entry is above the last
  pub entry_high : (j : ℕ) → j < 1025 → get_or t j 0 ≤ 65536
  entry_high j h =
      let e : j + (1024 - j) ≡ 1024 = omega arith in
      subst (λ (m : ℕ). get_or t j 0 ≤ m) (ap (λ (m : ℕ). get_or t m 0) e ∙ rule.ends) (climbs j (1024 - j) (omega arith))
