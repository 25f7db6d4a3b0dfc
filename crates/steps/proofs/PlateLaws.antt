-- The sums of neighbours of a plate's rows: how they are put, read and kept.
use mathlib.Core.Path.{◌≡◌, refl, sym, ap, ◌∙◌, subst}
use mathlib.Core.Bool.{Bool, true, false, cond, not}
use mathlib.Core.List.{List}
use mathlib.Core.Logic.{◌⊎◌, inl, inr}
use Prim.Native.Nat.{ℕ, ◌+◌, ◌-◌, ◌*◌, ◌≤◌, ◌<◌}
use native.Mathlib.Nat as N
use native.Mathlib.Decide.{dec_lt, ℕ_discrete}
use native.Mathlib.Omega.{arith}
use lib.IntN.{ℤ, pos, nat_abs, ◌+ℤ◌}
use lib.ListN.{set, length-set}
use lib.Seq.{get_or-set_same, get_or-set_other}
use Rattle.integers.specs.Sum.{sum_over}
use Rattle.types.specs.declared.Grid.{Grid}
use Rattle.types.specs.declared.Instrument.{Instrument}
use Rattle.types.specs.Numbers.{ceiling}
use Rattle.scheme.specs.Lists.{point}
use Rattle.scheme.specs.Instruments.{in_table, moving}
use Rattle.scheme.specs.Step.{neighbours}
use Rattle.plans.specs.declared.Plan.{Plan}
use Rattle.steps.specs.declared.plates.SumRows.{SumRows}
use Rattle.steps.specs.Plan.{AtMost, inner_sum, Ready, Summed}
use Rattle.steps.specs.Run.{Filled, Moves, four_beside}
use Rattle.steps.specs.Plates.{TwoRows, InRow, Readable, second_at}
use Rattle.plans.proofs.PlanLaws.{count_few}
use Rattle.steps.proofs.BesideLaws.{sum_four, around_neighbours}
use Rattle.steps.proofs.PointLaws.{inner-low}

-- what is put among small values leaves them small
pub put_low : {B : ℕ} {v : ℕ → ℤ} {sums₀ sums : List ℤ} {from to : ℕ} → Filled v true 0 sums₀ sums from to
    → ((j : ℕ) → from ≤ j → j < to → nat_abs (v j) ≤ B) → AtMost B (point sums₀) → AtMost B (point sums)
put_low {B} {v} {sums₀} {sums} {from} {to} f small low j = go (dec_lt j from) (dec_lt j to)
  where
    as_was : (j + 0 < from) ⊎ (to ≤ j + 0) → nat_abs (point sums j) ≤ B
    as_was o = subst (λ (z : ℤ). nat_abs z ≤ B) (sym (f.kept j (inr o))) (low j)

    go : Dec (j < from) → Dec (j < to) → nat_abs (point sums j) ≤ B
    go (yes a) b = as_was (inl (omega arith))
    go (no a) (no b) = as_was (inr (omega (arith, b)))
    go (no a) (yes b) = subst (λ (z : ℤ). nat_abs z ≤ B)
        (sym (ap (point sums) (sym (N.sub-zero j)) ∙ f.written refl j (omega (arith, a)) b)) (small j (omega (arith, a)) b)

-- ---- sums of the neighbour rule

module _ (g : Grid) (a : ℕ → ℤ) where
  pub sum-still : (k : ℕ) → moving g k ≡ false → inner_sum g a k ≡ pos 0
  unfolding inner_sum
  sum-still k e = ap (λ (t : Bool). cond t (sum_over (neighbours g k) a) (pos 0)) e

  -- of a moving point of a grid
  pub sum_around : in_table g ≡ true → (g.rows ≡ 1 → ⊥) → (k : ℕ) → moving g k ≡ true
      → a (k - 1) +ℤ a (k + 1) +ℤ a (k - g.columns) +ℤ a (k + g.columns) ≡ inner_sum g a k
  unfolding inner_sum
  sum_around size grid k mk =
      sum_four a (k - 1) (k + 1) (k - g.columns) (k + g.columns) ∙
      ap (λ (js : List ℕ). sum_over js a) (sym (around_neighbours g size grid k mk)) ∙
      ap (λ (t : Bool). cond t (sum_over (neighbours g k) a) (pos 0)) (sym mk)

-- ---- points of a row

-- some of them
pub some_row : {g : Grid} {r : SumRows} {from to a b : ℕ} → InRow g r from to → from ≤ a → Moves g a b → b ≤ to → InRow g r a b
some_row w l m h = record {
  grid = w.grid;
  moves = m;
  first = omega (arith, w.first);
  last = omega (arith, w.last);
  below = λ k a b. w.below k (omega arith) (omega arith);
}

module _ {p : Plan} {f : ℤ} {older newer : List ℤ} (r : Ready p f older newer) where
  abbrev i : Instrument
  i = p.instrument

  abbrev g : Grid
  g = i.grid

  size : in_table g ≡ true
  size = r.planned.passes.size

  abbrev S : ℕ → ℤ
  S = inner_sum g (point newer)

  -- no sum is large
  pub sum_low : (k : ℕ) → nat_abs (S k) ≤ 4 * ceiling
  sum_low k =
      N.le_trans (inner-low g size (point newer) r.newer_still ceiling r.newer_low k) (N.mul-le-mul_right ceiling (count_few g))

  module _ {sums : List ℤ} {rows : SumRows} {from to at : ℕ} (t : TwoRows g newer sums rows at) (w : InRow g rows from to)
      (first : from ≤ at) (last : at < to) where
    abbrev c : ℕ
    c = at - rows.start

    mk : moving g at ≡ true
    mk = w.moves.each at first last

    -- the sum below it
    abbrev pub below : ℤ
    below = cond rows.last (pos 0) (four_beside newer g.columns (at + g.columns))

    pub below_is : below ≡ S (at + g.columns)
    below_is = go rows.last (w.below at first last)
      where
        go : (l : Bool) → moving g (at + g.columns) ≡ not l
            → cond l (pos 0) (four_beside newer g.columns (at + g.columns)) ≡ S (at + g.columns)
        go true e = sym (sum-still g (point newer) (at + g.columns) e)
        go false e = sum_around g (point newer) size w.grid (at + g.columns) e

    pub below_low : nat_abs below ≤ 4 * ceiling
    below_low = subst (λ (z : ℤ). nat_abs z ≤ 4 * ceiling) (sym below_is) (sum_low (at + g.columns))

    -- where the others are read
    pub readable : Readable sums rows c below
    readable = record {
      some = omega (arith, w.first);
      here = omega (arith, t.here.room, w.first, w.last);
      other = omega (arith, t.room, w.first, w.last);
      low = t.low;
      below_low = below_low;
    }

    -- one that stands in the row
    stands : (j x y : ℕ) → rows.here + x ≡ y → rows.start + x ≡ j → x < g.columns → point sums y ≡ S j
    stands j x y e f h = ap (point sums) (sym e) ∙ t.here.each x h ∙ ap S f

    here_is : point sums (rows.here + c) ≡ S at
    here_is = stands at c (rows.here + c) refl (omega (arith, w.first)) (omega (arith, w.first, w.last))

    second_is : second_at sums rows c below ≡ sum_over (neighbours g at) S
    second_is =
        let left = stands (at - 1) (c - 1) (rows.here + c - 1) (omega (arith, w.first)) (omega (arith, w.first))
        (omega (arith, w.first, w.last)) in
        let right = stands (at + 1) (c + 1) (rows.here + c + 1) (omega arith) (omega (arith, w.first))
        (omega (arith, w.first, w.last)) in
        let above : point sums (rows.other + c) ≡ S (at - g.columns) =
        t.above c (omega (arith, w.first)) (omega (arith, w.first, w.last)) ∙ ap S (omega (arith, w.first, t.high)) in
        (λ j. left j +ℤ right j +ℤ above j +ℤ below_is j) ∙ sum_four S (at - 1) (at + 1) (at - g.columns) (at + g.columns) ∙
        ap (λ (js : List ℕ). sum_over js S) (sym (around_neighbours g size w.grid at mk))

    pub plate_beside : Summed g newer at (point sums (rows.here + c)) (second_at sums rows c below)
    plate_beside = record {
      moves = mk;
      sum_is = here_is ∙ sym (sum_around g (point newer) size w.grid at mk) ∙
          sum_four (point newer) (at - 1) (at + 1) (at - g.columns) (at + g.columns) ∙
          ap (λ (js : List ℕ). sum_over js (point newer)) (sym (around_neighbours g size w.grid at mk));
      second_is = second_is;
    }

    -- once the sum below stands for the one above
    pub two-next : TwoRows g newer (set sums (rows.other + c) below) rows (at + 1)
    two-next = record {
      high = t.high;
      here = record {
        room = simp length-set t.here.room;
        each = λ x h. other_place (rows.here + x) (here_apart x h t.apart) ∙ t.here.each x h;
      };
      room = simp length-set t.room;
      apart = t.apart;
      above = λ x a h. other_place (rows.other + x) (λ e. omega arith) ∙ t.above x (omega arith) h;
      below = λ x a. by_column x a (ℕ_discrete x c);
      low = λ j. by_place j (ℕ_discrete j (rows.other + c));
    }
      where
        other_place : (j : ℕ) → (j ≡ rows.other + c → ⊥) → point (set sums (rows.other + c) below) j ≡ point sums j
        other_place j n = get_or-set_other sums (rows.other + c) j below (pos 0) n

        this_place : point (set sums (rows.other + c) below) (rows.other + c) ≡ below
        this_place = get_or-set_same sums (rows.other + c) below (pos 0) readable.other

        here_apart : (x : ℕ) → x < g.columns → (rows.here + g.columns ≤ rows.other) ⊎ (rows.other + g.columns ≤ rows.here)
            → rows.here + x ≡ rows.other + c → ⊥
        here_apart x h (inl o) e = omega arith
        here_apart x h (inr o) e = omega (arith, w.first, w.last)

        by_column : (x : ℕ) → rows.start + x < at + 1 → Dec (x ≡ c)
            → point (set sums (rows.other + c) below) (rows.other + x) ≡ S (rows.start + g.columns + x)
        by_column x a (yes e) =
            ap (λ (y : ℕ). point (set sums (rows.other + c) below) (rows.other + y)) e ∙ this_place ∙
            below_is ∙ ap S (omega (arith, w.first))
        by_column x a (no n) = other_place (rows.other + x) (λ e. n (omega arith)) ∙ t.below x (omega (arith, n))

        by_place : (j : ℕ) → Dec (j ≡ rows.other + c) → nat_abs (point (set sums (rows.other + c) below) j) ≤ 4 * ceiling
        by_place j (yes e) = subst (λ (z : ℤ). nat_abs z ≤ 4 * ceiling)
            (sym (ap (point (set sums (rows.other + c) below)) e ∙ this_place)) below_low
        by_place j (no n) = subst (λ (z : ℤ). nat_abs z ≤ 4 * ceiling) (sym (other_place j n)) (t.low j)
