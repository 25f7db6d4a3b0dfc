-- The run of a row is its moving columns.
use mathlib.Core.Path.{◌≡◌, refl, sym, ap, ap₂, ◌∙◌, subst}
use mathlib.Core.Bool.{Bool, true, false, not, ◌&&◌, ◌||◌, and-false, not-not, cond, true≢false}
use mathlib.Core.Logic.{◌⊎◌, inl, inr}
use Prim.Native.Nat.{ℕ, zero, suc, ◌+◌, ◌-◌, ◌*◌, ◌/◌, ◌%◌, ◌≤◌, ◌<◌, zero-le}
use native.Mathlib.Nat.{mul_comm, mod-lt, div-add-mod', le-div_iff_mul-le, div-lt_iff_lt-mul}
use native.Mathlib.Omega.{arith}
use borrow.Author.Tests.{ltb-true, ltb-false, leb-true, leb-false, eqb-false, lt-ltb, le-ltb, le-leb, ne_eqb, not-true}
use lib.Arith.{digits_lt, digits_div, digits_mod}
use lib.Dec.{ltb, leb, eqb, leb-zero, eqb-suc-zero}
use Rattle.integers.proofs.Order.{≤_totalℕ}
use Rattle.types.specs.declared.Grid.{Grid}
use Rattle.types.specs.declared.Kind.{Kind}
use Rattle.types.specs.declared.Kind.TheVariants.{Unknown, StringFixed, StringFixedFree, StringFree, Bar, MembraneRectangular}
use Rattle.types.specs.declared.Kind.TheVariants.{MembraneRound, Plate}
use Rattle.types.specs.Numbers.{kind_of}
use Rattle.scheme.specs.Instruments.{kind, points, size_in, at_edge, outer_ring, round_edge, fixed_in, fixed, moving, in_table}
use Rattle.scheme.proofs.Laws.Bools.{and_both, and_yes, and_no, or_no, cases, not_so, same}
use Rattle.scheme.proofs.Laws.Kinds.{Sized, sized}
use Rattle.kinds.specs.declared.runs.Run.{Run}
use Rattle.kinds.specs.Search.{leading}
use Rattle.kinds.specs.Runs.{run, in_run, inner_run, on_square, round_run, run_in, is_round, straight_run, row_run, run_of}
use Rattle.sizes.proofs.KindLaws.{by_number, round_size}
use Rattle.kinds.proofs.RoundLaws.{offset_mirror, edge_inward, on_square_lem}
use Rattle.kinds.proofs.SearchLaws.{leading-passed, leading_stops}

pub none_in : (a : ℕ) → in_run (run 0 0) a ≡ false
none_in a = ap (λ (b : Bool). leb 0 a && b) (le-ltb a 0 zero-le) ∙ and-false (leb 0 a)

-- a run of columns of c
pub record RunIn (c : ℕ) (r : Run) : Type 0 where
  pub rising : r.from ≤ r.to
  pub inside : r.to ≤ c

run_none : (c : ℕ) → RunIn c (run 0 0)
run_none c = record { rising = zero-le; inside = zero-le }

run-inner : (c : ℕ) → 3 ≤ c → RunIn c (run 1 (c - 1))
run-inner c h = record { rising = omega arith; inside = omega arith }

run-cond : (c : ℕ) (t : Bool) (r s : Run) → (t ≡ true → RunIn c r) → RunIn c s → RunIn c (cond t r s)
run-cond c true r s p q = p refl
run-cond c false r s p q = q

-- ---- of c columns, column a is not fixed where the run has it

module _ (c : ℕ) where
  -- both ends fixed
  ends : (a : ℕ) → a < c → not (at_edge c a) ≡ in_run (run 1 (c - 1)) a
  ends zero h = refl
  ends (suc a) h =
      ap not (or_no (eqb-suc-zero a)) ∙
      same (λ e. lt-ltb (suc a) (c - 1) (omega (arith, eqb-false (suc a + 1) c (not-true _ e))))
      (λ e. ap not (ne_eqb (suc a + 1) c (λ q. omega (arith, ltb-true (suc a) (c - 1) e)))) ∙
      sym (and_yes (le-leb 1 (suc a) (omega arith)))

  -- the first alone
  first : (a : ℕ) → a < c → not (eqb a 0) ≡ in_run (run 1 c) a
  first zero h = refl
  first (suc a) h = ap not (eqb-suc-zero a) ∙ sym (and_yes (le-leb 1 (suc a) (omega arith)) ∙ lt-ltb (suc a) c h)

  -- neither
  neither : (a : ℕ) → a < c → true ≡ in_run (run 0 c) a
  neither a h = sym (and_yes (leb-zero a) ∙ lt-ltb a c h)

  -- the outer ring
  ring_in : (r b a : ℕ) → a < c → not (outer_ring c r a b) ≡ in_run (inner_run c r b) a
  unfolding inner_run
  ring_in r b a h = go (at_edge c a) (at_edge r b) (ends a h)
    where
      go : (x y : Bool) → not x ≡ in_run (run 1 (c - 1)) a → not (x || y) ≡ in_run (cond y (run 0 0) (run 1 (c - 1))) a
      go true true e = sym (none_in a)
      go true false e = e
      go false true e = sym (none_in a)
      go false false e = e

-- the round edge: where the search stops, as far from the right
module _ (G b : ℕ) (some : 1 ≤ G) where
  abbrev edge : ℕ → Bool
  edge a = round_edge G a b

  from : ℕ
  from = leading G edge

  -- outside the run
  edge-left : (a : ℕ) → a < from → edge a ≡ true
  unfolding from
  edge-left a h = (leading-passed G edge).each a h

  edge-right : (a : ℕ) → a < G → G - from ≤ a → edge a ≡ true
  edge-right a h l = edge_inward G b (G - 1 - a) a some (offset_mirror G (G - 1 - a) a (omega arith)) (edge-left (G - 1 - a) (omega arith))

  -- inside
  edge_inside : (a : ℕ) → from < G → from ≤ a → a < G - from → edge a ≡ false
  unfolding from
  edge_inside a h l m = not_so (λ e. true≢false (sym (edge_inward G b a from some (omega arith) e) ∙ leading_stops G edge h))

  round_in : (a : ℕ) → a < G → not (edge a) ≡ in_run (round_run G b) a
  unfolding round_run from
  round_in a h = go (ltb from G) refl
    where
      parts : (x y : Bool) → from < G → leb from a ≡ x → ltb a (G - from) ≡ y → not (edge a) ≡ (x && y)
      parts true true s p q = ap not (edge_inside a s (leb-true from a p) (ltb-true a (G - from) q))
      parts true false s p q = ap not (edge-right a h (ltb-false a (G - from) q))
      parts false y s p q = ap not (edge-left a (leb-false from a p))

      go : (t : Bool) → ltb from G ≡ t → not (edge a) ≡ in_run (cond t (run from (G - from)) (run 0 0)) a
      go true e = parts (leb from a) (ltb a (G - from)) (ltb-true from G e) refl refl
      go false e = ap not (edge-left a (omega (arith, ltb-false from G e))) ∙ sym (none_in a)

  round_bounds : RunIn G (round_run G b)
  unfolding round_run from
  round_bounds = run-cond G (ltb from G) (run from (G - from)) (run 0 0)
      (λ e. record { rising = go (ltb-true from G e) (≤_totalℕ (G - from) from); inside = omega arith }) (run_none G)
    where
      go : from < G → (G - from ≤ from) ⊎ (from ≤ G - from) → from ≤ G - from
      go h (inl l) = absurd (true≢false (sym (edge-right from h l) ∙ leading_stops G edge h))
      go h (inr l) = l

-- ---- the run of a row

pub not-fixed : (K : Kind) (c r b a : ℕ) → size_in K c r ≡ true → a < c → not (fixed_in K c r a b) ≡ in_run (run_in K c r b) a
unfolding fixed_in run_in size_in
not-fixed Unknown c r b a s h = absurd (true≢false (sym s))
not-fixed StringFixed c r b a s h = ends c a h
not-fixed StringFixedFree c r b a s h = first c a h
not-fixed StringFree c r b a s h = neither c a h
not-fixed Bar c r b a s h = ends c a h
not-fixed MembraneRectangular c r b a s h = ring_in c r b a h
not-fixed MembraneRound c r b a s h = round_in c b (omega arith) a h
not-fixed Plate c r b a s h = ring_in c r b a h

run_by : (g : Grid) (b : ℕ) {t : Bool} → (in_table g && ltb b g.rows) ≡ t → run_of g b
    ≡ cond t (run_in (kind g) g.columns g.rows b) (run 0 0)
unfolding run_of
run_by g b e = ap (λ (t : Bool). cond t (run_in (kind g) g.columns g.rows b) (run 0 0)) e

pub run_is : (g : Grid) (b : ℕ) → in_table g ≡ true → b < g.rows → run_of g b ≡ run_in (kind g) g.columns g.rows b
run_is g b size h = run_by g b (and_yes size ∙ lt-ltb b g.rows h)

pub run_past : (g : Grid) (b : ℕ) → g.rows ≤ b → run_of g b ≡ run 0 0
run_past g b h = run_by g b (ap (λ (t : Bool). in_table g && t) (le-ltb b g.rows h) ∙ and-false (in_table g))

-- the round kind has the number 6 alone
not_six : (k : ℕ) → (k ≡ 6 → ⊥) → is_round (kind_of k) ≡ false
not_six = by_number (λ k K. (k ≡ 6 → ⊥) → is_round K ≡ false)
    (λ n. refl) (λ n. refl) (λ n. refl) (λ n. refl) (λ n. refl) (λ n. refl) (λ n. absurd (n refl)) (λ n. refl) (λ k p n. refl)

-- of a kind that is not round: of every grid with columns, and with the row
pub straight_is : (g : Grid) (b : ℕ) → 0 < g.columns → b < g.rows → (g.kind ≡ 6 → ⊥)
    → straight_run g b ≡ run_in (kind g) g.columns g.rows b
unfolding straight_run
straight_is g b some h n =
    ap (λ (t : Bool). cond t (run_in (kind g) g.columns g.rows b) (run 0 0))
    (and_yes (lt-ltb 0 g.columns some) ∙ and_yes (lt-ltb b g.rows h) ∙ ap not (not_six g.kind n))

-- and of a grid whose size the table has
pub straight_row : (g : Grid) (b : ℕ) → in_table g ≡ true → b < g.rows → is_round (kind g) ≡ false → straight_run g b ≡ run_of g b
unfolding kind_of
straight_row g b size h n =
    straight_is g b (omega (arith, (sized (kind g) g.columns g.rows size).columns_low)) h
    (λ e. true≢false (sym (ap (λ (k : ℕ). is_round (kind_of k)) e) ∙ n)) ∙ sym (run_is g b size h)

module _ (g : Grid) (b a : ℕ) (size : in_table g ≡ true) (hb : b < g.rows) (ha : a < g.columns) where
  in_run_lem : in_run (run_of g b) a ≡ not (fixed g (b * g.columns + a))
  in_run_lem =
      ap (λ (r : Run). in_run r a) (run_is g b size hb) ∙ sym (not-fixed (kind g) g.columns g.rows b a size ha) ∙
      sym (ap₂ (λ (x y : ℕ). not (fixed_in (kind g) g.columns g.rows x y)) (digits_mod b ha) (digits_div b ha))

  -- column a of row b is fixed where the row's run does not have it
  pub fixed-run : fixed g (b * g.columns + a) ≡ not (in_run (run_of g b) a)
  fixed-run = sym (ap not in_run_lem ∙ not-not (fixed g (b * g.columns + a)))

  -- it is a grid point
  pub in_grid : b * g.columns + a < points g
  in_grid = subst (λ (n : ℕ). b * g.columns + a < n) (mul_comm g.rows g.columns) (digits_lt hb ha)

  -- and moves where the run has it
  pub moving-run : moving g (b * g.columns + a) ≡ in_run (run_of g b) a
  unfolding moving
  moving-run = and_yes (lt-ltb (b * g.columns + a) (points g) in_grid) ∙ sym in_run_lem

-- any point, by the run of its row
pub moving-at : (g : Grid) (i : ℕ) → in_table g ≡ true → moving g i ≡ in_run (run_of g (i / g.columns)) (i % g.columns)
unfolding moving
moving-at g i size = go (ltb i (points g)) refl
  where
    some : 0 < g.columns
    some = omega (arith, (sized (kind g) g.columns g.rows size).columns_low)

    go : (t : Bool) → ltb i (points g) ≡ t → moving g i ≡ in_run (run_of g (i / g.columns)) (i % g.columns)
    go true e =
        ap (moving g) (sym (div-add-mod' i g.columns)) ∙
        moving-run g (i / g.columns) (i % g.columns) size
        ((div-lt_iff_lt-mul some).1 (subst (λ (n : ℕ). i < n) (mul_comm g.columns g.rows) (ltb-true i (points g) e)))
        (mod-lt i some)
    go false e =
        and_no _ e ∙
        sym (ap (λ (r : Run). in_run r (i % g.columns))
        (run_past g (i / g.columns) ((le-div_iff_mul-le some).1
        (subst (λ (n : ℕ). n ≤ i) (mul_comm g.columns g.rows) (ltb-false i (points g) e)))) ∙
        none_in (i % g.columns))

-- ---- a run lies in its row

run_ring : (c r b : ℕ) → Sized c r → RunIn c (inner_run c r b)
unfolding inner_run
run_ring c r b s = run-cond c (at_edge r b) (run 0 0) (run 1 (c - 1)) (λ e. run_none c) (run-inner c s.columns_low)

run_in_lem : (K : Kind) (c r b : ℕ) → Sized c r → RunIn c (run_in K c r b)
unfolding run_in
run_in_lem Unknown c r b s = run_none c
run_in_lem StringFixed c r b s = run-inner c s.columns_low
run_in_lem StringFixedFree c r b s = record { rising = omega (arith, s.columns_low); inside = omega arith }
run_in_lem StringFree c r b s = record { rising = zero-le; inside = omega arith }
run_in_lem Bar c r b s = run-inner c s.columns_low
run_in_lem MembraneRectangular c r b s = run_ring c r b s
run_in_lem MembraneRound c r b s = round_bounds c b (omega (arith, s.columns_low))
run_in_lem Plate c r b s = run_ring c r b s

pub run_bounds : (g : Grid) (b : ℕ) → RunIn g.columns (run_of g b)
unfolding run_of
run_bounds g b = run-cond g.columns (in_table g && ltb b g.rows) (run_in (kind g) g.columns g.rows b) (run 0 0)
    (λ e. run_in_lem (kind g) g.columns g.rows b (sized (kind g) g.columns g.rows (and_both _ _ e).0)) (run_none g.columns)

-- ---- a round membrane apart from the others

pub not_round : (K : Kind) → (K ≡ MembraneRound → ⊥) → is_round K ≡ false
not_round Unknown n = refl
not_round StringFixed n = refl
not_round StringFixedFree n = refl
not_round StringFree n = refl
not_round Bar n = refl
not_round MembraneRectangular n = refl
not_round MembraneRound n = absurd (n refl)
not_round Plate n = refl

round_is : (K : Kind) (c r b : ℕ) → is_round K ≡ true → size_in K c r ≡ true → b < r
    → cond (on_square c 0 b) (round_run c b) (run 0 0) ≡ run_in K c r b
unfolding run_in
round_is Unknown c r b e size h = absurd (true≢false (sym e))
round_is StringFixed c r b e size h = absurd (true≢false (sym e))
round_is StringFixedFree c r b e size h = absurd (true≢false (sym e))
round_is StringFree c r b e size h = absurd (true≢false (sym e))
round_is Bar c r b e size h = absurd (true≢false (sym e))
round_is MembraneRectangular c r b e size h = absurd (true≢false (sym e))
round_is MembraneRound c r b e size h =
    let s = round_size c r size in
    ap (λ (t : Bool). cond t (round_run c b) (run 0 0)) (on_square_lem c 0 b s.0 (omega (arith, s.1)) (omega (arith, s.1)))
round_is Plate c r b e size h = absurd (true≢false (sym e))

pub row_is : (g : Grid) (b : ℕ) → in_table g ≡ true → b < g.rows → row_run g b ≡ run_of g b
row_is g b size h =
    cases (λ (t : Bool). cond t (cond (on_square g.columns 0 b) (round_run g.columns b) (run 0 0)) (straight_run g b) ≡ run_of g b)
    (is_round (kind g)) (λ e. round_is (kind g) g.columns g.rows b e size h ∙ sym (run_is g b size h)) (straight_row g b size h)
