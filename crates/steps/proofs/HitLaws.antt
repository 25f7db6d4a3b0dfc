-- The next values of moving points, by the force that a hit has on them.
use Rattle.std.proofs.Common.{Option, Some, None}
use mathlib.Core.Path.{◌≡◌, refl, sym, ap, ◌∙◌, subst}
use mathlib.Core.Bool.{Bool, true, false, not, ◌&&◌, true≢false}
use mathlib.Core.List.{List}
use Prim.Native.Nat.{ℕ, ◌+◌, ◌-◌, ◌≤◌, ◌<◌, zero-le}
use native.Mathlib.Omega.{arith}
use borrow.Author.Tests.{ltb-false, le-leb, lt-ltb}
use lib.Dec.{leb, ltb, eqb}
use lib.IntN.{ℤ, pos, nat_abs}
use lib.ListN.{length}
use Rattle.integers.proofs.Size.{cond_ind}
use Rattle.types.specs.declared.Grid.{Grid}
use Rattle.types.specs.declared.Instrument.{Instrument}
use Rattle.types.specs.declared.Hit.{Hit}
use Rattle.types.specs.Numbers.{ceiling}
use Rattle.scheme.specs.Lists.{point}
use Rattle.scheme.specs.Instruments.{points, moving}
use Rattle.scheme.specs.Step.{laplacian, biharmonic, numerator_of, numerator, round_away, force_of, divisor, is_multiple, inexact_at}
use Rattle.scheme.specs.Refusals.{too_strong}
use Rattle.scheme.proofs.Laws.Bools.{and_yes}
use Rattle.scheme.proofs.Laws.Step.{moving_inside, next-moving}
use Rattle.plans.specs.declared.Plan.{Plan}
use Rattle.stretches.specs.declared.Stretch.{Stretch}
use Rattle.stretches.specs.Stretches.{stretch_at, hit_in}
use Rattle.stretches.proofs.StretchLaws.{Ends, ends, force_away}
use Rattle.steps.specs.Plan.{Ready}
use Rattle.steps.specs.Run.{next_by, next_of, Ran, Advanced, Placed, Moves, all_within, inexact_of}
use Rattle.steps.proofs.FillLaws.{Running, running_on, running_most, running_stops, ran_same}

-- a force within the ceiling
pub force_low : (h : Option Hit) → too_strong h ≡ false → (k : ℕ) → nat_abs (force_of h k) ≤ ceiling
force_low None e k = zero-le
force_low (Some x) e k =
    cond_ind (eqb k x.point) x.force (pos 0) (λ (z : ℤ). nat_abs z ≤ ceiling) (λ t. ltb-false ceiling (nat_abs x.force) e) (λ t. zero-le)

-- what is ready for one force is ready for another
pub ready_force : {p : Plan} {f f' : ℤ} {older newer : List ℤ} → Ready p f older newer → nat_abs f' ≤ ceiling → Ready p f' older newer
ready_force r l = record {
  planned = r.planned;
  older_long = r.older_long;
  newer_long = r.newer_long;
  older_low = r.older_low;
  newer_low = r.newer_low;
  newer_still = r.newer_still;
  f_low = l;
}

pub forced : {p : Plan} {older newer : List ℤ} (f : ℤ) → Ready p (pos 0) older newer → nat_abs f ≤ ceiling → Ready p f older newer
forced f r l = ready_force r l

-- some of the moving points
pub some_move : {g : Grid} {from to a b : ℕ} → Moves g from to → from ≤ a → a ≤ b → b ≤ to → Moves g a b
some_move m l o h = record { order = o; each = λ k p q. m.each k (omega arith) (omega arith) }

-- they lie in the grid
pub run_inside : {g : Grid} {from to : ℕ} → Moves g from to → from < to → to ≤ points g
run_inside {g} {from} {to} m s =
    let last : to - 1 < points g = moving_inside g (to - 1) (m.each (to - 1) (omega arith) (omega arith)) in
    omega arith

-- what is made of a point with the hit's force is the scheme's
pub next-value : (i : Instrument) (h : Option Hit) (older newer : List ℤ) (f : ℤ) (k : ℕ) → moving i.grid k ≡ true → force_of h k ≡ f
    → next_by i f older newer k ≡ next_of i h older newer k
unfolding next_by numerator inexact_at
next-value i h older newer f k m e =
    let value = ap (λ (z : ℤ). round_away (num z) d) (sym e) ∙ sym (next-moving i h older newer k m) in
    let inexact = ap (λ (z : ℤ). not (is_multiple (num z) d)) (sym e) ∙ sym (and_yes m) in
    λ j. record { value = value j; inexact = inexact j }
  where
    num : ℤ → ℤ
    num z = numerator_of i.settings (point newer k) (laplacian i.grid (point newer) k) (biharmonic i.grid (point newer) k)
        (point older k) z

    d : ℕ
    d = divisor i.settings

-- where the hit is not, there is no force
pub no_force : (i : Instrument) (h : Option Hit) (older newer : List ℤ) (f : ℤ) {write : Bool} {base : ℕ} {out out' : List ℤ} {from to : ℕ}
    {r : Option ℕ}
    → Moves i.grid from to → hit_in h from to ≡ false → f ≡ pos 0 → Ran (next_by i f older newer) write base out out' from to r
    → Ran (next_of i h older newer) write base out out' from to r
unfolding hit_in
no_force i h older newer f {from = from} {to = to} m e z =
    ran_same m.order (λ k a b. next-value i h older newer f k (m.each k a b) (away h e k a b ∙ sym z))
  where
    away : (h : Option Hit) → hit_in h from to ≡ false → (k : ℕ) → from ≤ k → k < to → force_of h k ≡ pos 0
    away None e k a b = refl
    away (Some x) e k a b = force_away x.point x.force k (λ s. true≢false (sym (λ j. low s j && high s j) ∙ e))
      where
        low : k ≡ x.point → leb from x.point ≡ true
        low s = le-leb from x.point (omega arith)

        high : k ≡ x.point → ltb x.point to ≡ true
        high s = lt-ltb x.point to (omega arith)

-- ---- a loop over the stretches of a row

-- s is the next stretch, from `at` on, with the hit's force on each of its points; those before are done, n of them inexact
pub record Struck (p : Plan) (h : Option Hit) (older newer : List ℤ) (row : Stretch) (out₀ out : List ℤ) (at n : ℕ) (s : Stretch) : Type 0
  where
    pub moves : Moves p.instrument.grid row.from row.to
    pub inv : Running (next_of p.instrument h older newer) row.write row.base out₀ row.from row.to out at n
    pub more : at < row.to
    pub is : s ≡ stretch_at row h at

pub struck_here : (p : Plan) (row : Stretch) {h : Option Hit} {older newer out₀ out : List ℤ} {at n : ℕ} {s : Stretch}
    → Moves p.instrument.grid row.from row.to
    → Running (next_of p.instrument h older newer) row.write row.base out₀ row.from row.to out at n → at < row.to
    → s ≡ stretch_at row h at → Struck p h older newer row out₀ out at n s
struck_here p row moves inv more is = record { moves = moves; inv = inv; more = more; is = is }

module _ {p : Plan} {h : Option Hit} {older newer : List ℤ} {row : Stretch} {out₀ out : List ℤ} {at n : ℕ} {s : Stretch}
    (t : Struck p h older newer row out₀ out at n s) where
  -- where it ends, and the force on it
  pub struck-ends : Ends h at row.to s.to
  struck-ends = subst (Ends h at row.to) (sym (ap (λ (s : Stretch). s.to) t.is)) (ends t.more h)

  force_is : s.force ≡ force_of h at
  force_is = ap (λ (s : Stretch). s.force) t.is

  pub struck-from : s.from ≡ at
  struck-from = ap (λ (s : Stretch). s.from) t.is

  pub struck_ready : too_strong h ≡ false → Ready p (pos 0) older newer → Ready p s.force older newer
  struck_ready low r = ready_force r (subst (λ (z : ℤ). nat_abs z ≤ ceiling) (sym force_is) (force_low h low at))

  pub struck_placed : Placed row (length out₀) → Placed s (length out)
  struck_placed q = subst (λ (s : Stretch). Placed s (length out)) (sym t.is) (record {
    order = omega (arith, (ends t.more h).some);
    above = omega (arith, q.above, t.inv.order);
    room = omega (arith, q.room, (ends t.more h).upto, t.inv.ran.long);
  })

  moves_on : Moves p.instrument.grid at s.to
  moves_on = some_move t.moves t.inv.order (omega (arith, struck-ends.some)) struck-ends.upto

  pub struck_moves : Moves p.instrument.grid s.from s.to
  struck_moves = subst (λ (a : ℕ). Moves p.instrument.grid a s.to) (sym struck-from) moves_on

  pub struck_some : s.from < s.to
  struck_some = omega (arith, struck-ends.some, struck-from)

  -- its points as far as `end`: all of them, or the first
  module _ {end : ℕ} (some : at < end) (upto : end ≤ s.to) {out' : List ℤ} {r : Option ℕ}
      (q : Advanced p s older newer out out' at end r) where
    -- what is made of the points with that force is the scheme's
    as_next : Ran (next_of p.instrument h older newer) row.write row.base out out' at end r
    as_next =
        ran_same (omega arith)
        (λ k a b. next-value p.instrument h older newer s.force k (moves_on.each k a (omega arith))
        (struck-ends.one_force k a (omega arith) ∙ sym force_is))
        (subst (λ (x : Stretch). Ran (next_by p.instrument s.force older newer) x.write x.base out out' at end r) t.is q)

    pub struck_on : all_within r ≡ true
        → Running (next_of p.instrument h older newer) row.write row.base out₀ row.from row.to out' end (n + inexact_of r)
    struck_on e = running_on t.inv (omega arith) as_next e (omega (arith, struck-ends.upto))

    pub struck_most : all_within r ≡ true → n + inexact_of r ≤ end
    struck_most e = running_most t.inv (omega arith) as_next e

    pub struck_stops : all_within r ≡ false
        → Ran (next_of p.instrument h older newer) row.write row.base out₀ out' row.from row.to r
    struck_stops e = running_stops t.inv (omega arith) as_next (omega (arith, struck-ends.upto)) e
