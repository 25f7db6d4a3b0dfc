-- A stretch of a line in three parts: its first point, its inner points, its last point, as far as they are in it.
use Rattle.std.proofs.Common.{Option, Some}
use mathlib.Core.Path.{◌≡◌, refl, ◌∙◌, subst}
use mathlib.Core.Bool.{false}
use mathlib.Core.List.{List}
use Prim.Native.Nat.{ℕ, ◌+◌, ◌-◌, ◌≤◌, ◌<◌, zero-le}
use native.Mathlib.Nat as N
use native.Mathlib.Omega.{arith}
use lib.IntN.{ℤ}
use lib.ListN.{length}
use Rattle.types.specs.declared.Grid.{Grid}
use Rattle.types.specs.declared.Instrument.{Instrument}
use Rattle.types.specs.declared.Kind.TheVariants.{Bar}
use Rattle.scheme.specs.Instruments.{kind}
use Rattle.scheme.specs.Passing.{InstrumentPasses}
use Rattle.plans.specs.declared.Plan.{Plan}
use Rattle.stretches.specs.declared.Stretch.{Stretch}
use Rattle.stretches.specs.Stretches.{clamp, part_of}
use Rattle.stretches.proofs.StretchLaws.{clamped, clamp-before, clamp-after, clamp-low, clamp_high, clamp_rises}
use Rattle.steps.specs.Plan.{Ready}
use Rattle.steps.specs.Run.{Advanced, Moves, Placed, OnLine, FreeEnd, all_within}
use Rattle.steps.proofs.CountLaws.{counted_most}
use Rattle.steps.proofs.FillLaws.{ran_none, ran_append, ran_stops, ran_ends}
use Rattle.steps.proofs.KindLaws.{line_long, wide, bar_inner}
use Rattle.steps.proofs.BesideLaws.{within-line, first_free, last_free}

-- a part of a stretch finds its places as the stretch does
pub part_placed : {s : Stretch} {n : ℕ} (a e : ℕ) → a ≤ e → Placed s n → Placed (part_of s a e) n
part_placed {s} a e h p = record {
  order = clamp_rises s.from s.to p.order a e h;
  above = omega (arith, p.above, clamp-low s.from s.to p.order a);
  room = omega (arith, p.room, clamp_high s.from s.to p.order e);
}

module _ (s : Stretch) {p : Plan} {older newer : List ℤ} (r : Ready p s.force older newer) (line : p.instrument.grid.rows ≡ 1)
    (all : Moves p.instrument.grid s.from s.to) (some : s.from < s.to) where
  abbrev i : Instrument
  i = p.instrument

  abbrev g : Grid
  g = i.grid

  ok : InstrumentPasses i
  ok = r.planned.passes

  abbrev n : ℕ
  n = length newer

  order : s.from ≤ s.to
  order = omega (arith, some)

  n_is : n ≡ g.columns
  n_is = r.newer_long ∙ line_long g line

  pub three : 3 ≤ n
  three = omega (arith, wide g ok.size, n_is)

  within : s.to ≤ n
  within = omega (arith, within-line i ok line all some, n_is)

  -- ---- the ends

  pub first_part : FreeEnd i 1 (clamp s.from s.to 0) (clamp s.from s.to 1)
  first_part = first_free i ok line all some

  pub last_part : FreeEnd i (n - 2) (clamp s.from s.to (n - 1)) (clamp s.from s.to n)
  last_part = last_free i ok line all some n n_is

  -- ---- the inner points

  pub inner-line : OnLine g (clamp s.from s.to 1) (clamp s.from s.to (n - 1))
  inner-line = record {
    line = line;
    first = clamped s.from s.to order (λ k. 1 ≤ k) 1 (λ h. h) (λ h l. omega arith) (λ h. omega (arith, some));
    last =
        clamped s.from s.to order (λ k. k + 1 ≤ g.columns) (n - 1) (λ h. omega (arith, some, within, n_is))
        (λ h l. omega (arith, n_is, three))
        (λ h. omega (arith, n_is, three));
    each = λ k a b.
        all.each k (N.le_trans (clamp-low s.from s.to order 1) a)
        (N.lt_of_lt_of_le b (clamp_high s.from s.to order (n - 1)));
  }

  -- all moving points of a bar are inner ones
  pub bar-line : kind g ≡ Bar → OnLine g s.from s.to
  bar-line b = record {
    line = line;
    first = omega (arith, bar_inner g ok.size line s.from (all.each s.from (omega arith) some) b);
    last = omega (arith, some, bar_inner g ok.size line (s.to - 1) (all.each (s.to - 1) (omega (arith, some)) (omega (arith, some))) b);
    each = all.each;
  }

  -- ---- one part after the other

  begin : clamp s.from s.to 0 ≡ s.from
  begin = clamp-before s.from s.to order 0 zero-le

  end : clamp s.from s.to n ≡ s.to
  end = clamp-after s.from s.to order n within

  -- the parts in order
  before : s.from ≤ clamp s.from s.to 1
  before = clamp-low s.from s.to order 1

  inner : clamp s.from s.to 1 ≤ clamp s.from s.to (n - 1)
  inner = clamp_rises s.from s.to order 1 (n - 1) (omega (arith, three))

  to_inner : s.from ≤ clamp s.from s.to (n - 1)
  to_inner = clamp-low s.from s.to order (n - 1)

  to_last : clamp s.from s.to (n - 1) ≤ clamp s.from s.to n
  to_last = clamp_rises s.from s.to order (n - 1) n (omega arith)

  -- the ends, from the first point and to the last
  pub first-end : FreeEnd i 1 s.from (clamp s.from s.to 1)
  first-end = subst (λ (a : ℕ). FreeEnd i 1 a (clamp s.from s.to 1)) begin first_part

  pub last_end : FreeEnd i (n - 2) (clamp s.from s.to (n - 1)) s.to
  last_end = subst (FreeEnd i (n - 2) (clamp s.from s.to (n - 1))) end last_part

  module _ (placed : s.base ≤ s.from) {out₀ out₁ : List ℤ} where
    -- from the first point of the stretch
    from_first : {b : ℕ} {r : Option ℕ} → Advanced p s older newer out₀ out₁ (clamp s.from s.to 0) b r
        → Advanced p s older newer out₀ out₁ s.from b r
    from_first {b} {r} q = subst (λ (a : ℕ). Advanced p s older newer out₀ out₁ a b r) begin q

    pub first_stops : {r : Option ℕ} → Advanced p s older newer out₀ out₁ (clamp s.from s.to 0) (clamp s.from s.to 1) r
        → all_within r ≡ false → Advanced p s older newer out₀ out₁ s.from s.to r
    first_stops q e =
        ran_stops placed (omega arith) before (ran_none out₀ s.from) (clamp_high s.from s.to order 1) (from_first q) e

    module _ {m : ℕ} (first : Advanced p s older newer out₀ out₁ (clamp s.from s.to 0) (clamp s.from s.to 1) (Some m)) where
      pub inner_stops : {out₂ : List ℤ} {r : Option ℕ}
          → Advanced p s older newer out₁ out₂ (clamp s.from s.to 1) (clamp s.from s.to (n - 1)) r → all_within r ≡ false
          → Advanced p s older newer out₀ out₂ s.from s.to r
      inner_stops q e = ran_stops placed before inner (from_first first) (clamp_high s.from s.to order (n - 1)) q e

      module _ {out₂ : List ℤ} {k : ℕ}
          (q : Advanced p s older newer out₁ out₂ (clamp s.from s.to 1) (clamp s.from s.to (n - 1)) (Some k)) where
        two : Advanced p s older newer out₀ out₂ s.from (clamp s.from s.to (n - 1)) (Some (m + k))
        two = ran_append placed before inner (from_first first) q

        pub last_stops : {out₃ : List ℤ} {r : Option ℕ}
            → Advanced p s older newer out₂ out₃ (clamp s.from s.to (n - 1)) (clamp s.from s.to n) r → all_within r ≡ false
            → Advanced p s older newer out₀ out₃ s.from s.to r
        last_stops t e = ran_stops placed to_inner to_last two (clamp_high s.from s.to order n) t e

        module _ {out₃ : List ℤ} {j : ℕ}
            (t : Advanced p s older newer out₂ out₃ (clamp s.from s.to (n - 1)) (clamp s.from s.to n) (Some j)) where
          pub all_parts : Advanced p s older newer out₀ out₃ s.from s.to (Some (m + k + j))
          all_parts = ran_ends end (ran_append placed to_inner to_last two t)

          -- no more points are inexact than there are
          pub all_most : m + k + j ≤ n
          all_most = omega (arith, counted_most (all_parts.counted refl), within)
