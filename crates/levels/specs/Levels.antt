-- Signs by bits, and points of a level that are not 0. Vocabulary between the engine's crates: no call that a maker embeds cites it.
use Rattle.std.specs.Prelude.{ℕ, ◌+◌, ◌*◌, ◌^◌, Bool, false, ◌&&◌, ◌||◌, List, length, ℤ, ◌==◌, nat_le, nat_lt}
use Rattle.std.specs.Prelude.{unsigned_abs, take, drop, slice_range}
use Rattle.types.specs.declared.Grid.{Grid}
use Rattle.scheme.specs.Lists.{point, some_below}
use Rattle.types.specs.declared.Kind.{Kind}
use Rattle.types.specs.declared.Kind.TheVariants.{Unknown, StringFixed, StringFixedFree, StringFree, Bar, MembraneRectangular}
use Rattle.types.specs.declared.Kind.TheVariants.{MembraneRound, Plate}
use Rattle.scheme.specs.Instruments.{points, in_table, round_edge, fixed}
use Rattle.scheme.specs.Refusals.{fixed_not_zero}
use Rattle.kinds.specs.declared.runs.Run.{Run}

-- bits with the sign bit
abbrev pub signed : ℕ → Bool
signed n = nat_le (2 ^ 63) n

-- point k is not 0
abbrev pub not_zero : List ℤ → ℕ → Bool
not_zero xs k = nat_lt 0 (unsigned_abs (point xs k))

-- some point is not 0
unfoldable pub some_not_zero : List ℤ → Bool
some_not_zero xs = some_below (length xs) (not_zero xs)

-- some point of a row is not 0, before its run or after it
abbrev pub row_not_zero : List ℤ → Run → Bool
row_not_zero ys r = some_not_zero (take r.from ys) || some_not_zero (drop r.to ys)

-- some fixed point of row b of a round membrane is not 0
abbrev pub round_not_zero : List ℤ → ℕ → Bool
round_not_zero ys b = some_below (length ys) (λ a. round_edge (length ys) a b && not_zero ys a)

-- some fixed point of row b is not 0
abbrev pub row_unfixed : Grid → List ℤ → ℕ → Bool
row_unfixed g ys b = some_below g.columns (λ a. fixed g (b * g.columns + a) && not_zero ys a)

-- row b of a level of c columns
abbrev pub row_of : ℕ → List ℤ → ℕ → List ℤ
row_of c xs b = slice_range xs (b * c) (b * c + c)

-- some fixed point of a line is not 0: "string, both ends fixed", "point 0 fixed, last free", "both ends free", "both ends supported"
abbrev pub ends_not_zero : Kind → List ℤ → ℕ → Bool
ends_not_zero StringFixed xs last = not_zero xs 0 || not_zero xs last
ends_not_zero StringFixedFree xs last = not_zero xs 0
ends_not_zero StringFree xs last = false
ends_not_zero Bar xs last = not_zero xs 0 || not_zero xs last
ends_not_zero Unknown xs last = false
ends_not_zero MembraneRectangular xs last = false
ends_not_zero MembraneRound xs last = false
ends_not_zero Plate xs last = false

-- 12 "A fixed point .. not 0", of a level that is as long as a grid whose size the table has
unfoldable pub unfixed : Grid → List ℤ → Bool
unfixed g xs = in_table g && (length xs == points g && fixed_not_zero g xs)
