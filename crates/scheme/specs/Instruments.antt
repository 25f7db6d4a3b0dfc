-- "The instrument and its numbers".
use Rattle.std.specs.Prelude.{Bool, true, false, not, ◌&&◌, ◌||◌, ℕ, ◌+◌, ◌*◌, ◌/◌, ◌%◌, leb, ltb, eqb, ℤ, pos, nat_abs, ◌+ℤ◌}
use Rattle.std.specs.Prelude.{◌-ℤ◌}
use Rattle.std.specs.Int.Signed.{le_z}
use Rattle.types.specs.declared.Grid.{Grid}
use Rattle.types.specs.declared.Kind.{Kind}
use Rattle.types.specs.declared.Kind.TheVariants.{Unknown, StringFixed, StringFixedFree, StringFree, Bar, MembraneRectangular}
use Rattle.types.specs.declared.Kind.TheVariants.{MembraneRound, Plate}
use Rattle.types.specs.Numbers.{D, ceiling, kind_of}
use Rattle.scheme.specs.Lists.{square}

-- "Settings are whole numbers over D = 65536", "The ceiling is 32767 × 2²⁸": `D` and `ceiling` of crate types

-- "every point lies within it on either side of zero": this one does not
abbrev pub beyond : ℤ → Bool
beyond z = ltb ceiling (nat_abs z)

-- the table's kinds: `Kind` of crate types, and `kind_of` the kind of each number
abbrev pub kind : Grid → Kind
kind g = kind_of g.kind

-- "N is columns × rows"
abbrev pub points : Grid → ℕ
points g = g.columns * g.rows

-- "point numbers count from 0, row by row"
abbrev pub column : Grid → ℕ → ℕ
column g i = i % g.columns

abbrev pub row : Grid → ℕ → ℕ
row g i = i / g.columns

-- a ≤ n ≤ b
abbrev pub within : ℕ → ℕ → ℕ → Bool
within a b n = leb a n && leb n b

-- "3..1024 × 1"
abbrev pub line_size : ℕ → ℕ → Bool
line_size c r = within 3 1024 c && eqb r 1

-- "3..64 × 3..64"
abbrev pub grid_size : ℕ → ℕ → Bool
grid_size c r = within 3 64 c && within 3 64 r

-- the table's last column, "columns × rows"; plates have "sizes as kind 5": c columns, r rows
unfoldable pub size_in : Kind → ℕ → ℕ → Bool
size_in Unknown c r = false
size_in StringFixed c r = line_size c r
size_in StringFixedFree c r = line_size c r
size_in StringFree c r = line_size c r
size_in Bar c r = line_size c r
size_in MembraneRectangular c r = grid_size c r
size_in MembraneRound c r = within 3 64 c && eqb r c
size_in Plate c r = grid_size c r

-- the table has these columns and rows for this kind
abbrev pub in_table : Grid → Bool
in_table g = size_in (kind g) g.columns g.rows

-- "Stable means: kinds 1 to 3, q ≤ 65536; kind 4, q + 4m ≤ 65536; kinds 5 and 6, 2q ≤ 65536. Only kind 4 may have m above 0."
-- Of a plate, "Stable is 2q + 16m ≤ 65536, and m may now be above 0 here too."
unfoldable pub stable_in : Kind → ℕ → ℕ → Bool
stable_in Unknown q m = false
stable_in StringFixed q m = leb q D && eqb m 0
stable_in StringFixedFree q m = leb q D && eqb m 0
stable_in StringFree q m = leb q D && eqb m 0
stable_in Bar q m = leb (q + 4 * m) D
stable_in MembraneRectangular q m = leb (2 * q) D && eqb m 0
stable_in MembraneRound q m = leb (2 * q) D && eqb m 0
stable_in Plate q m = leb (2 * q + 16 * m) D

-- the first or the last of n
abbrev pub at_edge : ℕ → ℕ → Bool
at_edge n a = eqb a 0 || eqb (a + 1) n

-- "the outer ring": column a and row b of c columns and r rows
abbrev pub outer_ring : ℕ → ℕ → ℕ → ℕ → Bool
outer_ring c r a b = at_edge c a || at_edge r b

-- 2a − G + 1
abbrev pub off_centre : ℕ → ℕ → ℤ
off_centre G a = pos (2 * a) -ℤ pos G +ℤ pos 1

-- "in kind 6 with G columns each point whose column a and row b satisfy (2a−G+1)² + (2b−G+1)² ≥ (G−1)²"
unfoldable pub round_edge : ℕ → ℕ → ℕ → Bool
round_edge G a b = le_z (square (pos G -ℤ pos 1)) (square (off_centre G a) +ℤ square (off_centre G b))

-- "Fixed points are the ends named above, the outer ring of kind 5, and in kind 6 ..": at column a and row b of c columns and r rows.
-- A plate has "the edge supported on all four sides, its outer ring fixed".
unfoldable pub fixed_in : Kind → ℕ → ℕ → ℕ → ℕ → Bool
fixed_in Unknown c r a b = true
fixed_in StringFixed c r a b = at_edge c a
fixed_in StringFixedFree c r a b = eqb a 0
fixed_in StringFree c r a b = false
fixed_in Bar c r a b = at_edge c a
fixed_in MembraneRectangular c r a b = outer_ring c r a b
fixed_in MembraneRound c r a b = round_edge c a b
fixed_in Plate c r a b = outer_ring c r a b

abbrev pub fixed : Grid → ℕ → Bool
fixed g i = fixed_in (kind g) g.columns g.rows (column g i) (row g i)

-- "The rest move": a grid point that is not fixed
unfoldable pub moving : Grid → ℕ → Bool
moving g i = ltb i (points g) && not (fixed g i)

-- the free ends that the table names: "last free", "both ends free"
unfoldable pub free_in : Kind → ℕ → ℕ → Bool
free_in Unknown c a = false
free_in StringFixed c a = false
free_in StringFixedFree c a = eqb (a + 1) c
free_in StringFree c a = at_edge c a
free_in Bar c a = false
free_in MembraneRectangular c a = false
free_in MembraneRound c a = false
free_in Plate c a = false

abbrev pub free_end : Grid → ℕ → Bool
free_end g i = free_in (kind g) g.columns (column g i)
