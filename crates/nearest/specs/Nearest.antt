-- "Each result times 65536 becomes the nearest whole number, halves up, read exactly from the float's bits."
use Rattle.std.specs.Prelude.{Bool, true, false, cond, Option, Some, None, ℕ, ◌*◌, leb, Float, ℤ, pos, negsuc, neg_ℤ, ◌+ℤ◌, ◌*ℤ◌}
use Rattle.std.specs.Float.{nan, inf, fin}
use Rattle.std.specs.Float.Ieee.{up, down}
use Rattle.std.specs.Int.Signed.{shr_z}
use Rattle.types.specs.Numbers.{D}

-- a size with a sign
abbrev pub signed : Bool → ℕ → ℤ
signed false n = pos n
signed true n = neg_ℤ (pos n)

-- z / d to "the nearest whole number, halves up": z / d + 1/2, rounded down
unfoldable pub halves_up : ℤ → ℕ → ℤ
halves_up z d = shr_z (pos 2 *ℤ z +ℤ pos d) (2 * d)

-- `Some n` is the coefficient n, `None` is refusal 4, "not in 0..65536 (not-a-number included)"
abbrev pub whole_in : ℤ → Option ℕ
whole_in (pos n) = cond (leb n D) (Some n) None
whole_in (negsuc n) = None

-- of k times a float, by its value: `fin s m e` is m × 2ᵉ with the sign s, and 2ᵉ is up e / down e
unfoldable pub nearest_times : ℕ → Float → Option ℕ
nearest_times k nan = None
nearest_times k (inf s) = None
nearest_times k (fin s m e) = whole_in (halves_up (signed s (m * up e * k)) (down e))

-- "times 65536"
abbrev pub nearest_whole : Float → Option ℕ
nearest_whole x = nearest_times D x
