-- What the answer's value keeps to.
use mathlib.Core.Bool.{Bool, true, false, cond}
use Prim.Native.Nat.{◌*◌, ◌≤◌, zero-le}
use lib.Dec.{T, leb, leb→le}
use lib.Ieee.{Float, nan, inf, fin, up, down}
use lib.IntN.{ℤ, pos, negsuc}
use Rattle.std.specs.Prelude.{Some, None, unwrap_or}
use Rattle.types.specs.Numbers.{D}
use Rattle.nearest.specs.Nearest.{signed, halves_up, whole_in, nearest_times, nearest_whole}

whole_bounded : (z : ℤ) → unwrap_or (whole_in z) 0 ≤ D
whole_bounded (negsuc n) = zero-le
whole_bounded (pos n) = go (leb n D) (leb→le n D)
  where
    go : (b : Bool) → (T b → n ≤ D) → unwrap_or (cond b (Some n) None) 0 ≤ D
    go true h = h tt
    go false h = zero-le

pub value_bounded : (x : Float) → unwrap_or (nearest_whole x) 0 ≤ D
unfolding nearest_times
value_bounded nan = zero-le
value_bounded (inf s) = zero-le
value_bounded (fin s m e) = whole_bounded (halves_up (signed s (m * up e * D)) (down e))
