-- The magnitude of a whole number, nat_abs z, under the quotient of signed code, and as a signed width bounds it.
use mathlib.Core.Path.{◌≡◌, refl}
use Prim.Native.Nat.{suc, ◌/◌, ◌≤◌}
use native.Mathlib.Nat.{le_refl}
use native.Mathlib.Omega.{arith}
use lib.IntN.{ℤ, pos, negsuc, nat_abs}
use lib.Signed.{mag, quot_z}
use Rattle.integers.proofs.Size.{size-neg}

pub size_quot : (x y : ℤ) → nat_abs (quot_z x y) ≡ nat_abs x / nat_abs y
size_quot (pos a) (pos b) = refl
size_quot (pos a) (negsuc b) = size-neg (pos (a / suc b))
size_quot (negsuc a) (pos b) = size-neg (pos (suc a / b))
size_quot (negsuc a) (negsuc b) = refl

-- `mag`, by which a signed width bounds a number, is at most the magnitude
pub mag_size : (z : ℤ) → mag z ≤ nat_abs z
mag_size (pos n) = le_refl n
mag_size (negsuc n) = omega arith
