-- What a reading that nothing refuses may rely on, and the value of one that is refused.
use mathlib.Core.Path.{◌≡◌, refl}
use mathlib.Core.List.{List}
use Prim.Native.Nat.{ℕ, ◌≤◌, ◌<◌}
use native.Mathlib.Omega.{arith}
use lib.Ieee.{binary64, of_int, of_bits, round}
use lib.IntN.{ℤ, nat_abs, pos}
use lib.ListN.{length}
use Rattle.std.specs.Prelude.{Ok}
use Rattle.types.specs.declared.Grid.{Grid}
use Rattle.types.specs.Numbers.{ceiling}
use Rattle.scheme.specs.Lists.{point}
use Rattle.scheme.specs.Refusals.{reading_refusal}
use Rattle.scheme.proofs.Laws.Refusals.{passes_low, reading_passes}

-- the pick-up is a place of the level
pub in_level : (g : Grid) (newer : List ℤ) (pick : ℕ) → reading_refusal g newer pick ≡ Ok tt → pick < length newer
in_level g newer pick e = let p = reading_passes g newer pick e in omega (arith, p.pick_in, p.newer_passes.long)

-- and the point there is not beyond the ceiling
pub low : (g : Grid) (newer : List ℤ) (pick : ℕ) → reading_refusal g newer pick ≡ Ok tt → nat_abs (point newer pick) ≤ ceiling
low g newer pick e = passes_low g newer (reading_passes g newer pick e).newer_passes pick

-- the 0.0 of the code is the definition's 0
pub zero : of_bits binary64 0 ≡ of_int binary64 (pos 0)
unfolding of_int of_bits round
zero = refl
