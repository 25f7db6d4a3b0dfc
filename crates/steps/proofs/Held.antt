-- A small number that the machine stored is read back.
use mathlib.Core.Path.{◌≡◌}
use Prim.Native.Nat.{ℕ, ◌^◌, ◌≤◌}
use lib.Dec.{T, ltb}
use lib.IntN.{ℤ, nat_abs}
use mir.Syntax.{w64}
use mir.Val.{to_z, of_z}
use Rattle.bounded.proofs.Num.{given}
use Rattle.types.specs.Numbers.{ceiling}

-- within a bound
pub held_below : (B : ℕ) → T (ltb B (2 ^ 63)) → {z : ℤ} → nat_abs z ≤ B → to_z w64 (of_z w64 z) ≡ z
held_below B t h = (given h t).is

-- within the ceiling
pub held : {z : ℤ} → nat_abs z ≤ ceiling → to_z w64 (of_z w64 z) ≡ z
held h = held_below ceiling tt h
