-- Lengths as the code tests them.
use mathlib.Core.Path.{◌≡◌, ap, ap₂}
use mathlib.Core.Bool.{Bool, true, ◌||◌}
use mathlib.Core.List.{List, ◌++◌}
use Prim.Native.Nat.{ℕ}
use lib.IntN.{ℤ}
use Rattle.types.specs.declared.Grid.{Grid}
use Rattle.types.specs.Numbers.{hit_at}
use Rattle.scheme.specs.Instruments.{in_table}
use Rattle.scheme.specs.Refusals.{wrong_length, Check, lowest, grid_checks, length_checks, hit_checks, width_checks, last_plucked}
use Rattle.scheme.specs.Refusals.{pluck_checks, pluck_refusal}
use Rattle.instruments.specs.Refused.{not_long}
use Rattle.instruments.proofs.RefusalLaws.{second_same, grid_in, long_is}

-- a pluck's checks by another test of the lengths, which is the same where the table has the size
pub pluck_same : (g : Grid) (wrong wrong' : Bool) (c w : ℕ) (a : ℤ) → (in_table g ≡ true → wrong ≡ wrong')
    → lowest (pluck_checks g wrong c w a) ≡ lowest (pluck_checks g wrong' c w a)
pluck_same g wrong wrong' c w a same =
    let after : Bool → List Check = λ x. length_checks x ++ (hit_checks g (hit_at c a) ++ width_checks g w) in
    second_same (grid_checks last_plucked g) (after wrong) (after wrong')
    (λ n. ap (λ (x : Bool). lowest (after x)) (same (grid_in last_plucked g n)))

-- what refuses a pluck, by the lengths as the code tests them
pub refusal_is : (g : Grid) (older newer c w : ℕ) (a : ℤ)
    → lowest (pluck_checks g (not_long g older || not_long g newer) c w a) ≡ pluck_refusal g older newer c w a
unfolding pluck_refusal
refusal_is g older newer c w a =
    pluck_same g (not_long g older || not_long g newer) (wrong_length g older || wrong_length g newer) c w a
    (λ size. ap₂ ◌||◌ (long_is g older size) (long_is g newer size))
