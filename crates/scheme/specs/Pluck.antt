-- "A pluck": what its rule puts into both levels.
use Rattle.std.specs.Prelude.{◌&&◌, cond, List, ℕ, ◌-◌, ◌*◌, ◌/◌, leb, ℤ, pos, nat_abs, ◌-ℤ◌, ◌*ℤ◌, get_or}
use Rattle.std.specs.Int.Signed.{quot_z}
use Rattle.types.specs.declared.Grid.{Grid}
use Rattle.scheme.specs.Lists.{tabulate}
use Rattle.scheme.specs.Instruments.{points, moving}

-- the distance of point i from the centre c
abbrev pub distance_from : ℕ → ℕ → ℕ
distance_from c i = nat_abs (pos i -ℤ pos c)

-- "a times entry i of the table T, divided by 65536 and cut toward zero,
-- with i = 1024(w−d)/w rounded down": half width w, height a, distance d
abbrev pub pluck_value : (table : List ℕ) → ℕ → ℤ → ℕ → ℤ
pluck_value table w a d = quot_z (a *ℤ pos (get_or table (1024 * (w - d) / w) 0)) (pos 65536)

-- "A moving point at distance d ≤ w gets ..; the others get 0": centre c
unfoldable pub pluck_at : (table : List ℕ) → Grid → ℕ → ℕ → ℤ → ℕ → ℤ
pluck_at table g c w a i = cond (moving g i && leb (distance_from c i) w) (pluck_value table w a (distance_from c i)) (pos 0)

unfoldable pub pluck_level : (table : List ℕ) → Grid → ℕ → ℕ → ℤ → List ℤ
pluck_level table g c w a = tabulate (points g) (pluck_at table g c w a)
