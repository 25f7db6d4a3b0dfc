-- The shape that a pluck gives to a line, and what it leaves. Vocabulary of private functions.
use Rattle.std.specs.Prelude.{◌≡◌, Bool, ◌&&◌, cond, List, ℕ, ◌+◌, ◌-◌, ◌*◌, ◌/◌, ◌≤◌, ◌<◌, leb, ltb, ℤ, pos, length, set}
use Rattle.scheme.specs.Lists.{point}
use Rattle.scheme.specs.Pluck.{distance_from, pluck_value}
use Rattle.kinds.specs.Runs.{in_run}
use Rattle.pluck.specs.declared.shape.Shape.{Shape}

-- "A moving point at distance d ≤ w gets ..; the others get 0": on a line, whose moving points are one run (`shape_is`)
unfoldable pub shape_at : Shape → ℕ → ℤ
shape_at s i =
    let d = distance_from s.centre i in
    cond (in_run s.run i && leb d s.width) (pluck_value s.table.entries.now s.width s.height d) (pos 0)

-- 1024/w in parts of 2³², rounded up: w − d of them give the place in the table (`place_is`)
abbrev pub step_of : ℕ → ℕ
step_of w = 1024 * (4294967296 / w + 1)

-- v at point i, where the test says so
unfoldable pub put_at : Bool → ℕ → ℤ → List ℤ → List ℤ
put_at t i v xs = cond t (set xs i v) xs

-- v at the two points at distance d from the centre, where they move
abbrev pub put_left : Shape → ℕ → ℤ → List ℤ → List ℤ
put_left s d v xs = put_at (leb d (s.centre - s.run.from)) (s.centre - d) v xs

abbrev pub put_right : Shape → ℕ → ℤ → List ℤ → List ℤ
put_right s d v xs = put_at (ltb d (s.run.to - s.centre)) (s.centre + d) v xs

abbrev pub put_both : Shape → ℕ → ℤ → List ℤ → List ℤ
put_both s d v xs = put_right s d v (put_left s d v xs)

-- of n points those nearer than k to the centre c are f's, the others 0
pub record Raised (n c : ℕ) (f : ℕ → ℤ) (xs : List ℤ) (k : ℕ) : Type 0 where
  pub long : length xs ≡ n
  pub near : (i : ℕ) → i < n → distance_from c i < k → point xs i ≡ f i
  pub far : (i : ℕ) → k ≤ distance_from c i → point xs i ≡ pos 0
