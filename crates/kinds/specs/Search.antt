-- A search from 0 upward. Vocabulary of private functions.
use Rattle.std.specs.Prelude.{◌≡◌, Bool, true, cond, ℕ, zero, suc, ◌≤◌, ◌<◌}

-- how many of 0, 1, .., n − 1 pass the test before the first that does not
unfoldable pub leading : ℕ → (ℕ → Bool) → ℕ
leading zero p = 0
leading (suc n) p = cond (p 0) (suc (leading n (λ i. p (suc i)))) 0

-- the first k of them pass: a search so far
pub record Passed (n : ℕ) (p : ℕ → Bool) (k : ℕ) : Type 0 where
  pub reached : k ≤ n
  pub each : (i : ℕ) → i < k → p i ≡ true
