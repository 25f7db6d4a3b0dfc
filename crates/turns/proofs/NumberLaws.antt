-- The same of the turns as numbers, and that a number and the turn that it stands for say the same.
use mathlib.Core.Path.{◌≡◌, refl, ap, ◌∙◌}
use mathlib.Core.Bool.{true, false, not}
use mathlib.Core.List.{List}
use Prim.Native.Nat.{ℕ, zero, suc, ◌+◌, ◌%◌, ◌≤◌, ◌<◌}
use native.Mathlib.Omega.{arith}
use lib.Dec.{eqb}
use lib.IntN.{ℤ}
use Rattle.turns.specs.Numbers.{turn_of, next_turn, turn_after, older_of, newer_of, out_of}
use Rattle.turns.specs.Turns as turns

-- ---- a turn that is none of 0 to 3

pub later : (P : ℕ → Type 0) → ((k : ℕ) → P (suc (suc (suc (suc k))))) → (p : ℕ) → (p ≡ 0 → ⊥) → (p ≡ 1 → ⊥) → (p ≡ 2 → ⊥) → (p ≡ 3 → ⊥)
    → P p
later P f zero n₀ n₁ n₂ n₃ = absurd (n₀ refl)
later P f (suc zero) n₀ n₁ n₂ n₃ = absurd (n₁ refl)
later P f (suc (suc zero)) n₀ n₁ n₂ n₃ = absurd (n₂ refl)
later P f (suc (suc (suc zero))) n₀ n₁ n₂ n₃ = absurd (n₃ refl)
later P f (suc (suc (suc (suc k)))) n₀ n₁ n₂ n₃ = f k

-- ---- which slice holds which level

module _ (p : ℕ) (a b c : List ℤ) where
  pub record AtTurn (older newer out : List ℤ) : Type 0 where
    pub older_is : older_of p a b c ≡ older
    pub newer_is : newer_of p a b c ≡ newer
    pub out_is : out_of p a b c ≡ out

  -- a turn that is known
  pub turn_at : (q : ℕ) → p ≡ q → AtTurn (older_of q a b c) (newer_of q a b c) (out_of q a b c)
  turn_at q e = record {
    older_is = ap (λ (p : ℕ). older_of p a b c) e;
    newer_is = ap (λ (p : ℕ). newer_of p a b c) e;
    out_is = ap (λ (p : ℕ). out_of p a b c) e;
  }

  pub turn_4 : (p ≡ 0 → ⊥) → (p ≡ 1 → ⊥) → (p ≡ 2 → ⊥) → (p ≡ 3 → ⊥) → AtTurn b a b
  turn_4 n₀ n₁ n₂ n₃ = record {
    older_is = later (λ p. older_of p a b c ≡ b) (λ k. refl) p n₀ n₁ n₂ n₃;
    newer_is = later (λ p. newer_of p a b c ≡ a) (λ k. refl) p n₀ n₁ n₂ n₃;
    out_is = later (λ p. out_of p a b c ≡ b) (λ k. refl) p n₀ n₁ n₂ n₃;
  }

-- of three levels, the last turn
pub turn_2 : (p : ℕ) (a b c : List ℤ) → p < 3 → (p ≡ 0 → ⊥) → (p ≡ 1 → ⊥) → AtTurn p a b c c a b
turn_2 p a b c l n₀ n₁ = turn_at p a b c 2 (omega (arith, n₀, n₁))

-- ---- after a step the newer level is older, and the next level newer

pub turned_older : (p : ℕ) (a b c : List ℤ) → older_of (next_turn p) a b c ≡ newer_of p a b c
turned_older zero a b c = refl
turned_older (suc zero) a b c = refl
turned_older (suc (suc zero)) a b c = refl
turned_older (suc (suc (suc zero))) a b c = refl
turned_older (suc (suc (suc (suc k)))) a b c = refl

pub turned_newer : (p : ℕ) (a b c : List ℤ) → newer_of (next_turn p) a b c ≡ out_of p a b c
turned_newer zero a b c = refl
turned_newer (suc zero) a b c = refl
turned_newer (suc (suc zero)) a b c = refl
turned_newer (suc (suc (suc zero))) a b c = refl
turned_newer (suc (suc (suc (suc k)))) a b c = refl

-- room for the level after it: of three levels older's, of two newer's
pub turned_room : (P : List ℤ → Type 0) (p : ℕ) (a b c : List ℤ) → (p < 3 → P (older_of p a b c)) → P (newer_of p a b c)
    → P (out_of (next_turn p) a b c)
turned_room P zero a b c x y = x (omega arith)
turned_room P (suc zero) a b c x y = x (omega arith)
turned_room P (suc (suc zero)) a b c x y = x (omega arith)
turned_room P (suc (suc (suc zero))) a b c x y = y
turned_room P (suc (suc (suc (suc k)))) a b c x y = y

-- ---- the turn after n steps

-- as many levels as before
pub turn_two : (first n : ℕ) → 3 ≤ turn_after first n → 3 ≤ first
unfolding turn_after
turn_two first zero l = l
turn_two first (suc n) l = turn_two first n (from (turn_after first n) l)
  where
    from : (p : ℕ) → 3 ≤ next_turn p → 3 ≤ p
    from zero l = absurd (omega arith)
    from (suc zero) l = absurd (omega arith)
    from (suc (suc zero)) l = absurd (omega arith)
    from (suc (suc (suc k))) l = omega arith

pub turn_start : (first : ℕ) → first ≡ turn_after first 0
unfolding turn_after
turn_start first = refl

pub turn_next : (first n m : ℕ) → suc n ≡ m → next_turn (turn_after first n) ≡ turn_after first m
unfolding turn_after
turn_next first n m e = ap (turn_after first) e

-- of three levels it is the number of steps modulo 3
pub turn_three : (n : ℕ) → turn_after 0 n ≡ n % 3
unfolding turn_after
turn_three zero = refl
turn_three (suc n) = ap next_turn (turn_three n) ∙ go (n % 3) refl
  where
    go : (m : ℕ) → m ≡ n % 3 → next_turn m ≡ suc n % 3
    go zero e = omega (arith, e)
    go (suc zero) e = omega (arith, e)
    go (suc (suc zero)) e = omega (arith, e)
    go (suc (suc (suc k))) e = absurd (omega (arith, e))

-- of two levels each stands in the other's slice after an odd number of steps
turn_odd : (n : ℕ) → turn_after 3 n ≡ 3 + n % 2
unfolding turn_after
turn_odd zero = refl
turn_odd (suc n) = ap next_turn (turn_odd n) ∙ go (n % 2) refl
  where
    go : (m : ℕ) → m ≡ n % 2 → next_turn (3 + m) ≡ 3 + suc n % 2
    go zero e = omega (arith, e)
    go (suc zero) e = omega (arith, e)
    go (suc (suc k)) e = absurd (omega (arith, e))

pub turn_many : (n : ℕ) → 3 ≤ turn_after 3 n
turn_many n = omega (arith, turn_odd n)

pub turn_exchanged : (n : ℕ) → not (eqb (turn_after 3 n) 3) ≡ eqb (n % 2) 1
turn_exchanged n = ap (λ (p : ℕ). not (eqb p 3)) (turn_odd n) ∙ go (n % 2) refl
  where
    go : (m : ℕ) → m ≡ n % 2 → not (eqb (3 + m) 3) ≡ eqb m 1
    go zero e = refl
    go (suc zero) e = refl
    go (suc (suc k)) e = absurd (omega (arith, e))

-- ---- a number says what the turn that it stands for says

pub of_next : (p : ℕ) → turn_of (next_turn p) ≡ turns.next_turn (turn_of p)
of_next zero = refl
of_next (suc zero) = refl
of_next (suc (suc zero)) = refl
of_next (suc (suc (suc zero))) = refl
of_next (suc (suc (suc (suc k)))) = refl

pub of_three_levels : (p : ℕ) → p < 3 → turns.of_two (turn_of p) ≡ false
of_three_levels zero l = refl
of_three_levels (suc zero) l = refl
of_three_levels (suc (suc zero)) l = refl
of_three_levels (suc (suc (suc zero))) l = absurd (omega arith)
of_three_levels (suc (suc (suc (suc k)))) l = absurd (omega arith)

pub of_two_levels : (p : ℕ) → 3 ≤ p → turns.of_two (turn_of p) ≡ true
of_two_levels zero l = absurd (omega arith)
of_two_levels (suc zero) l = absurd (omega arith)
of_two_levels (suc (suc zero)) l = absurd (omega arith)
of_two_levels (suc (suc (suc zero))) l = refl
of_two_levels (suc (suc (suc (suc k)))) l = refl

pub of_older : (p : ℕ) (a b c : List ℤ) → older_of p a b c ≡ turns.older_of (turn_of p) a b c
of_older zero a b c = refl
of_older (suc zero) a b c = refl
of_older (suc (suc zero)) a b c = refl
of_older (suc (suc (suc zero))) a b c = refl
of_older (suc (suc (suc (suc k)))) a b c = refl

pub of_newer : (p : ℕ) (a b c : List ℤ) → newer_of p a b c ≡ turns.newer_of (turn_of p) a b c
of_newer zero a b c = refl
of_newer (suc zero) a b c = refl
of_newer (suc (suc zero)) a b c = refl
of_newer (suc (suc (suc zero))) a b c = refl
of_newer (suc (suc (suc (suc k)))) a b c = refl

pub of_out : (p : ℕ) (a b c : List ℤ) → out_of p a b c ≡ turns.out_of (turn_of p) a b c
of_out zero a b c = refl
of_out (suc zero) a b c = refl
of_out (suc (suc zero)) a b c = refl
of_out (suc (suc (suc zero))) a b c = refl
of_out (suc (suc (suc (suc k)))) a b c = refl

pub of_after : (first n : ℕ) → turn_of (turn_after first n) ≡ turns.turn_after (turn_of first) n
unfolding turn_after turns.turn_after
of_after first zero = refl
of_after first (suc n) = of_next (turn_after first n) ∙ ap turns.next_turn (of_after first n)
