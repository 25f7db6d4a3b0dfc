-- Which slice has which level after a step, and the turn after some steps.
use mathlib.Core.Path.{◌≡◌, refl, ap, ◌∙◌}
use mathlib.Core.Bool.{Bool, true, false}
use mathlib.Core.List.{List}
use Prim.Native.Nat.{ℕ, zero, suc, ◌%◌}
use native.Mathlib.Omega.{arith}
use lib.Dec.{eqb}
use lib.IntN.{ℤ}
use Rattle.turns.specs.declared.Turn.{Turn}
use Rattle.turns.specs.declared.Turn.TheVariants.{First, Second, Last, There, Exchanged}
use Rattle.turns.specs.Turns.{of_two, next_turn, turn_after, turn_of_three, turn_of_two, older_of, newer_of, out_of}

-- ---- after a step the newer level is older, and the next level newer

pub turned_older : (t : Turn) (a b c : List ℤ) → older_of (next_turn t) a b c ≡ newer_of t a b c
turned_older First a b c = refl
turned_older Second a b c = refl
turned_older Last a b c = refl
turned_older There a b c = refl
turned_older Exchanged a b c = refl

pub turned_newer : (t : Turn) (a b c : List ℤ) → newer_of (next_turn t) a b c ≡ out_of t a b c
turned_newer First a b c = refl
turned_newer Second a b c = refl
turned_newer Last a b c = refl
turned_newer There a b c = refl
turned_newer Exchanged a b c = refl

-- room for the level after it: of three levels older's, of two newer's
pub turned_room : (P : List ℤ → Type 0) (t : Turn) (a b c : List ℤ) → (of_two t ≡ false → P (older_of t a b c)) → P (newer_of t a b c)
    → P (out_of (next_turn t) a b c)
turned_room P First a b c x y = x refl
turned_room P Second a b c x y = x refl
turned_room P Last a b c x y = x refl
turned_room P There a b c x y = y
turned_room P Exchanged a b c x y = y

-- ---- of two levels the third slice holds none

pub two_older : (t : Turn) (a b c d : List ℤ) → of_two t ≡ true → older_of t a b c ≡ older_of t a b d
two_older First a b c d e = cc
two_older Second a b c d e = cc
two_older Last a b c d e = cc
two_older There a b c d e = refl
two_older Exchanged a b c d e = refl

pub two_newer : (t : Turn) (a b c d : List ℤ) → of_two t ≡ true → newer_of t a b c ≡ newer_of t a b d
two_newer First a b c d e = cc
two_newer Second a b c d e = cc
two_newer Last a b c d e = cc
two_newer There a b c d e = refl
two_newer Exchanged a b c d e = refl

-- ---- the turn after n steps

-- as many levels as before
two_next : (t : Turn) → of_two (next_turn t) ≡ of_two t
two_next First = refl
two_next Second = refl
two_next Last = refl
two_next There = refl
two_next Exchanged = refl

pub two_after : (first : Turn) (n : ℕ) → of_two (turn_after first n) ≡ of_two first
unfolding turn_after
two_after t zero = refl
two_after t (suc n) = two_next (turn_after t n) ∙ two_after t n

pub turn_start : (first : Turn) → first ≡ turn_after first 0
unfolding turn_after
turn_start t = refl

pub turn_next : (first : Turn) (n m : ℕ) → suc n ≡ m → next_turn (turn_after first n) ≡ turn_after first m
unfolding turn_after
turn_next t n m e = ap (turn_after t) e

-- of three levels it goes by the number of steps modulo 3
pub turn_three : (n : ℕ) → turn_after First n ≡ turn_of_three (n % 3)
unfolding turn_after
turn_three zero = refl
turn_three (suc n) = ap next_turn (turn_three n) ∙ go (n % 3) (suc n % 3) refl refl
  where
    go : (m k : ℕ) → m ≡ n % 3 → k ≡ suc n % 3 → next_turn (turn_of_three m) ≡ turn_of_three k
    go zero k e f = let h : 1 ≡ k = omega (arith, e, f) in ap turn_of_three h
    go (suc zero) k e f = let h : 2 ≡ k = omega (arith, e, f) in ap turn_of_three h
    go (suc (suc zero)) k e f = let h : 0 ≡ k = omega (arith, e, f) in ap turn_of_three h
    go (suc (suc (suc j))) k e f = absurd (omega (arith, e))

-- of two levels each stands in the other's slice after an odd number of steps
pub turn_two : (n : ℕ) → turn_after There n ≡ turn_of_two (n % 2)
unfolding turn_after
turn_two zero = refl
turn_two (suc n) = ap next_turn (turn_two n) ∙ go (n % 2) (suc n % 2) refl refl
  where
    go : (m k : ℕ) → m ≡ n % 2 → k ≡ suc n % 2 → next_turn (turn_of_two m) ≡ turn_of_two k
    go zero k e f = let h : 1 ≡ k = omega (arith, e, f) in ap turn_of_two h
    go (suc zero) k e f = let h : 0 ≡ k = omega (arith, e, f) in ap turn_of_two h
    go (suc (suc j)) k e f = absurd (omega (arith, e))

-- each of two levels stands in the other's slice
abbrev pub exchanged : Turn → Bool
exchanged First = false
exchanged Second = false
exchanged Last = false
exchanged There = false
exchanged Exchanged = true

pub turn_exchanged : (n : ℕ) → exchanged (turn_after There n) ≡ eqb (n % 2) 1
turn_exchanged n = ap exchanged (turn_two n) ∙ go (n % 2) refl
  where
    go : (m : ℕ) → m ≡ n % 2 → exchanged (turn_of_two m) ≡ eqb m 1
    go zero e = refl
    go (suc zero) e = refl
    go (suc (suc j)) e = absurd (omega (arith, e))
