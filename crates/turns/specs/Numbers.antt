-- The turns as numbers. Vocabulary between the engine's crates: no call that a maker embeds cites it.

-- Three levels have 0, 1 and 2, two have 3 and 4; each number from 4 on means what 4 does.
use Rattle.std.specs.Prelude.{List, ℕ, zero, suc, ℤ}
use Rattle.turns.specs.declared.Turn.{Turn}
use Rattle.turns.specs.declared.Turn.TheVariants.{First, Second, Last, There, Exchanged}

-- the turn that a number stands for
abbrev pub turn_of : ℕ → Turn
turn_of zero = First
turn_of (suc zero) = Second
turn_of (suc (suc zero)) = Last
turn_of (suc (suc (suc zero))) = There
turn_of (suc (suc (suc (suc k)))) = Exchanged

-- the turn after a step: 0, 1 or 2 of three levels, 3 or 4 of two
abbrev pub next_turn : ℕ → ℕ
next_turn zero = 1
next_turn (suc zero) = 2
next_turn (suc (suc zero)) = 0
next_turn (suc (suc (suc zero))) = 4
next_turn (suc (suc (suc (suc k)))) = 3

-- of the slices a, b and c, the one that holds the older level
abbrev pub older_of : ℕ → (a b c : List ℤ) → List ℤ
older_of zero a b c = a
older_of (suc zero) a b c = b
older_of (suc (suc zero)) a b c = c
older_of (suc (suc (suc zero))) a b c = a
older_of (suc (suc (suc (suc k)))) a b c = b

-- that holds the newer level
abbrev pub newer_of : ℕ → (a b c : List ℤ) → List ℤ
newer_of zero a b c = b
newer_of (suc zero) a b c = c
newer_of (suc (suc zero)) a b c = a
newer_of (suc (suc (suc zero))) a b c = b
newer_of (suc (suc (suc (suc k)))) a b c = a

-- that the next level is put into
abbrev pub out_of : ℕ → (a b c : List ℤ) → List ℤ
out_of zero a b c = c
out_of (suc zero) a b c = a
out_of (suc (suc zero)) a b c = b
out_of (suc (suc (suc zero))) a b c = a
out_of (suc (suc (suc (suc k)))) a b c = b

-- the turn after n steps that began in the turn `first`
unfoldable pub turn_after : (first n : ℕ) → ℕ
turn_after first zero = first
turn_after first (suc n) = next_turn (turn_after first n)
