-- Which of the slices of a block has which level. Vocabulary between the engine's crates: no call that a maker embeds cites it.
use Rattle.std.specs.Prelude.{Bool, true, false, List, ℕ, zero, suc, ℤ}
use Rattle.turns.specs.declared.Turn.{Turn}
use Rattle.turns.specs.declared.Turn.TheVariants.{First, Second, Last, There, Exchanged}

-- After a step the newer level is older, and the next one newer. Of three levels the older one's place is free then;
-- of two the next one stands there.

-- whether the turn is one of two levels
abbrev pub of_two : Turn → Bool
of_two First = false
of_two Second = false
of_two Last = false
of_two There = true
of_two Exchanged = true

-- the turn after a step
abbrev pub next_turn : Turn → Turn
next_turn First = Second
next_turn Second = Last
next_turn Last = First
next_turn There = Exchanged
next_turn Exchanged = There

-- of the slices a, b and c, the one that holds the older level
abbrev pub older_of : Turn → (a b c : List ℤ) → List ℤ
older_of First a b c = a
older_of Second a b c = b
older_of Last a b c = c
older_of There a b c = a
older_of Exchanged a b c = b

-- that holds the newer level
abbrev pub newer_of : Turn → (a b c : List ℤ) → List ℤ
newer_of First a b c = b
newer_of Second a b c = c
newer_of Last a b c = a
newer_of There a b c = b
newer_of Exchanged a b c = a

-- that the next level is put into
abbrev pub out_of : Turn → (a b c : List ℤ) → List ℤ
out_of First a b c = c
out_of Second a b c = a
out_of Last a b c = b
out_of There a b c = a
out_of Exchanged a b c = b

-- the turn after n steps that began in the turn `first`
unfoldable pub turn_after : (first : Turn) (n : ℕ) → Turn
turn_after t zero = t
turn_after t (suc n) = next_turn (turn_after t n)

-- the turns of three levels, by the number of steps modulo 3
abbrev pub turn_of_three : ℕ → Turn
turn_of_three zero = First
turn_of_three (suc zero) = Second
turn_of_three (suc (suc k)) = Last

-- the turns of two levels, by the number of steps modulo 2
abbrev pub turn_of_two : ℕ → Turn
turn_of_two zero = There
turn_of_two (suc k) = Exchanged
