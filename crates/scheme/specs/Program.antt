-- Demand 3 of a program, known by its calls of `block`, `block_in_place`, `pluck` and `pluck_with`: their arguments, their answers and what
-- they left.
use Rattle.std.specs.Prelude.{◌≡◌, List, [], ◌∷◌, map, ℤ}
use Rattle.scheme.specs.Book.{Call, Outcome, Left, leaves, State, start, state_after, AfterCalls}
use Rattle.scheme.specs.Claims.{Near}

-- a call that was made: its arguments but the two levels, and all that it left
pub record Made : Type 0 where
  pub call : Call
  pub left : Left

-- its promise, with the two levels that were lent: the `ensures` of `block`, `block_in_place`, `pluck` and `pluck_with`
abbrev pub Kept : (older newer : List ℤ) → Made → Type 0
Kept older newer m = m.left ≡ leaves m.call older newer

-- "Each block or pluck in it gets both levels as the last one left them", and keeps its promise
unfoldable pub AllKept : List Made → State → Type 0
AllKept [] t = Unit {0}
AllKept (m ∷ ms) t = Kept t.older t.newer m × AllKept ms (state_after m.call m.left t)

-- the levels that the program holds, and the book fed with its calls
unfoldable pub after_all : List Made → State → State
after_all [] t = t
after_all (m ∷ ms) t = after_all ms (state_after m.call m.left t)

-- the arguments of its calls
abbrev pub calls_of : List Made → List Call
calls_of ms = map (λ (m : Made). m.call) ms

-- what each of them left, in order, and the state after the last
abbrev pub after_made : List Made → State → AfterCalls
after_made ms t = record { left = map (λ (m : Made). m.left) ms; state = after_all ms t }

-- a claim about each of its calls: about the state before it, its arguments and its outcome
unfoldable pub EachMade : (State → Call → Outcome → Type 0) → List Made → State → Type 0
EachMade P [] t = Unit {0}
EachMade P (m ∷ ms) t = P t m.call m.left.outcome × EachMade P ms (state_after m.call m.left t)

-- demand 3 of the levels that the program holds
abbrev pub ProgramBound : Type 0
ProgramBound = (older newer : List ℤ) (ms : List Made) → AllKept ms (start older newer) →
    let t = after_all ms (start older newer) in Near t.newer t.book.n t.book.newer t.book.last
