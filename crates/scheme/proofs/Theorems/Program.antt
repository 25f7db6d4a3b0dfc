-- A program whose calls keep their promises is a run of the definitions, so what holds of every list of calls holds of it.
use mathlib.Core.Path.{◌≡◌, refl, sym, ap, ◌∙◌, subst}
use mathlib.Core.List.{List, [], ◌∷◌}
use lib.IntN.{ℤ}
use Rattle.scheme.specs.Book.{Call, Outcome, Left, State, start, state_after, AfterCalls, calls, EachCall}
use Rattle.scheme.specs.Claims.{Near}
use Rattle.scheme.specs.Program.{Made, AllKept, after_all, calls_of, after_made, EachMade, ProgramBound}
use Rattle.scheme.proofs.Theorems.Distance.{distance-bound}

-- the levels that the program holds, and what its calls answered and left, are the definitions'
pub program_run : (ms : List Made) (t : State) → AllKept ms t → calls (calls_of ms) t ≡ after_made ms t
unfolding AllKept after_all calls
program_run [] t k = refl
program_run (m ∷ ms) t k =
    ap (λ (l : Left). let rest : AfterCalls = calls (calls_of ms) (state_after m.call l t) in
    record { left = l ∷ rest.left; state = rest.state }) (sym k.0) ∙
    ap (λ (rest : AfterCalls). record { left = m.left ∷ rest.left; state = rest.state })
    (program_run ms (state_after m.call m.left t) k.1)

-- a claim about each call of the list is one about each call of the program
pub each_made : (P : State → Call → Outcome → Type 0) (ms : List Made) (t : State) → AllKept ms t → EachCall P (calls_of ms) t
    → EachMade P ms t
unfolding AllKept EachCall EachMade
each_made P [] t k e = tt
each_made P (m ∷ ms) t k e =
    let on = subst (λ (l : Left). P t m.call l.outcome × EachCall P (calls_of ms) (state_after m.call l t)) (sym k.0) e in
    (on.0, each_made P ms (state_after m.call m.left t) k.1 on.1)

-- what holds of every list of calls holds of every program
pub of_program : (P : State → Type 0) → ((older newer : List ℤ) (ks : List Call) → P (calls ks (start older newer)).state)
    → (older newer : List ℤ) (ms : List Made) → AllKept ms (start older newer) → P (after_all ms (start older newer))
of_program P of-list older newer ms kept =
    subst (λ (r : AfterCalls). P r.state) (program_run ms (start older newer) kept) (of-list older newer (calls_of ms))

pub program_bound : ProgramBound
program_bound = of_program (λ t. Near t.newer t.book.n t.book.newer t.book.last) distance-bound
