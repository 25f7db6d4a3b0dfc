-- Request 3: "A user whose sum stays 0 from the start may read the levels as the unrounded scheme itself, and that is to be proved."
-- Its proofs are in proofs/: `exact_since`, `exact_from_start`, `program_exact_since`, `program_exact_from_start`, `never_inexact`.
use Rattle.std.specs.Prelude.{◌≡◌, Bool, true, ◌&&◌, List, ℕ, ◌%◌, eqb, ℤ, pos, Option}
use Rattle.types.specs.declared.Settings.{Settings}
use Rattle.types.specs.declared.Instrument.{Instrument}
use Rattle.types.specs.declared.Hit.{Hit}
use Rattle.types.specs.Numbers.{D}
use Rattle.scheme.specs.Lists.{times}
use Rattle.scheme.specs.Step.{inexact_in}
use Rattle.scheme.specs.Book.{LastStep, no_step, step_of, scale, Call, Outcome, inexact_of, State, start, calls, EachCall}
use Rattle.scheme.specs.Program.{Made, AllKept, after_all, EachMade}

-- (D+s)ⁿ, s that of the book's last step; with no step yet n is 0
abbrev pub book_scale : LastStep → ℕ → ℤ
book_scale no_step n = pos 1
book_scale (step_of i) n = scale i.settings n

-- "the levels as the unrounded scheme itself": both levels times (D+s)ⁿ are the book's, point by point
pub record Unrounded (t : State) : Type 0 where
  pub older_is : times (book_scale t.book.last t.book.n) t.older ≡ t.book.older
  pub newer_is : times (book_scale t.book.last t.book.n) t.newer ≡ t.book.newer

-- a call that answered no inexact point
abbrev pub NoneInexact : State → Call → Outcome → Type 0
NoneInexact t k o = inexact_of o ≡ 0

-- any two starting levels, any list of calls, refused ones included: where the counts since the book last took its levels sum to 0
abbrev pub ExactSince : Type 0
ExactSince = (older newer : List ℤ) (ks : List Call) → let t = (calls ks (start older newer)).state in t.inexact ≡ 0 → Unrounded t

-- "A user whose sum stays 0 from the start": where every call of the list answered 0. Of every list, so after each of its calls too: what
-- the book takes at a change of settings is then the unrounded scheme's own.
abbrev pub ExactFromStart : Type 0
ExactFromStart = (older newer : List ℤ) (ks : List Call) → EachCall NoneInexact ks (start older newer)
    → Unrounded (calls ks (start older newer)).state

-- both of the levels that a program holds, by what its calls answered
abbrev pub ProgramExactSince : Type 0
ProgramExactSince = (older newer : List ℤ) (ms : List Made) → AllKept ms (start older newer) →
    let t = after_all ms (start older newer) in t.inexact ≡ 0 → Unrounded t

abbrev pub ProgramExactFromStart : Type 0
ProgramExactFromStart = (older newer : List ℤ) (ms : List Made) → AllKept ms (start older newer) →
    EachMade NoneInexact ms (start older newer) → Unrounded (after_all ms (start older newer))

-- R a whole number, 1 or 0, without stiffness and loss
abbrev pub never_rounded : Settings → Bool
never_rounded c = eqb (c.q % D) 0 && (eqb c.m 0 && eqb c.s 0)

-- with such settings no step has an inexact point
abbrev pub NeverInexact : Type 0
NeverInexact = (i : Instrument) (h : Option Hit) (older newer : List ℤ) → never_rounded i.settings ≡ true → inexact_in i h older newer ≡ 0
