-- The lowest of lists of checks, one after the other, and what has passed.
use mathlib.Core.Path.{◌≡◌, refl, sym, ap, ◌∙◌}
use mathlib.Core.Bool.{Bool, true, false, not, cond}
use mathlib.Core.List.{List, [], ◌∷◌, ◌++◌}
use Prim.Native.Nat.{ℕ}
use borrow.Author.Tests.{not-false}
use lib.Dec.{eqb}
use Rattle.std.specs.Prelude.{Result, Ok, Err}
use Rattle.types.specs.declared.Grid.{Grid}
use Rattle.types.specs.declared.Instrument.{Instrument}
use Rattle.types.specs.declared.Refusal.{Refusal}
use Rattle.scheme.specs.Instruments.{points, in_table}
use Rattle.scheme.specs.Refusals.{wrong_length, Check, ◌⇒◌, lowest, grid_checks, instrument_checks}
use Rattle.scheme.proofs.Laws.Refusals.{NoneApplies, none_applies}
use Rattle.instruments.specs.Refused.{not_long}

-- ---- one check before others, and two checks: the answer by what each test said

module _ (x : Refusal) (cs : List Check) (t : Bool) where
  pub refused_here : t ≡ true → Err x ≡ lowest (t ⇒ x ∷ cs)
  refused_here e = sym (ap (λ (b : Bool). lowest (b ⇒ x ∷ cs)) e)

  pub passed_here : {r : Result Unit Refusal} → t ≡ false → r ≡ lowest cs → r ≡ lowest (t ⇒ x ∷ cs)
  passed_here e f = f ∙ sym (ap (λ (b : Bool). lowest (b ⇒ x ∷ cs)) e)

module _ (x y : Refusal) (t u : Bool) where
  pub refused-first : t ≡ true → Err x ≡ lowest (t ⇒ x ∷ u ⇒ y ∷ [])
  refused-first = refused_here x (u ⇒ y ∷ []) t

  pub refused_second : t ≡ false → u ≡ true → Err y ≡ lowest (t ⇒ x ∷ u ⇒ y ∷ [])
  refused_second e f = passed_here x (u ⇒ y ∷ []) t e (refused_here y [] u f)

  pub refused_neither : t ≡ false → u ≡ false → Ok tt ≡ lowest (t ⇒ x ∷ u ⇒ y ∷ [])
  refused_neither e f = passed_here x (u ⇒ y ∷ []) t e (passed_here y [] u f refl)

-- ---- one list of checks after another

-- the first of two answers that refuses
abbrev pub first_of : Result Unit Refusal → Result Unit Refusal → Result Unit Refusal
first_of (Ok done) b = b
first_of (Err r) b = Err r

pub lowest-append : (cs ds : List Check) → lowest (cs ++ ds) ≡ first_of (lowest cs) (lowest ds)
lowest-append [] ds = refl
lowest-append ((true ⇒ r) ∷ cs) ds = refl
lowest-append ((false ⇒ r) ∷ cs) ds = lowest-append cs ds

-- where the first list refuses, and where it does not
pub refused_by : (cs ds : List Check) {q : Result Unit Refusal} {r : Refusal} → q ≡ lowest cs → q ≡ Err r → Err r ≡ lowest (cs ++ ds)
refused_by cs ds e f = sym (lowest-append cs ds ∙ ap (λ a. first_of a (lowest ds)) (sym e ∙ f))

pub goes_on : (cs ds : List Check) {q r : Result Unit Refusal} → q ≡ lowest cs → q ≡ Ok tt → r ≡ lowest ds → r ≡ lowest (cs ++ ds)
goes_on cs ds e f g = g ∙ sym (lowest-append cs ds ∙ ap (λ a. first_of a (lowest ds)) (sym e ∙ f))

pub ruleset in_turn = (refused_by, goes_on)

-- the second list where the first has passed
pub second_same : (cs ds es : List Check) → (NoneApplies cs → lowest ds ≡ lowest es) → lowest (cs ++ ds) ≡ lowest (cs ++ es)
second_same cs ds es same = lowest-append cs ds ∙ go (lowest cs) refl ∙ sym (lowest-append cs es)
  where
    go : (a : Result Unit Refusal) → lowest cs ≡ a → first_of (lowest cs) (lowest ds) ≡ first_of (lowest cs) (lowest es)
    go (Ok tt) e = ap (first_of (lowest cs)) (same (none_applies cs e))
    go (Err r) e = ap (λ a. first_of a (lowest ds)) e ∙ sym (ap (λ a. first_of a (lowest es)) e)

-- ---- what has passed

-- 1 and 2, with or without 4 and 5
pub grid_in : (last : ℕ) (g : Grid) → NoneApplies (grid_checks last g) → in_table g ≡ true
grid_in last g n = not-false _ n.1.0

pub instrument_in : (i : Instrument) → NoneApplies (instrument_checks i) → in_table i.grid ≡ true
instrument_in i n = not-false _ n.1.0

-- ---- a length as the code tests it

pub long_is : (g : Grid) (n : ℕ) → in_table g ≡ true → not_long g n ≡ wrong_length g n
long_is g n size = ap (λ (t : Bool). not (eqb n (cond t (points g) 0))) size
