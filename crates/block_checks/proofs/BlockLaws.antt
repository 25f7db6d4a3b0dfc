-- A block's checks by their parts.
use mathlib.Core.Path.{◌≡◌, refl, sym, ap, ap₂, ◌∙◌}
use mathlib.Core.Bool.{Bool, true, false, not, ◌||◌}
use mathlib.Core.List.{List, ◌++◌}
use Prim.Native.Nat.{ℕ}
use borrow.Author.Tests.{not-false}
use lib.Dec.{eqb}
use lib.IntN.{ℤ}
use lib.ListN.{length}
use Rattle.std.specs.Prelude.{Option, Result, Ok, Err}
use Rattle.types.specs.declared.Grid.{Grid}
use Rattle.types.specs.declared.Instrument.{Instrument}
use Rattle.types.specs.declared.Hit.{Hit}
use Rattle.types.specs.declared.Refusal.{Refusal}
use Rattle.scheme.specs.Instruments.{in_table}
use Rattle.scheme.specs.Step.{some_beyond}
use Rattle.scheme.specs.Refusals.{wrong_length, fixed_not_zero, Check, lowest, instrument_checks, length_checks, hit_checks, pick_checks}
use Rattle.scheme.specs.Refusals.{state_checks, input_checks, block_refusal}
use Rattle.scheme.proofs.Laws.Bools.{or_neither}
use Rattle.scheme.proofs.Laws.Refusals.{NoneApplies, none_applies, right-length}
use Rattle.levels.proofs.LevelLaws.{unfixed_is}
use Rattle.instruments.specs.Refused.{not_long}
use Rattle.instruments.proofs.RefusalLaws.{first_of, lowest-append, second_same, instrument_in, long_is}
use Rattle.block_checks.specs.State.{state_refusal}

-- a block's input by another test of the lengths, which is the same where the table has the size
input_same : (i : Instrument) (wrong wrong' : Bool) (pick : ℕ) (h : Option Hit) → (in_table i.grid ≡ true → wrong ≡ wrong')
    → lowest (input_checks i wrong pick h) ≡ lowest (input_checks i wrong' pick h)
input_same i wrong wrong' pick h same =
    let after : Bool → List Check = λ w. length_checks w ++ (hit_checks i.grid h ++ pick_checks i.grid pick) in
    second_same (instrument_checks i) (after wrong) (after wrong') (λ n. ap (λ (w : Bool). lowest (after w)) (same (instrument_in i n)))

-- what refuses a block: its input by the lengths as the code tests them, then the state of two levels of any length
module _ (i : Instrument) (older newer : List ℤ) (wrong : Bool) (pick : ℕ) (h : Option Hit) where
  abbrev lengths : Bool
  lengths = wrong_length i.grid (length older) || wrong_length i.grid (length newer) || wrong

  abbrev input : List Check
  input = input_checks i lengths pick h

  abbrev state : List Check
  state = state_checks (some_beyond older || some_beyond newer) (fixed_not_zero i.grid older || fixed_not_zero i.grid newer)

  -- the lengths as the code tests them
  abbrev tested : Bool
  tested = not_long i.grid (length older) || not_long i.grid (length newer) || wrong

  input_is : lowest (input_checks i tested pick h) ≡ lowest input
  input_is = input_same i tested lengths pick h
      (λ size. ap₂ (λ (x y : Bool). x || y || wrong) (long_is i.grid (length older) size) (long_is i.grid (length newer) size))

  -- where the input has passed, the state is the definition's
  state_is : NoneApplies input → lowest state ≡ state_refusal i.grid older newer
  unfolding state_refusal
  state_is none =
      let size : in_table i.grid ≡ true = not-false _ none.1.0 in
      let l = or_neither _ _ (or_neither _ _ none.1.1.1.1.0).0 in
      ap₂ (λ (x y : Bool). lowest (state_checks (some_beyond older || some_beyond newer) (x || y)))
      (sym (unfixed_is i.grid older size (right-length i.grid (length older) l.0)))
      (sym (unfixed_is i.grid newer size (right-length i.grid (length newer) l.1)))

  pub by_parts : block_refusal i older newer wrong pick h
      ≡ first_of (lowest (input_checks i tested pick h)) (state_refusal i.grid older newer)
  unfolding block_refusal
  by_parts =
      lowest-append input state ∙ go (lowest input) refl ∙
      ap (λ (r : Result Unit Refusal). first_of r (state_refusal i.grid older newer)) (sym input_is)
    where
      go : (r : Result Unit Refusal) → lowest input ≡ r → first_of r (lowest state) ≡ first_of r (state_refusal i.grid older newer)
      go (Ok tt) e = state_is (none_applies input e)
      go (Err r) e = refl

-- a test that is the same where the one before it fails
or_same : (a b : Bool) {w w' : Bool} → (a ≡ false → w ≡ w') → (a || b || w) ≡ (a || b || w')
or_same true b same = refl
or_same false b same = ap (λ (w : Bool). b || w) (same refl)

-- a block's refusal by another test of what is lent beside the levels, which is the same where older has the grid's length
pub block_same : (i : Instrument) (older newer : List ℤ) (wrong wrong' : Bool) (pick : ℕ) (h : Option Hit)
    → (wrong_length i.grid (length older) ≡ false → wrong ≡ wrong')
    → block_refusal i older newer wrong pick h ≡ block_refusal i older newer wrong' pick h
unfolding block_refusal
block_same i older newer wrong wrong' pick h same =
    let g = i.grid in
    ap (λ (t : Bool). lowest (input_checks i t pick h
    ++ state_checks (some_beyond older || some_beyond newer) (fixed_not_zero g older || fixed_not_zero g newer)))
    (or_same (wrong_length g (length older)) (wrong_length g (length newer)) same)

-- a length is compared with another that the grid has
pub other_length : (g : Grid) (n m : ℕ) → wrong_length g n ≡ false → not (eqb m n) ≡ wrong_length g m
other_length g n m e = ap (λ (p : ℕ). not (eqb m p)) (right-length g n e)
