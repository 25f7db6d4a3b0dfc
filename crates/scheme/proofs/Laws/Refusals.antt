-- What it says that no refusal applies.
use mathlib.Core.Path.{◌≡◌, refl, sym, ap, ◌∙◌, subst}
use mathlib.Core.Bool.{Bool, true, false, not, ◌&&◌, ◌||◌, true≢false}
use mathlib.Core.List.{List, [], ◌∷◌, ◌++◌}
use Prim.Native.Nat.{ℕ, ◌≤◌, ◌<◌}
use native.Mathlib.Omega.{arith}
use borrow.Author.Tests.{eqb-true, ltb-true, ltb-false, not-false}
use lib.Dec.{ltb}
use lib.IntN.{ℤ, pos, negsuc, nat_abs}
use lib.ListN.{length, get_or-eq_default}
use Rattle.forms.proofs.Level.{Still}
use Rattle.types.specs.declared.Settings.{Settings}
use Rattle.types.specs.declared.Grid.{Grid}
use Rattle.types.specs.declared.Instrument.{Instrument}
use Rattle.types.specs.declared.Hit.{Hit}
use Rattle.types.specs.declared.Refusal.{Refusal}
use Rattle.types.specs.declared.Refusal.TheVariants.{BrokenTable}
use Rattle.types.specs.Numbers.{D, ceiling, number_of}
use Rattle.pluck_table.specs.Loading.{loaded_table, loaded_number}
use Rattle.scheme.specs.Lists.{point}
use Rattle.scheme.specs.Instruments.{points, beyond, fixed, moving}
use Rattle.scheme.specs.Step.{some_beyond}
use Rattle.scheme.specs.Refusals.{wrong_coefficient, wrong_length, fixed_not_zero, Check, ◌⇒◌, lowest, instrument_checks, block_checks}
use Rattle.scheme.specs.Refusals.{pluck_checks, reading_checks, instrument_refusal, block_refusal, pluck_refusal, reading_refusal}
use Rattle.scheme.specs.Refusals.{NumberOfLoading, ChecksInOrder}
use Rattle.scheme.specs.Calls.{accepted}
use Rattle.scheme.specs.Claims.{LevelPasses}
use Rattle.scheme.specs.Passing.{InstrumentPasses, BlockPasses, PluckPasses, ReadingPasses}
use Rattle.scheme.proofs.Laws.Bools.{or_neither}
use Rattle.scheme.proofs.Laws.Lists.{none_at}
use Rattle.std.specs.Prelude.{Option, Some, None, Result, Ok, Err}

-- each call's checks stand in the order of all numbers: by computing
pub checks_in_order : ChecksInOrder
checks_in_order = record {
  block = λ i older newer wrong pick h. tt;
  pluck = λ g wrong c w a. tt;
  pluck_with = λ g wrong c w a lent. tt;
  reading = λ g newer pick. tt;
}

-- 14's check, by what loading answers
pub number_of_loading : NumberOfLoading
number_of_loading lent = go (loaded_table lent)
  where
    go : (l : Option ℕ) → number_of (lowest (ltb 0 (loaded_number l) ⇒ BrokenTable ∷ [])) ≡ loaded_number l
    go (Some last) = refl
    go None = refl

-- ---- a list of checks

-- each test of the list has failed
abbrev pub NoneApplies : List Check → Type 0
NoneApplies [] = Unit {0}
NoneApplies ((b ⇒ r) ∷ cs) = (b ≡ false) × NoneApplies cs

pub none_applies : (cs : List Check) → lowest cs ≡ Ok tt → NoneApplies cs
none_applies [] e = tt
none_applies ((true ⇒ r) ∷ cs) e = absurd (cc)
none_applies ((false ⇒ r) ∷ cs) e = (refl, none_applies cs e)

pub applies_none : (cs : List Check) → NoneApplies cs → lowest cs ≡ Ok tt
applies_none [] n = refl
applies_none ((true ⇒ r) ∷ cs) n = absurd (true≢false n.0)
applies_none ((false ⇒ r) ∷ cs) n = applies_none cs n.1

-- a last check that does not apply
pub last_passed : (cs : List Check) (t : Bool) (r : Refusal) → t ≡ false → lowest (cs ++ (t ⇒ r ∷ [])) ≡ lowest cs
last_passed [] t r e = ap (λ (b : Bool). lowest (b ⇒ r ∷ [])) e
last_passed ((true ⇒ x) ∷ cs) t r e = refl
last_passed ((false ⇒ x) ∷ cs) t r e = last_passed cs t r e

-- nothing refuses it
pub accepted_is : (r : Result Unit Refusal) → accepted r ≡ true → r ≡ Ok tt
accepted_is (Ok tt) e = refl
accepted_is (Err r) e = absurd (true≢false (sym e))

-- ---- what has passed

-- "Each is 0..65536."
pub coefficients_small : (c : Settings) → wrong_coefficient c ≡ false → (c.q ≤ D) × (c.m ≤ D) × (c.s ≤ D)
coefficients_small c e =
    let qm = or_neither (ltb D c.q || ltb D c.m) (ltb D c.s) e in
    let q = or_neither (ltb D c.q) (ltb D c.m) qm.0 in
    (ltb-false D c.q q.0, ltb-false D c.m q.1, ltb-false D c.s qm.1)

pub right-length : (g : Grid) (n : ℕ) → wrong_length g n ≡ false → n ≡ points g
right-length g n e = eqb-true n (points g) (not-false _ e)

-- a level that passes is 0 at every number where nothing moves
pub passes_still : (g : Grid) (xs : List ℤ) → LevelPasses g xs → Still (moving g) (point xs)
unfolding fixed_not_zero moving
passes_still g xs v = record { still = λ k e. go k (ltb k (points g)) refl e }
  where
    zero_of : (z : ℤ) → nat_abs z ≤ 0 → z ≡ pos 0
    zero_of (pos n) h = let e : n ≡ 0 = omega arith in ap pos e
    zero_of (negsuc n) h = absurd (omega arith)

    here : (k : ℕ) (f : Bool) → k < points g → fixed g k ≡ f → not f ≡ false → point xs k ≡ pos 0
    here k true p e t =
        let q = none_at (length xs) (λ k. fixed g k && ltb 0 (nat_abs (point xs k))) v.fixed_zero k (omega (arith, v.long)) in
        zero_of (point xs k) (ltb-false 0 (nat_abs (point xs k)) (ap (λ (f : Bool). f && ltb 0 (nat_abs (point xs k))) (sym e) ∙ q))
    here k false p e t = absurd (true≢false t)

    go : (k : ℕ) (t : Bool) → ltb k (points g) ≡ t → (t && not (fixed g k)) ≡ false → point xs k ≡ pos 0
    go k true e t = here k (fixed g k) (ltb-true k (points g) e) refl t
    go k false e t = get_or-eq_default xs (pos 0) (omega (arith, ltb-false k (points g) e, v.long))

-- and lies within the ceiling at every number
pub passes_low : (g : Grid) (xs : List ℤ) → LevelPasses g xs → (k : ℕ) → nat_abs (point xs k) ≤ ceiling
unfolding some_beyond
passes_low g xs v k = go (ltb k (length xs)) refl
  where
    go : (t : Bool) → ltb k (length xs) ≡ t → nat_abs (point xs k) ≤ ceiling
    go true e = ltb-false ceiling (nat_abs (point xs k))
        (none_at (length xs) (λ k. beyond (point xs k)) v.low k (ltb-true k (length xs) e))
    go false e = subst (λ (z : ℤ). nat_abs z ≤ ceiling) (sym (get_or-eq_default xs (pos 0) (ltb-false k (length xs) e))) (omega arith)

pub instrument_passes : (i : Instrument) → instrument_refusal i ≡ Ok tt → InstrumentPasses i
unfolding instrument_refusal
instrument_passes i e = let n = none_applies (instrument_checks i) e in
    record { size = not-false _ n.1.0; coefficients = n.1.1.0; stable = not-false _ n.1.1.1.0 }

pub block_passes : (i : Instrument) (older newer : List ℤ) (wrong : Bool) (pick : ℕ) (h : Option Hit) → block_refusal i older newer wrong pick h
    ≡ Ok tt
    → BlockPasses i older newer wrong pick h
unfolding block_refusal instrument_refusal
block_passes i older newer wrong pick h e =
    let g = i.grid in
    let n = none_applies (block_checks i older newer wrong pick h) e in
    let n5 = n.1.1.1.1 in
    let n9 = n5.1.1.1 in
    let l = or_neither (wrong_length g (length older) || wrong_length g (length newer)) wrong n5.0 in
    let l2 = or_neither (wrong_length g (length older)) (wrong_length g (length newer)) l.0 in
    let b = or_neither (some_beyond older) (some_beyond newer) n9.1.0 in
    let z = or_neither (fixed_not_zero g older) (fixed_not_zero g newer) n9.1.1.0 in
    record {
      instrument = applies_none (instrument_checks i) (n.0, (n.1.0, (n.1.1.0, (n.1.1.1.0, tt))));
      older_passes = record { long = right-length g (length older) l2.0; low = b.0; fixed_zero = z.0 };
      newer_passes = record { long = right-length g (length newer) l2.1; low = b.1; fixed_zero = z.1 };
      rest_right = l.1;
      hit_moving = n5.1.0;
      hit_low = n5.1.1.0;
      pick_in = ltb-true pick (points g) (not-false _ n9.0);
    }

pub pluck_passes : (g : Grid) (older newer c w : ℕ) (a : ℤ) → pluck_refusal g older newer c w a ≡ Ok tt → PluckPasses g older newer c w a
unfolding pluck_refusal
pluck_passes g older newer c w a e =
    let n = none_applies (pluck_checks g (wrong_length g older || wrong_length g newer) c w a) e in
    let n6 = n.1.1 in
    let l = or_neither (wrong_length g older) (wrong_length g newer) n6.0 in
    record {
      kind_in = not-false _ n.0;
      size = not-false _ n.1.0;
      older_long = right-length g older l.0;
      newer_long = right-length g newer l.1;
      centre_moving = not-false _ n6.1.0;
      height_low = n6.1.1.0;
      width_in = n6.1.1.1.0;
    }

pub reading_passes : (g : Grid) (newer : List ℤ) (pick : ℕ) → reading_refusal g newer pick ≡ Ok tt → ReadingPasses g newer pick
unfolding reading_refusal
reading_passes g newer pick e =
    let n = none_applies (reading_checks g newer pick) e in
    let n6 = n.1.1 in
    let n11 = n6.1.1 in
    record {
      newer_passes = record { long = right-length g (length newer) n6.0; low = n11.0; fixed_zero = n11.1.0 };
      pick_in = ltb-true pick (points g) (not-false _ n6.1.0);
    }
