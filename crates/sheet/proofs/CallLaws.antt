-- The answer by the checks, one after the other; what the coefficients keep to; the claims.
use Rattle.std.proofs.Common.{◌≡◌, refl, sym, ap, ◌∙◌, subst, true, false, ℕ, ◌≤◌, Result, Ok, Err, unwrap_or, arith}
use borrow.Author.Tests.{le-ltb}
use lib.Dec.{ltb}
use lib.Ieee.{Float}
use Rattle.types.specs.declared.Grid.{Grid}
use Rattle.types.specs.declared.Refusal.{Refusal}
use Rattle.types.specs.declared.Refusal.TheVariants.{SheetNumber, Coefficient, Unstable}
use Rattle.types.specs.Numbers.{D}
use Rattle.scheme.specs.Instruments.{kind, stable_in}
use Rattle.scheme.specs.Refusals.{last_kind, wrong_coefficient, lowest, grid_checks, instrument_checks, instrument_refusal}
use Rattle.scheme.specs.Calls.{answered}
use Rattle.scheme.proofs.Laws.Bools.{neither_or}
use Rattle.scheme.proofs.Laws.Kinds.{sized}
use Rattle.scheme.proofs.Laws.Refusals.{none_applies, applies_none}
use Rattle.instruments.proofs.RefusalLaws as R
use Rattle.nearest.specs.Nearest.{nearest_whole}
use Rattle.nearest.proofs.Values.{value_bounded}
use Rattle.sheet.specs.declared.Sheet.{Sheet}
use Rattle.sheet.specs.declared.coefficients.Coefficients.{Coefficients}
use Rattle.sheet.specs.Numbers.{numbers_allowed}
use Rattle.sheet.specs.Coefficients.{coefficients, some_outside, settings_of}
use Rattle.sheet.specs.Call.{instrument_with, after_grid, sheet_checks, answer_to, sheet_call}
use Rattle.sheet.specs.Claims.{SheetChecksInOrder, AcceptedPlayable}

-- what 1 and 2 let pass has columns for the spaces between them
pub columns_in : (last : ℕ) (g : Grid) → lowest (grid_checks last g) ≡ Ok tt → (1 ≤ g.columns) × (g.columns ≤ 1024)
columns_in last g passed =
    let size = sized (kind g) g.columns g.rows (R.grid_in last g (none_applies (grid_checks last g) passed)) in
    (omega (arith, size.columns_low), size.columns_high)

-- ---- the answer, by the first check that applies

module _ (g : Grid) (s : Sheet) where
  abbrev c : Coefficients
  c = coefficients g.columns s

  pub grid_refused : {q : Result Unit Refusal} {r : Refusal} → q ≡ lowest (grid_checks last_kind g) → q ≡ Err r → sheet_call g s ≡ Err r
  unfolding answer_to sheet_call
  grid_refused e f = ap (λ a. answered a (settings_of c)) (sym (R.refused_by (grid_checks last_kind g) (after_grid g s) e f))

  module _ (passed : lowest (grid_checks last_kind g) ≡ Ok tt) where
    after : sheet_call g s ≡ answered (lowest (after_grid g s)) (settings_of c)
    unfolding answer_to sheet_call
    after = ap (λ a. answered a (settings_of c)) (sym (R.goes_on (grid_checks last_kind g) (after_grid g s) refl passed refl))

    pub number_refused : numbers_allowed (kind g) s ≡ false → sheet_call g s ≡ Err SheetNumber
    number_refused e = after ∙ simp e

    pub coefficient_refused : numbers_allowed (kind g) s ≡ true → some_outside c ≡ true → sheet_call g s ≡ Err Coefficient
    coefficient_refused e f = after ∙ simp (e, f)

    pub unstable_refused : numbers_allowed (kind g) s ≡ true → some_outside c ≡ false
        → stable_in (kind g) (settings_of c).q (settings_of c).m ≡ false → sheet_call g s ≡ Err Unstable
    unstable_refused e f h = after ∙ simp (e, f, h)

    pub carried_out : numbers_allowed (kind g) s ≡ true → some_outside c ≡ false
        → stable_in (kind g) (settings_of c).q (settings_of c).m ≡ true → sheet_call g s ≡ Ok (settings_of c)
    carried_out e f h = after ∙ simp (e, f, h)

-- the answers after 1 and 2
pub ruleset by_checks = (number_refused, coefficient_refused, unstable_refused, carried_out)

-- ---- the coefficients

whole-low : (x : Float) → ltb D (unwrap_or (nearest_whole x) 0) ≡ false
whole-low x = le-ltb D (unwrap_or (nearest_whole x) 0) (value_bounded x)

-- what is worked out is within D, so that 4 as a block has it does not apply
within-D : (columns : ℕ) (s : Sheet) → wrong_coefficient (settings_of (coefficients columns s)) ≡ false
unfolding coefficients
within-D columns s = neither_or (neither_or (whole-low _) (whole-low _)) (whole-low _)

-- ---- the claims

pub checks_in_order : SheetChecksInOrder
checks_in_order g s = tt

-- where a call is carried out nothing refuses it
nothing-refused : {A : Type 0} (r : Result Unit Refusal) (x : A) {y : A} → answered r x ≡ Ok y → (r ≡ Ok tt) × (x ≡ y)
nothing-refused (Ok tt) x e = (refl, cc)
nothing-refused (Err r) x e = absurd (cc)

pub accepted_playable : AcceptedPlayable
unfolding answer_to sheet_call instrument_refusal
accepted_playable g s x h =
    let c = coefficients g.columns s in
    let p = nothing-refused (lowest (sheet_checks g s)) (settings_of c) h in
    let n = none_applies (sheet_checks g s) p.0 in
    subst (λ x. instrument_refusal (record { grid = g; settings = x }) ≡ Ok tt) p.1
    (applies_none (instrument_checks (instrument_with g c)) (n.0, (n.1.0, (within-D g.columns s, (n.1.1.1.1.0, tt)))))
