-- The answer: its input, its refusal numbers, its steps.
use mathlib.Core.Path.{◌≡◌, refl, ap, subst}
use mathlib.Core.Bool.{Bool, true, false, ◌&&◌}
use mathlib.Core.List.{List}
use Prim.Native.Nat.{ℕ, ◌≤◌, ◌<◌}
use native.Mathlib.Omega.{arith}
use borrow.Author.Tests.{leb-true}
use lib.Dec.{leb, eqb}
use lib.ListN.{length, take}
use Rattle.types.specs.declared.Refusal.{Refusal}
use Rattle.types.specs.declared.Refusal.TheVariants.{UnknownKind, WrongSize, SheetNumber, Coefficient, Unstable, WrongLength}
use Rattle.types.specs.declared.Refusal.TheVariants.{NotMoving, TooStrong, PickUp, HalfWidth, PointBeyond, FixedNotZero, NextBeyond}
use Rattle.types.specs.declared.Refusal.TheVariants.{BrokenTable}
use Rattle.types.specs.Numbers.{number, number_of}
use Rattle.scheme.proofs.Laws.Bools.{and_both}
use Rattle.ring_decimals.specs.Decimals.{all, digits_value, is_unsigned, is_signed}
use Rattle.ring_line.specs.declared.asked.Numbers.{Numbers}
use Rattle.ring_line.specs.Requests.{field, fields, well_formed, line_request, first_line, request_of}
use Rattle.ring_line.proofs.RequestLaws as line
use Rattle.ring_shell.specs.Answer.{text_for, answer}
use Rattle.ring_shell.specs.Written.{Written}
use Rattle.ring_shell.specs.Claims.{FirstBytesTell}
use Rattle.std.specs.Prelude.{Option, Some, None, Result, Ok, Err}

pub first_bytes_tell : FirstBytesTell
unfolding answer
first_bytes_tell bytes = ap text_for (line.first_bytes_tell bytes)

pub written_same : {before after : List ℕ} {end : ℕ} {s t : List ℕ} → s ≡ t → Written before s end after → Written before t end after
written_same {before} {after} {end} e w = subst (λ (l : List ℕ). Written before l end after) e w

number-low : (r : Refusal) → number r < 100
number-low UnknownKind = omega arith
number-low WrongSize = omega arith
number-low SheetNumber = omega arith
number-low Coefficient = omega arith
number-low Unstable = omega arith
number-low WrongLength = omega arith
number-low NotMoving = omega arith
number-low TooStrong = omega arith
number-low PickUp = omega arith
number-low HalfWidth = omega arith
number-low PointBeyond = omega arith
number-low FixedNotZero = omega arith
number-low NextBeyond = omega arith
number-low BrokenTable = omega arith

pub outcome-low : (o : Result Unit Refusal) → number_of o < 100
outcome-low (Ok done) = omega arith
outcome-low (Err r) = number-low r

-- ---- the steps that a line may ask for

abbrev StepsLow : Option Numbers → Type 0
StepsLow None = Unit {0}
StepsLow (Some n) = n.steps ≤ 8192

last_of_four : (a b c d : Bool) → (a && (b && (c && d))) ≡ true → d ≡ true
last_of_four a b c d e = (and_both c d (and_both b (c && d) (and_both a (b && (c && d)) e).1).1).1

formed_low : (fs : List (List ℕ)) → well_formed fs ≡ true → digits_value (field fs 7) ≤ 8192
unfolding well_formed
formed_low fs e =
    let low = leb (digits_value (field fs 7)) 8192 in
    leb-true _ _ (last_of_four (eqb (length fs) 10) (all is_unsigned (take 9 fs)) (is_signed (field fs 9)) low e)

line_low : (l : List ℕ) → StepsLow (line_request l)
unfolding line_request
line_low l = go (well_formed (fields l)) refl
  where
    go : (t : Bool) → well_formed (fields l) ≡ t → StepsLow (line_request l)
    go true e = simp e (formed_low (fields l) e)
    go false e = simp e tt

request_low : (bytes : List ℕ) → StepsLow (request_of bytes)
unfolding request_of
request_low bytes = go (leb (length (first_line bytes)) 255) refl
  where
    go : (t : Bool) → leb (length (first_line bytes)) 255 ≡ t → StepsLow (request_of bytes)
    go true e = simp e (line_low (first_line bytes))
    go false e = simp e tt

pub steps_low : (bytes : List ℕ) (n : Numbers) → request_of bytes ≡ Some n → n.steps ≤ 8192
steps_low bytes n e = subst StepsLow e (request_low bytes)
