-- No text, or what `parse` reads of it, and whether that is small enough.
use Rattle.std.proofs.Common.{arith, sym, ◌∙◌}
use Rattle.ring_decimals.proofs.ParseLaws.{parsed_of}
use Rattle.ring_decimals.proofs.DecimalLaws.{no_number, none_read, above_read, low_read}
use Rattle.ring_decimals.proofs.read_unsigned.Goals as goal

pub returns-in_err-text_of : goal.returns-in_err-text_of
returns-in_err-text_of c = c.from_residual.ensures ∙ sym (no_number _ _ c.in_err-text_of.ensures.unsigned)

pub returns-in_err-n : goal.returns-in_err-n
returns-in_err-n c =
    let p = parsed_of c.in_ok-text_of.ensures _ c.parse.ensures.value.0 in
    c.from_residual-in_err-n.ensures ∙ sym (none_read _ _ _ (omega arith) (sym (c.in_err-n.ensures.value ∙ p)))

pub returns-then-n-le-MOST : goal.returns-then-n-le-MOST
returns-then-n-le-MOST c =
    let p = parsed_of c.in_ok-text_of.ensures _ c.parse.ensures.value.0 in
    sym (low_read _ _ _ (sym (c.in_ok-n.ensures.value ∙ p)) (omega arith))

pub returns-else-n-le-MOST : goal.returns-else-n-le-MOST
returns-else-n-le-MOST c =
    let p = parsed_of c.in_ok-text_of.ensures _ c.parse.ensures.value.0 in
    sym (above_read _ _ _ (sym (c.in_ok-n.ensures.value ∙ p)) (omega arith))
