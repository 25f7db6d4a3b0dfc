-- No text, or what `parse` reads of it.
use Rattle.std.proofs.Common.{sym, ◌∙◌}
use Rattle.ring_decimals.proofs.ParseLaws.{parsed_signed_of}
use Rattle.ring_decimals.proofs.SignedLaws.{not-signed-read}
use Rattle.ring_decimals.proofs.read_signed.Goals as goal

pub returns-in_err-text_of : goal.returns-in_err-text_of
returns-in_err-text_of c = c.from_residual.ensures ∙ sym (not-signed-read _ c.in_err-text_of.ensures.signed)

pub returns : goal.returns
returns c = c.ok.ensures.value ∙ parsed_signed_of c.in_ok-text_of.ensures _ c.parse.ensures.value.0
