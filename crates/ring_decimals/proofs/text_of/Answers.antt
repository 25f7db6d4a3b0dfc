-- A plus, or bytes that are no text.
use Rattle.ring_decimals.proofs.ParseLaws.{has_plus, plus_leads, text-told}
use Rattle.ring_decimals.proofs.text_of.Goals as goal

pub returns-then-starts_with : goal.returns-then-starts_with
returns-then-starts_with c = plus_leads c.args.field.now (has_plus c.args.field.now c.if-starts_with.ensures.value)

pub returns : goal.returns
returns c = text-told _ c.args.field.now _ _ c.if-starts_with.ensures.value c.ok.ensures.value c.from_utf8.ensures.cases
