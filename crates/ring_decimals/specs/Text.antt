-- A field as text. Vocabulary of private functions.
use Rattle.std.specs.Prelude.{◌≡◌, ◌≢◌, false, List, ℕ, get_or}
use Rattle.ring_decimals.specs.Decimals.{is_unsigned, is_signed}

abbrev pub plus : ℕ
plus = 43

-- the text is the field, and no plus leads
pub record Plain (field text : List ℕ) : Type 0 where
  pub same : text ≡ field
  pub no_plus : get_or field 0 0 ≢ plus

-- the field is no number, negative or not
pub record NoNumber (field : List ℕ) : Type 0 where
  pub unsigned : is_unsigned field ≡ false
  pub signed : is_signed field ≡ false
