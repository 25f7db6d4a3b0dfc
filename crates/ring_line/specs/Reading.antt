-- What is left of a line while it is read. Vocabulary of private functions and of proofs.
use Rattle.std.specs.Prelude.{◌≡◌, true, false, MatchBool, List, ℕ, ◌+◌, ◌<◌, ℤ, drop, get_or}
use Rattle.std.specs.declared.slice.SplitN.{SplitN}
use Rattle.std.specs.Slice.Iter.{split_rest, split_done, splitn_parts, splitn_count}
use Rattle.ring_line.specs.declared.asked.Numbers.{Numbers}
use Rattle.ring_decimals.specs.Decimals.{digits_value, is_unsigned}
use Rattle.ring_line.specs.Requests.{fields, field, well_formed}

-- the first i fields are numbers, with these values, and those of `rest` come after them
pub record Read (line : List ℕ) (i : ℕ) (values : List ℕ) (rest : List ℕ) : Type 0 where
  pub others : drop i (fields line) ≡ fields rest
  pub each : (k : ℕ) → k < i → is_unsigned (field (fields line) k) ≡ true
  pub value : (k : ℕ) → k < i → get_or values k 0 ≡ digits_value (field (fields line) k)

-- i fields were taken, with these values, of the ten that the line is cut into; or it is not well formed
pub record Left {F : Type 0} (line : List ℕ) (i : ℕ) (values : List ℕ) (s : SplitN ℕ F) : Type 0 where
  pub count : splitn_count s + i ≡ 10
  pub rest : MatchBool (split_done (splitn_parts s)) (well_formed (fields line) ≡ false) (Read line i values (split_rest (splitn_parts s)))

-- the nine values, and the force
abbrev pub ten : List ℕ → ℤ → Numbers
ten values z =
    record {
      kind = get_or values 0 0;
      columns = get_or values 1 0;
      rows = get_or values 2 0;
      q = get_or values 3 0;
      m = get_or values 4 0;
      s = get_or values 5 0;
      pick = get_or values 6 0;
      steps = get_or values 7 0;
      point = get_or values 8 0;
      force = z;
    }
