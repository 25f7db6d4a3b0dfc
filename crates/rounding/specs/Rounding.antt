-- A number rounded by its size. Vocabulary between the engine's crates: no call that a maker embeds cites it.
use Rattle.std.specs.Prelude.{ℕ, ◌+◌, ◌/◌, ◌%◌, cond, ℤ, pos, negsuc, ◌-ℤ◌, neg_ℤ, int_lt, max, unsigned_abs}
use Rattle.rounding.specs.declared.Rounded.{Rounded}

-- −1 for a number below 0, else 0
abbrev pub sign_of : ℤ → ℤ
sign_of n = cond (int_lt n (pos 0)) (negsuc 0) (pos 0)

-- x, or −1 − x where n is below 0
abbrev pub mirror_of : ℤ → ℤ → ℤ
mirror_of n x = cond (int_lt n (pos 0)) (negsuc 0 -ℤ x) x

-- x, or −x where n is below 0
abbrev pub with_sign : ℤ → ℤ → ℤ
with_sign n x = cond (int_lt n (pos 0)) (neg_ℤ x) x

-- a divisor: 2 for one below 2
abbrev pub divisor_of : ℕ → ℕ
divisor_of d = max d 2

-- |n| + half over d: the quotient, and what is left less half, with the sign of n
unfoldable pub rounded_by : ℤ → (d half : ℕ) → Rounded
rounded_by n d half = record {
  whole = with_sign n (pos ((unsigned_abs n + half) / divisor_of d));
  remainder = with_sign n (pos ((unsigned_abs n + half) % divisor_of d) -ℤ pos half);
}
