-- What a number is rounded to by its size.
use Rattle.std.proofs.Common.{◌≡◌, ℕ, ◌+◌, ◌/◌, ◌%◌, ◌≤◌, ℤ, pos, ◌-ℤ◌}
use Rattle.std.proofs.Common.{nat_abs, ◌∙◌, arith}
use Rattle.scheme.specs.Step.{round_away, remainder_of}
use Rattle.scheme.proofs.Laws.Rounding.{round_signed, remainder_signed}
use Rattle.rounding.specs.Rounding.{with_sign, divisor_of, rounded_by}

-- with half of d it is the nearest whole number, halves away from zero, and what that leaves
pub rounded_is : (n : ℤ) (d half : ℕ) → 2 ≤ d → half ≡ d / 2
    → rounded_by n d half ≡ record { whole = round_away n d; remainder = remainder_of n d }
unfolding rounded_by
rounded_is n d half h e =
    let k : divisor_of d ≡ d = omega arith in
    (λ j. record {
      whole = with_sign n (pos ((nat_abs n + e j) / k j));
      remainder = with_sign n (pos ((nat_abs n + e j) % k j) -ℤ pos (e j));
    }) ∙
    (λ j. record { whole = round_signed n d (omega arith) j; remainder = remainder_signed n d (omega arith) j })
