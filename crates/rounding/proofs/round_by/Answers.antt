-- `round_by` meets its contract: the quotient and the remainder of the raised size, with the sign of n.
use Rattle.std.proofs.Common.{◌≡◌, ℕ, ◌+◌, ◌/◌, ◌%◌, ◌^◌, ◌<◌, pos, ◌-ℤ◌, nat_abs, ◌∙◌, arith, mod-lt, w64, to_z, of_z, rules}
use Rattle.std.proofs.lemmas.Int.{ints, to_z-of_z, to_z_pos}
use Rattle.rounding.specs.Rounding.{with_sign, divisor_of, rounded_by}
use Rattle.rounding.proofs.round_by.Goals as goal

pub returns : goal.returns
unfolding rounded_by
returns c =
    let n = c.args.n in
    let size : ℕ = nat_abs n + c.args.half in
    let by : ℕ = divisor_of c.args.d in
    let n_is : to_z w64 (of_z w64 n) ≡ n = to_z-of_z w64 n c.ranges.n in
    let size_is : c.raised-size.result ≡ size = grind (arith, to_z-of_z, c.raised-size.ensures) in
    let by_is : c.from-by.result ≡ by = c.from-by.ensures ∙ c.max.ensures in
    let low : size / by < 2 ^ 63 = grind arith in
    let short : size % by < by = mod-lt size (omega arith) in
    let quotient : to_z w64 (c.raised-size.result / c.from-by.result) ≡ pos (size / by) =
    (λ j. to_z w64 (size_is j / by_is j)) ∙ to_z_pos w64 (size / by) low in
    let left : to_z w64 (of_z w64 (to_z w64 (c.raised-size.result % c.from-by.result) -ℤ to_z w64 (of_z w64 c.from.result)))
    ≡ pos (size % by) -ℤ pos c.args.half =
    (λ j. to_z w64 (of_z w64 (to_z w64 (size_is j % by_is j) -ℤ to_z w64 (of_z w64 (c.from.ensures j))))) ∙ omega (arith, ints) in
    let whole : to_z w64 (of_z w64 c.signed.result) ≡ c.signed.result = search rules in
    let remainder : to_z w64 (of_z w64 c.signed-2.result) ≡ c.signed-2.result = search rules in
    (λ j. record {
      whole = (whole ∙ c.signed.ensures ∙ (λ i. with_sign (n_is i) (quotient i))) j;
      remainder = (remainder ∙ c.signed-2.ensures ∙ (λ i. with_sign (n_is i) (left i))) j;
    })
