-- Numbers of signed 64 bits as decimal digits.
use Rattle.std.specs.Prelude.{Option, Some, None}
use Rattle.std.specs.Prelude.{Bool, true, ◌&&◌, cond, ℕ, ◌+◌, ◌-◌, ◌*◌, ◌^◌, ltb, leb, eqb, ℤ, pos, neg_ℤ, length, drop, get_or}
use mathlib.Core.List.{List, [], ◌∷◌, foldl}

-- every element passes the test
unfoldable pub all : {A : Type 0} → (A → Bool) → List A → Bool
all p [] = true
all p (x ∷ xs) = p x && all p xs

-- ---- bytes

abbrev pub minus : ℕ
minus = 45

-- from `0` to `9`
abbrev pub is_digit : ℕ → Bool
is_digit b = leb 48 b && leb b 57

-- ---- a number

-- the value of digits, the first the weightiest
abbrev pub digits_value : List ℕ → ℕ
digits_value ds = foldl (λ n b. 10 * n + (b - 48)) 0 ds

-- "digits only", one or more, and a value of at most `most`
unfoldable pub unsigned_to : ℕ → List ℕ → Bool
unsigned_to most ds = ltb 0 (length ds) && (all is_digit ds && leb (digits_value ds) most)

-- a number that may not be negative, and is not "outside signed 64 bits"
abbrev pub is_unsigned : List ℕ → Bool
is_unsigned f = unsigned_to (2 ^ 63 - 1) f

-- "only force may be negative, by one leading minus": digits come after it, and −2⁶³ is inside
abbrev pub is_negative : List ℕ → Bool
is_negative f = eqb (get_or f 0 0) minus

unfoldable pub is_signed : List ℕ → Bool
is_signed f = cond (is_negative f) (unsigned_to (2 ^ 63) (drop 1 f)) (is_unsigned f)

unfoldable pub signed_value : List ℕ → ℤ
signed_value f = cond (is_negative f) (neg_ℤ (pos (digits_value (drop 1 f)))) (pos (digits_value f))

-- ---- what is read: vocabulary between the crates of `ring`

-- a field as a number of at most `most`
unfoldable pub unsigned_read : ℕ → List ℕ → Option ℕ
unsigned_read most f = cond (unsigned_to most f) (Some (digits_value f)) None

-- a field as a number that may be negative
unfoldable pub signed_read : List ℕ → Option ℤ
signed_read f = cond (is_signed f) (Some (signed_value f)) None
