-- A kind by its number.
use mathlib.Core.Path.{◌≡◌, refl, sym, ap, ◌∙◌}
use mathlib.Core.Bool.{Bool, true, false, ◌&&◌, and-false}
use Prim.Native.Nat.{ℕ, zero, suc, ◌+◌, ◌*◌, ◌≤◌, ◌<◌}
use native.Mathlib.Omega.{arith}
use borrow.Author.Tests.{eqb-true, lt-leb}
use lib.Dec.{leb, eqb}
use Rattle.types.specs.Numbers.{D}
use Rattle.types.specs.declared.Kind.{Kind}
use Rattle.types.specs.declared.Kind.TheVariants.{Unknown, StringFixed, StringFixedFree, StringFree, Bar, MembraneRectangular}
use Rattle.types.specs.declared.Kind.TheVariants.{MembraneRound, Plate}
use Rattle.types.specs.Numbers.{kind_of}
use Rattle.scheme.specs.Instruments.{within, size_in, stable_in}
use Rattle.scheme.specs.Refusals.{last_kind}
use Rattle.scheme.proofs.Laws.Bools.{and_both, and_no, not_so}
use Rattle.scheme.proofs.Laws.Kinds.{within_is, within_one}

-- what holds of each number with its kind, and of every number past the last with none, holds of any number with the kind it stands for
pub by_number : (P : ℕ → Kind → Type 0)
    → P 0 Unknown → P 1 StringFixed → P 2 StringFixedFree → P 3 StringFree → P 4 Bar → P 5 MembraneRectangular → P 6 MembraneRound
    → P 7 Plate → ((k : ℕ) → last_kind < k → P k Unknown) → (k : ℕ) → P k (kind_of k)
unfolding kind_of
by_number P z a b c d e f g past zero = z
by_number P z a b c d e f g past (suc zero) = a
by_number P z a b c d e f g past (suc (suc zero)) = b
by_number P z a b c d e f g past (suc (suc (suc zero))) = c
by_number P z a b c d e f g past (suc (suc (suc (suc zero)))) = d
by_number P z a b c d e f g past (suc (suc (suc (suc (suc zero))))) = e
by_number P z a b c d e f g past (suc (suc (suc (suc (suc (suc zero)))))) = f
by_number P z a b c d e f g past (suc (suc (suc (suc (suc (suc (suc zero))))))) = g
by_number P z a b c d e f g past (suc (suc (suc (suc (suc (suc (suc (suc k)))))))) =
    past (suc (suc (suc (suc (suc (suc (suc (suc k)))))))) (omega arith)

-- the number of a kind, 0 where it has none
abbrev pub number_of : Kind → ℕ
number_of Unknown = 0
number_of StringFixed = 1
number_of StringFixedFree = 2
number_of StringFree = 3
number_of Bar = 4
number_of MembraneRectangular = 5
number_of MembraneRound = 6
number_of Plate = 7

-- ---- a line's size

pub line-size : (c r k : ℕ) → 1 ≤ k → k ≤ 4 → size_in (kind_of k) c r ≡ (within 3 1024 c && within 1 1 r)
unfolding size_in
line-size c r =
    let e = ap (λ (b : Bool). within 3 1024 c && b) (sym (within_one 1 r)) in
    by_number (λ k K. 1 ≤ k → k ≤ 4 → size_in K c r ≡ (within 3 1024 c && within 1 1 r)) (λ l h. absurd (omega arith))
    (λ l h. e) (λ l h. e) (λ l h. e) (λ l h. e) (λ l h. absurd (omega arith)) (λ l h. absurd (omega arith)) (λ l h. absurd (omega arith))
    (λ k p l h. absurd (omega arith))

-- ---- stability

-- a coefficient past D is stable with no kind
pub q_past : (K : Kind) (q m : ℕ) → D < q → stable_in K q m ≡ false
unfolding stable_in
q_past Unknown q m h = refl
q_past StringFixed q m h = and_no (eqb m 0) (lt-leb q D h)
q_past StringFixedFree q m h = and_no (eqb m 0) (lt-leb q D h)
q_past StringFree q m h = and_no (eqb m 0) (lt-leb q D h)
q_past Bar q m h = lt-leb (q + 4 * m) D (omega arith)
q_past MembraneRectangular q m h = and_no (eqb m 0) (lt-leb (2 * q) D (omega arith))
q_past MembraneRound q m h = and_no (eqb m 0) (lt-leb (2 * q) D (omega arith))
q_past Plate q m h = lt-leb (2 * q + 16 * m) D (omega arith)

pub m_past : (K : Kind) (q m : ℕ) → D < m → stable_in K q m ≡ false
unfolding stable_in
m_past K q m h = go K
  where
    none : eqb m 0 ≡ false
    none = not_so (λ e. omega (arith, eqb-true m 0 e))

    soft : (b : Bool) → (b && eqb m 0) ≡ false
    soft b = ap (λ (t : Bool). b && t) none ∙ and-false b

    go : (K : Kind) → stable_in K q m ≡ false
    go Unknown = refl
    go StringFixed = soft (leb q D)
    go StringFixedFree = soft (leb q D)
    go StringFree = soft (leb q D)
    go Bar = lt-leb (q + 4 * m) D (omega arith)
    go MembraneRectangular = soft (leb (2 * q) D)
    go MembraneRound = soft (leb (2 * q) D)
    go Plate = lt-leb (2 * q + 16 * m) D (omega arith)

-- a round membrane is square
pub round_size : (c r : ℕ) → size_in MembraneRound c r ≡ true → (c ≤ 64) × (r ≡ c)
unfolding size_in
round_size c r e = let p = and_both _ _ e in ((within_is 3 64 c p.0).1, eqb-true r c p.1)
