-- Where a piece ends.
use mathlib.Core.Path.{◌≡◌, sym, ap, subst}
use mathlib.Core.Bool.{Bool, true, false, cond, true≢false}
use Prim.Native.Nat.{ℕ, ◌+◌, ◌-◌, ◌≤◌, ◌<◌}
use native.Mathlib.Decide.{dec_lt}
use native.Mathlib.Omega.{arith}
use borrow.Author.Tests.{lt-ltb, le-ltb}
use Rattle.stretches.specs.Pieces.{piece, piece_end}

-- some points, no more than there are, in place no more than a piece
pub record PieceEnds (inPlace : Bool) (at to end : ℕ) : Type 0 where
  pub some : at < end
  pub upto : end ≤ to
  pub few : inPlace ≡ true → end ≤ at + piece

pub piece-ends : (inPlace : Bool) {at to : ℕ} → at < to → PieceEnds inPlace at to (piece_end inPlace at to)
piece-ends false h = record { some = h; upto = omega arith; few = λ e. absurd (true≢false (sym e)) }
piece-ends true {at} {to} h = go (dec_lt (to - at) piece)
  where
    go : Dec (to - at < piece) → PieceEnds true at to (piece_end true at to)
    go (yes l) = subst (PieceEnds true at to) (sym (ap (λ (t : Bool). cond t to (at + piece)) (lt-ltb (to - at) piece l)))
        (record { some = h; upto = omega arith; few = λ e. omega (arith, l) })
    go (no l) = subst (PieceEnds true at to)
        (sym (ap (λ (t : Bool). cond t to (at + piece)) (le-ltb (to - at) piece (omega (arith, l)))))
        (record { some = omega arith; upto = omega (arith, l); few = λ e. omega arith })
