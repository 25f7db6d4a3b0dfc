-- The whole listing: whether it is written, and the buffer afterwards.
use mathlib.Core.Path.{◌≡◌, refl, sym, ap, ap₂, ◌∙◌}
use mathlib.Core.Bool.{Bool, true, ◌&&◌, cond}
use mathlib.Core.List.{List, [], ◌++◌}
use Prim.Native.Nat.{ℕ, zero, suc, ◌≤◌, ◌<◌}
use native.Mathlib.Nat.{le_refl}
use native.Mathlib.Omega.{arith}
use borrow.Author.Tests.{leb-true, le-leb, lt-ltb, ltb-true}
use lib.Dec.{leb, ltb}
use lib.IntN.{ℤ, pos}
use lib.ListN.{length, take}
use lib.Seq.{length-take-le}
use Rattle.std.proofs.lemmas.List.{get_or-take}
use Rattle.scheme.proofs.Laws.Bools.{and_both}
use Rattle.ring_listing.specs.Text.{pair_line, step_lines, listing, room, is_listed, listed_to}

-- what the test tells
module _ (places samples count refusal : ℕ) where
  pub record Within : Type 0 where
    pub has_room : room ≤ places
    pub few : count ≤ 8192
    pub there : count ≤ samples
    pub two_digits : refusal < 100

  pub within : is_listed places samples count refusal ≡ true → Within
  within e =
      let more = leb count samples && ltb refusal 100 in
      let first = and_both (leb room places) (leb count 8192 && more) e in
      let second = and_both (leb count 8192) more first.1 in
      let third = and_both (leb count samples) (ltb refusal 100) second.1 in
      record {
        has_room = leb-true _ _ first.0;
        few = leb-true _ _ second.0;
        there = leb-true _ _ third.0;
        two_digits = ltb-true _ _ third.1;
      }

-- the lines of the first samples, of a part that has them
lines_part : (k n : ℕ) (samples : List ℤ) → k ≤ n → step_lines k (take n samples) ≡ step_lines k samples
unfolding step_lines
lines_part zero n samples h = refl
lines_part (suc k) n samples h =
    ap₂ ◌++◌ (lines_part k n samples (omega arith)) (ap (pair_line (suc k)) (get_or-take n samples k (pos 0) (omega arith)))

pub lines_first : (count : ℕ) (samples : List ℤ) → count ≤ length samples →
    step_lines (length (take count samples)) (take count samples) ≡ step_lines count samples
lines_first count samples h =
    ap (λ (k : ℕ). step_lines k (take count samples)) (length-take-le count samples h) ∙ lines_part count count samples (le_refl count)

module _ (buffer : List ℕ) (count : ℕ) (samples : List ℤ) (refusal : ℕ) where
  listed : is_listed (length buffer) (length samples) count refusal ≡ true
      → listing count samples refusal ≡ listed_to buffer count samples refusal
  unfolding listed_to
  listed e = sym (ap (λ (t : Bool). cond t (listing count samples refusal) []) e)

  -- where there is room and each number is small enough
  pub lists : room ≤ length buffer → count ≤ 8192 → count ≤ length samples → refusal < 100
      → listing count samples refusal ≡ listed_to buffer count samples refusal
  lists a b c d = listed (simp (le-leb room (length buffer) a, le-leb count 8192 b, le-leb count (length samples) c, lt-ltb refusal 100 d))
