-- Laws of block (on two levels too), pluck (by a lent table too) and reading, for every argument: by their cases, lengths kept, and what an
-- accepted block leaves passes 11 and 12.
use mathlib.Core.Path.{◌≡◌, refl, sym, ap, ◌∙◌, subst}
use mathlib.Core.Bool.{Bool, true, false, not, ◌&&◌, ◌||◌, cond}
use mathlib.Core.List.{List, [], ◌∷◌}
use mathlib.Core.Logic.{◌⊎◌, inl, inr}
use Prim.Native.Nat.{ℕ, zero, suc, ◌+◌, ◌-◌, ◌^◌, ◌≤◌, ◌<◌}
use native.Mathlib.Decide.{dec_lt}
use native.Mathlib.Omega.{arith}
use borrow.Author.Tests.{lt-ltb, le-ltb, eq-eqb}
use lib.Dec.{ltb}
use lib.IntN.{ℤ, pos, nat_abs}
use lib.ListN.{length, replicate, length-replicate}
use Rattle.types.specs.declared.Grid.{Grid}
use Rattle.types.specs.declared.Instrument.{Instrument}
use Rattle.types.specs.declared.Hit.{Hit}
use Rattle.types.specs.declared.Refusal.{Refusal}
use Rattle.types.specs.declared.Refusal.TheVariants.{NextBeyond, BrokenTable}
use Rattle.pluck_table.specs.Table.{table}
use Rattle.pluck_table.specs.Loading.{loaded_number}
use Rattle.pluck_table.proofs.LoadingLaws.{table_loads}
use Rattle.scheme.specs.Lists.{point}
use Rattle.scheme.specs.Instruments.{points, fixed}
use Rattle.scheme.specs.Step.{next_level, inexact_in, some_beyond, sample_of, float_of}
use Rattle.scheme.specs.Pluck.{pluck_level}
use Rattle.scheme.specs.Refusals.{wrong_length, fixed_not_zero, broken_table, pluck_checks, block_refusal, pluck_refusal}
use Rattle.scheme.specs.Refusals.{pluck_with_refusal}
use Rattle.scheme.specs.Refusals.{reading_refusal}
use Rattle.scheme.specs.Calls.{accepted, AfterSteps, ended, one_more, play, levels_after, inexact_after, hit_after, StandsBehind}
use Rattle.scheme.specs.Calls.{StepsStandBehind, AfterBlock, capped, with_work_zero, block_refused, block, overwritten, pluck_refused}
use Rattle.scheme.specs.Calls.{reported, in_place_left, without_work, block_in_place, BlocksAgree, pluck_by, pluck, pluck_with}
use Rattle.scheme.specs.Calls.{CopyPlucksAlike, reading}
use Rattle.scheme.specs.Claims.{LevelPasses}
use Rattle.scheme.proofs.Laws.Bools.{cases}
use Rattle.scheme.proofs.Laws.Lists.{none_below}
use Rattle.scheme.proofs.Laws.Step.{fixed-still, length-next, next-fixed}
use Rattle.scheme.proofs.Laws.Refusals.{last_passed, accepted_is, block_passes}
use Rattle.std.specs.Prelude.{Option, None, Result, Ok, Err}

-- a next level within the ceiling passes
pub next_passes : (i : Instrument) (h : Option Hit) (older newer : List ℤ) → some_beyond (next_level i h older newer) ≡ false
    → LevelPasses i.grid (next_level i h older newer)
unfolding fixed_not_zero
next_passes i h older newer e = record {
  long = length-next i h older newer;
  low = e;
  fixed_zero = none_below _ _ (λ k p. cases (λ b. (b && ltb 0 (nat_abs (point (next_level i h older newer) k))) ≡ false) (fixed i.grid k)
      (λ q. ap (λ z. ltb 0 (nat_abs z)) (next-fixed i h older newer k (fixed-still i.grid k q)))
      (λ q. refl));
}

-- ---- the steps of a block

module _ (i : Instrument) (pick : ℕ) (h : Option Hit) (older newer : List ℤ) (x : ℤ) (xs : List ℤ) where
  pub play-ends : some_beyond (next_level i h older newer) ≡ true → play i pick h older newer (x ∷ xs) ≡ ended (Err NextBeyond) older newer
      (x ∷ xs)
  unfolding play
  play-ends e = simp e

  pub play_goes : some_beyond (next_level i h older newer) ≡ false
      → play i pick h older newer (x ∷ xs) ≡ one_more (sample_of (point (next_level i h older newer) pick)) (inexact_in i h older newer)
      (play i pick None newer (next_level i h older newer) xs)
  unfolding play
  play_goes e = simp e

pub stands_behind : StepsStandBehind
unfolding play levels_after inexact_after
stands_behind i pick h older newer [] = record {
  older_is = refl;
  newer_is = refl;
  counted = refl;
  low = λ j p. absurd (omega arith);
  sampled = λ j p. absurd (omega arith);
  later = λ j p. refl;
  places_long = refl;
  ends = inl (refl, refl);
}
stands_behind i pick h older newer (x ∷ xs) = go (some_beyond (next_level i h older newer)) refl
    (stands_behind i pick None newer (next_level i h older newer) xs)
  where
    next : List ℤ
    next = next_level i h older newer

    rest : AfterSteps
    rest = play i pick None newer next xs

    P : Bool → AfterSteps
    P t = cond t (ended (Err NextBeyond) older newer (x ∷ xs)) (one_more (sample_of (point next pick)) (inexact_in i h older newer) rest)

    same : (k : ℕ) → hit_after None k ≡ None
    same zero = refl
    same (suc k) = refl

    go : (t : Bool) → some_beyond next ≡ t → StandsBehind i pick None newer next xs rest → StandsBehind i pick h older newer (x ∷ xs)
        (P t)
    go true e w = record {
      older_is = refl;
      newer_is = refl;
      counted = refl;
      low = λ j p. absurd (omega arith);
      sampled = λ j p. absurd (omega arith);
      later = λ j p. refl;
      places_long = refl;
      ends = inr (refl, omega arith, e);
    }
    go false e w = record {
      older_is = w.older_is;
      newer_is = w.newer_is;
      counted = ap (λ (n : ℕ). inexact_in i h older newer + n) w.counted;
      low = low-at;
      sampled = sampled_at;
      later = later-at;
      places_long = ap suc w.places_long;
      ends = over w.ends;
    }
      where
        low-at : (j : ℕ) → j < suc rest.answer.steps → some_beyond (levels_after i None j newer next).newer ≡ false
        low-at zero p = e
        low-at (suc j) p = w.low j (omega arith)

        sampled_at : (j : ℕ) → j < suc rest.answer.steps → point (sample_of (point next pick) ∷ rest.samples) j
            ≡ sample_of (point (levels_after i None j newer next).newer pick)
        sampled_at zero p = refl
        sampled_at (suc j) p = w.sampled j (omega arith)

        later-at : (j : ℕ) → suc rest.answer.steps ≤ j → point (sample_of (point next pick) ∷ rest.samples) j ≡ point (x ∷ xs) j
        later-at zero p = absurd (omega arith)
        later-at (suc j) p = w.later j (omega arith)

        over : ((rest.answer.outcome ≡ Ok tt) × (rest.answer.steps ≡ length xs))
            ⊎ ((rest.answer.outcome ≡ Err NextBeyond) × (rest.answer.steps < length xs)
            × (some_beyond (next_level i (hit_after None rest.answer.steps) rest.older rest.newer) ≡ true))
            → ((rest.answer.outcome ≡ Ok tt) × (suc rest.answer.steps ≡ suc (length xs)))
            ⊎ ((rest.answer.outcome ≡ Err NextBeyond) × (suc rest.answer.steps < suc (length xs))
            × (some_beyond (next_level i None rest.older rest.newer) ≡ true))
        over (inl u) = inl (u.0, ap suc u.1)
        over (inr u) = inr (
          u.0,
          omega (arith, u.1),
          ap (λ (h : Option Hit). some_beyond (next_level i h rest.older rest.newer)) (sym (same rest.answer.steps)) ∙ u.2,
        )

-- where no step would pass the ceiling, as many are done as there are places
pub all_done : (i : Instrument) (pick : ℕ) (h : Option Hit) (older newer places : List ℤ)
    → ((j : ℕ) → j < length places → some_beyond (levels_after i h (suc j) older newer).newer ≡ false)
    → (play i pick h older newer places).answer.steps ≡ length places
unfolding play levels_after
all_done i pick h older newer [] low = refl
all_done i pick h older newer (x ∷ xs) low =
    ap (λ (p : AfterSteps). p.answer.steps) (play_goes i pick h older newer x xs (low zero (omega arith))) ∙
    ap suc (all_done i pick None newer (next_level i h older newer) xs (λ j p. low (suc j) (omega arith)))

-- levels that passed before k steps within the ceiling pass after them
pub after_passes : (i : Instrument) (h : Option Hit) (k : ℕ) (older newer : List ℤ)
    → ((j : ℕ) → j < k → some_beyond (levels_after i h (suc j) older newer).newer ≡ false)
    → LevelPasses i.grid older → LevelPasses i.grid newer → LevelPasses i.grid (levels_after i h k older newer).older
    × LevelPasses i.grid (levels_after i h k older newer).newer
unfolding levels_after
after_passes i h zero older newer low a b = (a, b)
after_passes i h (suc k) older newer low a b =
    after_passes i None k newer (next_level i h older newer) (λ j p. low (suc j) (omega arith)) b
    (next_passes i h older newer (low zero (omega arith)))

-- ---- the count of a block

pub capped-low : (n : ℕ) → n < 2 ^ 64 → capped n ≡ n
unfolding capped
capped-low n h = simp (lt-ltb n (2 ^ 64) h)

pub capped_high : (n : ℕ) → 2 ^ 64 ≤ n → capped n ≡ 2 ^ 64 - 1
unfolding capped
capped_high n h = simp (le-ltb n (2 ^ 64) h)

-- from 2⁶⁴ − 1 on
pub capped_full : (n : ℕ) → 2 ^ 64 - 1 ≤ n → capped n ≡ 2 ^ 64 - 1
capped_full n h = go (dec_lt n (2 ^ 64))
  where
    go : Dec (n < 2 ^ 64) → capped n ≡ 2 ^ 64 - 1
    go (yes l) = capped-low n l ∙ omega arith
    go (no l) = capped_high n (omega (arith, l))

-- a sum of 0 is one of no points at all
pub capped-zero : (n : ℕ) → capped n ≡ 0 → n ≡ 0
capped-zero n e = go (dec_lt n (2 ^ 64))
  where
    go : Dec (n < 2 ^ 64) → n ≡ 0
    go (yes h) = sym (capped-low n h) ∙ e
    go (no h) = absurd (omega (arith, e, capped_high n (omega (arith, h))))

-- a sum that is held on the way is held alike in the end
pub capped-add : (a b : ℕ) → capped (capped a + b) ≡ capped (a + b)
capped-add a b = go (dec_lt a (2 ^ 64))
  where
    go : Dec (a < 2 ^ 64) → capped (capped a + b) ≡ capped (a + b)
    go (yes h) = ap (λ (n : ℕ). capped (n + b)) (capped-low a h)
    go (no h) =
        let high : 2 ^ 64 ≤ a = omega (arith, h) in
        ap (λ (n : ℕ). capped (n + b)) (capped_high a high) ∙ capped_full (2 ^ 64 - 1 + b) (omega arith) ∙
        sym (capped_high (a + b) (omega arith))

-- ---- a block

module _ (i : Instrument) (older newer work samples : List ℤ) (pick : ℕ) (h : Option Hit) where
  pub block-done : block_refusal i older newer (wrong_length i.grid (length work)) pick h ≡ Ok tt
      → block i older newer work samples pick h ≡ with_work_zero (points i.grid) (play i pick h older newer samples)
  unfolding block
  block-done e = simp e

  pub block_refused_lem : accepted (block_refusal i older newer (wrong_length i.grid (length work)) pick h) ≡ false
      → block i older newer work samples pick h ≡ block_refused (block_refusal i older newer (wrong_length i.grid (length work)) pick h)
      older newer work samples
  unfolding block
  block_refused_lem e = simp e

  -- what an accepted block leaves passes 11 and 12
  pub accepted-leaves : block_refusal i older newer (wrong_length i.grid (length work)) pick h ≡ Ok tt
      → LevelPasses i.grid (block i older newer work samples pick h).older
      × LevelPasses i.grid (block i older newer work samples pick h).newer
  accepted-leaves e =
      let w = block_passes i older newer (wrong_length i.grid (length work)) pick h e in
      let s = stands_behind i pick h older newer samples in
      let p = after_passes i h (play i pick h older newer samples).answer.steps older newer s.low w.older_passes w.newer_passes
      in
      subst (λ (r : AfterBlock). LevelPasses i.grid r.older × LevelPasses i.grid r.newer) (sym (block-done e))
      (subst (LevelPasses i.grid) (sym s.older_is) p.0, subst (LevelPasses i.grid) (sym s.newer_is) p.1)

-- ---- a block on two levels

-- with a work level of the grid's length, 6 looks at older and newer alone, and what is answered and left does not depend on work's points
module _ (i : Instrument) (older newer work samples : List ℤ) (pick : ℕ) (h : Option Hit) (long : length work ≡ points i.grid) where
  long_passes : block_refusal i older newer (wrong_length i.grid (length work)) pick h ≡ block_refusal i older newer false pick h
  long_passes = ap (λ (wrong : Bool). block_refusal i older newer wrong pick h)
      (ap not (eq-eqb (length work) (points i.grid) long))

  long_done : block_refusal i older newer false pick h ≡ Ok tt → without_work (block i older newer work samples pick h)
      ≡ without_work (with_work_zero (points i.grid) (play i pick h older newer samples))
  long_done e = ap (λ (a : AfterBlock). without_work a) (block-done i older newer work samples pick h (long_passes ∙ e))

  long_refused : accepted (block_refusal i older newer false pick h) ≡ false → without_work (block i older newer work samples pick h)
      ≡ without_work (block_refused (block_refusal i older newer false pick h) older newer work samples)
  long_refused e =
      ap (λ (a : AfterBlock). without_work a)
      (block_refused_lem i older newer work samples pick h (ap (λ (r : Result Unit Refusal). accepted r) long_passes ∙ e)) ∙
      ap (λ (r : Result Unit Refusal). without_work (block_refused r older newer work samples)) long_passes

module _ (i : Instrument) (older newer samples : List ℤ) (pick : ℕ) (h : Option Hit) where
  abbrev after : AfterSteps
  after = play i pick h older newer samples

  abbrev zeros : List ℤ
  zeros = replicate (points i.grid) (pos 0)

  pub in_place_done : block_refusal i older newer false pick h ≡ Ok tt → block_in_place i older newer samples pick h
      ≡ in_place_left (reported after.answer) after.older after.newer after.samples
  unfolding block_in_place
  in_place_done e = long_done i older newer zeros samples pick h (length-replicate (points i.grid) (pos 0)) e

  pub in_place_refused : accepted (block_refusal i older newer false pick h) ≡ false → block_in_place i older newer samples pick h
      ≡ in_place_left (record { steps = 0; inexact = 0; outcome = block_refusal i older newer false pick h }) older newer samples
  unfolding block_in_place
  in_place_refused e = long_refused i older newer zeros samples pick h (length-replicate (points i.grid) (pos 0)) e

pub blocks_agree : BlocksAgree
blocks_agree i older newer work samples pick h long =
    cases (λ (b : Bool). block_in_place i older newer samples pick h ≡ without_work (block i older newer work samples pick h))
    (accepted (block_refusal i older newer false pick h))
    (λ e. in_place_done i older newer samples pick h (accepted_is _ e) ∙
    sym (long_done i older newer work samples pick h long (accepted_is _ e)))
    (λ e. in_place_refused i older newer samples pick h e ∙ sym (long_refused i older newer work samples pick h long e))

-- ---- a pluck

module _ (g : Grid) (older newer : List ℤ) (c w : ℕ) (a : ℤ) where
  -- by any table
  pub by_done : (ts : List ℕ) {r : Result Unit Refusal} → r ≡ Ok tt → pluck_by ts r g older newer c w a ≡ overwritten (pluck_level ts g c w a)
  unfolding pluck_by
  by_done ts e = simp e

  pub by_refused : (ts : List ℕ) {r : Result Unit Refusal} → accepted r ≡ false → pluck_by ts r g older newer c w a ≡ pluck_refused r older newer
  unfolding pluck_by
  by_refused ts e = simp e

  pub pluck-done : pluck_refusal g (length older) (length newer) c w a ≡ Ok tt → pluck g older newer c w a
      ≡ overwritten (pluck_level table g c w a)
  unfolding pluck
  pluck-done e = by_done table e

  pub pluck-refused : accepted (pluck_refusal g (length older) (length newer) c w a) ≡ false → pluck g older newer c w a
      ≡ pluck_refused (pluck_refusal g (length older) (length newer) c w a) older newer
  unfolding pluck
  pluck-refused e = by_refused table e

  -- by a lent one
  pub with_done : (lent : List ℕ) → pluck_with_refusal g (length older) (length newer) c w a lent ≡ Ok tt
      → pluck_with g older newer c w a lent ≡ overwritten (pluck_level lent g c w a)
  unfolding pluck_with
  with_done lent e = by_done lent e

  pub with_refused : (lent : List ℕ) → accepted (pluck_with_refusal g (length older) (length newer) c w a lent) ≡ false
      → pluck_with g older newer c w a lent ≡ pluck_refused (pluck_with_refusal g (length older) (length newer) c w a lent) older newer
  unfolding pluck_with
  with_refused lent e = by_refused lent e

-- T is loaded, so that its copy is refused by no more
pub copy_plucks_alike : CopyPlucksAlike
unfolding pluck pluck_with pluck_refusal pluck_with_refusal
copy_plucks_alike g older newer c w a =
    ap (λ (r : Result Unit Refusal). pluck_by table r g older newer c w a)
    (last_passed (pluck_checks g (wrong_length g (length older) || wrong_length g (length newer)) c w a) (broken_table table) BrokenTable
    (ap (λ (l : Option ℕ). ltb 0 (loaded_number l)) table_loads))

-- ---- the float reading

module _ (g : Grid) (newer : List ℤ) (pick : ℕ) where
  pub reading-done : reading_refusal g newer pick ≡ Ok tt → reading g newer pick ≡ Ok (float_of (point newer pick))
  unfolding reading
  reading-done e = simp e

  pub reading-refused : (r : Refusal) → reading_refusal g newer pick ≡ Err r → reading g newer pick ≡ Err r
  unfolding reading
  reading-refused r e = simp e
