-- The steps of a block one after the other: how they begin, go on and end.
use Rattle.std.proofs.Common.{Option}
use mathlib.Core.Path.{◌≡◌, refl, sym, ap, ◌∙◌, subst}
use mathlib.Core.Bool.{Bool, true, false, cond, not}
use mathlib.Core.List.{List, [], ◌∷◌, ◌++◌, append_assoc}
use mathlib.Core.Logic.{inl, inr}
use Prim.Native.Nat.{ℕ, zero, suc, ◌+◌, ◌≤◌, ◌<◌}
use native.Mathlib.Omega.{arith}
use borrow.Author.Tests.{lt-ltb, le-ltb, not-true, not-false}
use lib.Dec.{ltb}
use lib.IntN.{ℤ}
use lib.ListN.{length, set, length-append}
use Rattle.types.specs.declared.Grid.{Grid}
use Rattle.types.specs.declared.Instrument.{Instrument}
use Rattle.types.specs.declared.Hit.{Hit}
use Rattle.types.specs.declared.Refusal.{Refusal}
use Rattle.types.specs.declared.Refusal.TheVariants.{NextBeyond}
use Rattle.scheme.specs.Lists.{point}
use Rattle.scheme.specs.Step.{next_level, inexact_in, some_beyond, sample_of}
use Rattle.scheme.specs.Calls.{AfterSteps, ended, one_more, play, hit_after, capped}
use Rattle.scheme.specs.Claims.{LevelPasses}
use Rattle.scheme.specs.Refusals.{not_moving, too_strong}
use Rattle.scheme.proofs.Laws.Refusals.{passes_still}
use Rattle.scheme.proofs.Laws.Calls.{play-ends, play_goes, next_passes, capped-low, capped-add}
use Rattle.plans.specs.declared.Plan.{Plan}
use Rattle.steps.specs.declared.play.Steps.{Steps}
use Rattle.turns.specs.declared.Turn.{Turn}
use Rattle.turns.specs.Turns.{next_turn, older_of, newer_of, out_of}
use Rattle.steps.specs.Run.{all_within, inexact_of}
use Rattle.steps.specs.Steps.{Room, Steppable, Stepped, SteppedIn, Played}
use Rattle.turns.proofs.TurnLaws.{turned_older, turned_newer, turned_room}
use Rattle.std.specs.Prelude.{None, Result, Ok, Err}

-- ---- steps done before the rest

-- steps done with these samples and c inexact points, before the rest
abbrev pub after : List ℤ → ℕ → AfterSteps → AfterSteps
after vs c rest = record {
  answer = record {
    steps = length vs + rest.answer.steps;
    inexact = c + rest.answer.inexact;
    outcome = rest.answer.outcome;
  };
  older = rest.older;
  newer = rest.newer;
  samples = vs ++ rest.samples;
}

after_none : (rest : AfterSteps) → rest ≡ after [] 0 rest
after_none rest =
    let steps : rest.answer.steps ≡ 0 + rest.answer.steps = omega arith in
    let inexact : rest.answer.inexact ≡ 0 + rest.answer.inexact = omega arith in
    λ j. record {
      answer = record { steps = steps j; inexact = inexact j; outcome = rest.answer.outcome };
      older = rest.older;
      newer = rest.newer;
      samples = rest.samples;
    }

after_more : (vs : List ℤ) (c : ℕ) (v : ℤ) (d : ℕ) (rest : AfterSteps)
    → after vs c (one_more v d rest) ≡ after (vs ++ (v ∷ [])) (c + d) rest
after_more vs c v d rest =
    let steps : length vs + suc rest.answer.steps ≡ length (vs ++ (v ∷ [])) + rest.answer.steps =
    omega (arith, length-append vs (v ∷ [])) in
    let inexact : c + (d + rest.answer.inexact) ≡ c + d + rest.answer.inexact = omega arith in
    λ j. record {
      answer = record { steps = steps j; inexact = inexact j; outcome = rest.answer.outcome };
      older = rest.older;
      newer = rest.newer;
      samples = sym (append_assoc vs (v ∷ []) rest.samples) j;
    }

-- a sample in the first free place
set_next : (vs : List ℤ) (x v : ℤ) (xs : List ℤ) (j : ℕ) → length vs ≡ j → set (vs ++ (x ∷ xs)) j v ≡ (vs ++ (v ∷ [])) ++ xs
set_next [] x v xs zero e = refl
set_next [] x v xs (suc j) e = absurd (omega arith)
set_next (y ∷ vs) x v xs zero e = absurd (omega arith)
set_next (y ∷ vs) x v xs (suc j) e = ap (y ∷◌) (set_next vs x v xs j (omega arith))

-- ---- the loop over the places: j steps are done

pub record Playing (i : Instrument) (pick : ℕ) (hit : Option Hit) (whole : AfterSteps) (n : ℕ) (older newer samples : List ℤ)
    (j held : ℕ) : Type 0 where
  pub vs : List ℤ
  pub inexact : ℕ
  pub places : List ℤ
  pub count : length vs ≡ j
  pub held_is : held ≡ capped inexact
  pub samples_are : samples ≡ vs ++ places
  pub long : j + length places ≡ n
  pub whole_is : whole ≡ after vs inexact (play i pick (hit_after hit j) older newer places)
  pub older_passes : LevelPasses i.grid older
  pub newer_passes : LevelPasses i.grid newer

-- a level that passes is room for another
pub room_of : (g : Grid) (xs : List ℤ) → LevelPasses g xs → Room g xs
room_of g xs p = record { long = p.long; still = (passes_still g xs p).still }

module _ {p : Plan} {hit : Option Hit} {older newer out : List ℤ} (s : Steppable p hit older newer out) where
  pub playing_start : (pick : ℕ) (samples : List ℤ)
      → Playing p.instrument pick hit (play p.instrument pick hit older newer samples) (length samples) older newer samples 0 0
  playing_start pick samples = record {
    vs = [];
    inexact = 0;
    places = samples;
    count = refl;
    held_is = sym (capped-low 0 (omega arith));
    samples_are = refl;
    long = omega arith;
    whole_is = after_none (play p.instrument pick hit older newer samples);
    older_passes = s.older_passes;
    newer_passes = s.newer_passes;
  }

  -- the next step may be taken: its hit is the block's or none
  pub playing_steppable : {pick n j held : ℕ} {whole : AfterSteps} {older' newer' out' samples : List ℤ} {hit' : Option Hit}
      → hit' ≡ hit_after hit j
      → Playing p.instrument pick hit whole n older' newer' samples j held → Room p.instrument.grid out'
      → Steppable p hit' older' newer' out'
  playing_steppable {j = j} same g room = record {
    planned = s.planned;
    older_passes = g.older_passes;
    newer_passes = g.newer_passes;
    room = room;
    hit_moving = ap (not_moving p.instrument.grid) same ∙ moves j;
    hit_low = ap too_strong same ∙ low j;
  }
    where
      moves : (j : ℕ) → not_moving p.instrument.grid (hit_after hit j) ≡ false
      moves zero = s.hit_moving
      moves (suc j) = refl

      low : (j : ℕ) → too_strong (hit_after hit j) ≡ false
      low zero = s.hit_low
      low (suc j) = refl

module _ {i : Instrument} {pick n j held : ℕ} {hit : Option Hit} {whole : AfterSteps} {older newer samples : List ℤ}
    (g : Playing i pick hit whole n older newer samples j held) where
  abbrev next : List ℤ
  next = next_level i (hit_after hit j) older newer

  pub samples_long : length samples ≡ n
  samples_long = ap length g.samples_are ∙ length-append g.vs g.places ∙ omega (arith, g.count, g.long)

  -- no further step
  ended_by : (turn : Turn) (r : Result Unit Refusal) (places : List ℤ) → samples ≡ g.vs ++ places
      → whole ≡ after g.vs g.inexact (ended r older newer places)
      → r ≡ cond (ltb j n) (Err NextBeyond) (Ok tt)
      → Played whole n (record { done = j; inexact = held; turn = turn }) older newer samples
  ended_by turn r places a w e =
      let steps : j ≡ length g.vs + 0 = omega (arith, g.count) in
      let none : g.inexact ≡ g.inexact + 0 = omega arith in
      record {
        done_is = steps ∙ sym (ap (λ (p : AfterSteps). p.answer.steps) w);
        inexact_is = g.held_is ∙ ap capped (none ∙ sym (ap (λ (p : AfterSteps). p.answer.inexact) w));
        outcome_is = ap (λ (p : AfterSteps). p.answer.outcome) w ∙ e;
        older_is = sym (ap (λ (p : AfterSteps). p.older) w);
        newer_is = sym (ap (λ (p : AfterSteps). p.newer) w);
        samples_are = a ∙ sym (ap (λ (p : AfterSteps). p.samples) w);
      }

  module _ (h : j < n) {out' : List ℤ} {x : Option ℕ} {hit' : Option Hit} (same : hit' ≡ hit_after hit j)
      (s : Stepped i hit' true older newer out' x) where
    t : Stepped i (hit_after hit j) true older newer out' x
    t = subst (λ (h : Option Hit). Stepped i h true older newer out' x) same s

    -- the next level passes
    module _ (d : not (all_within x) ≡ false) where
      low : some_beyond next ≡ false
      low = not-true (some_beyond next) (sym t.within_is ∙ not-false (all_within x) d)

      next_is : out' ≡ next
      next_is = t.next_is refl (not-false (all_within x) d)

      pub stepped_passes : LevelPasses i.grid out'
      stepped_passes = subst (LevelPasses i.grid) (sym next_is) (next_passes i (hit_after hit j) older newer low)

    -- one more step, with its sample
    pub playing_on : not (all_within x) ≡ false → (v : ℤ) → v ≡ sample_of (point out' pick) → (c : ℕ) → c ≡ capped (held + inexact_of x)
        → Playing i pick hit whole n newer out' (set samples j v) (j + 1) c
    playing_on d v e c f = go g.places g.samples_are g.long g.whole_is
      where
        step : suc j ≡ j + 1
        step = omega arith

        sampled : sample_of (point next pick) ≡ v
        sampled = ap (λ (ys : List ℤ). sample_of (point ys pick)) (sym (next_is d)) ∙ sym e

        go : (places : List ℤ) → samples ≡ g.vs ++ places → j + length places ≡ n → whole
            ≡ after g.vs g.inexact (play i pick (hit_after hit j) older newer places)
            → Playing i pick hit whole n newer out' (set samples j v) (j + 1) c
        go [] a l w = absurd (omega (arith, l, h))
        go (y ∷ xs) a l w = record {
          vs = g.vs ++ (v ∷ []);
          inexact = g.inexact + inexact_of x;
          places = xs;
          count = length-append g.vs (v ∷ []) ∙ ap (λ (k : ℕ). k + 1) g.count;
          held_is = f ∙ ap (λ (m : ℕ). capped (m + inexact_of x)) g.held_is ∙ capped-add g.inexact (inexact_of x);
          samples_are = ap (λ (ys : List ℤ). set ys j v) a ∙ set_next g.vs y v xs j g.count;
          long = omega (arith, l);
          whole_is = w ∙ ap (after g.vs g.inexact) (play_goes i pick (hit_after hit j) older newer y xs (low d))
              ∙ after_more g.vs g.inexact (sample_of (point next pick)) (inexact_in i (hit_after hit j) older newer)
              (play i pick None newer next xs)
              ∙ (λ k. after (g.vs ++ (sampled k ∷ [])) (g.inexact + sym (t.inexact_is refl (not-false (all_within x) d)) k)
              (play i pick None newer (sym (next_is d) k) xs))
              ∙ ap (λ (k : ℕ). after (g.vs ++ (v ∷ [])) (g.inexact + inexact_of x) (play i pick (hit_after hit k) newer out' xs)) step;
          older_passes = g.newer_passes;
          newer_passes = stepped_passes d;
        }

    -- the next step would pass the ceiling
    pub playing_ends : (turn : Turn) → not (all_within x) ≡ true
        → Played whole n (record { done = j; inexact = held; turn = turn }) older newer samples
    playing_ends turn d = go g.places g.samples_are g.long g.whole_is
      where
        go : (places : List ℤ) → samples ≡ g.vs ++ places → j + length places ≡ n → whole
            ≡ after g.vs g.inexact (play i pick (hit_after hit j) older newer places)
            → Played whole n (record { done = j; inexact = held; turn = turn }) older newer samples
        go [] a l w = absurd (omega (arith, l, h))
        go (y ∷ xs) a l w =
            let beyond-next : some_beyond next ≡ true = not-false (some_beyond next) (sym t.within_is ∙ not-true (all_within x) d) in
            ended_by turn (Err NextBeyond) (y ∷ xs) a
            (w ∙ ap (after g.vs g.inexact) (play-ends i pick (hit_after hit j) older newer y xs beyond-next))
            (sym (ap (λ (t : Bool). cond t (Err NextBeyond) (Ok tt)) (lt-ltb j n h)))

  -- every place has its sample
  pub playing_done : (turn : Turn) (done : ℕ) → j ≡ done → n ≤ j
      → Played whole n (record { done = done; inexact = held; turn = turn }) older newer samples
  unfolding play
  playing_done turn done e h = go g.places g.samples_are g.long g.whole_is
    where
      go : (places : List ℤ) → samples ≡ g.vs ++ places → j + length places ≡ n → whole
          ≡ after g.vs g.inexact (play i pick (hit_after hit j) older newer places)
          → Played whole n (record { done = done; inexact = held; turn = turn }) older newer samples
      go (y ∷ xs) a l w = absurd (omega (arith, l, h))
      go [] a l w =
          let p = ended_by turn (Ok tt) [] a w (sym (ap (λ (t : Bool). cond t (Err NextBeyond) (Ok tt)) (le-ltb j n h))) in
          subst (λ (m : ℕ). Played whole n (record { done = m; inexact = held; turn = turn }) older newer samples) e p

-- ---- the slices in their turn

module _ {p : Turn} {i : Instrument} {h : Option Hit} {a₀ b₀ c₀ a b c : List ℤ} {x : Option ℕ} (s : SteppedIn p i h a₀ b₀ c₀ a b c x) where
  -- after a step
  pub playing_turned : {p' : Turn} {pick n j held : ℕ} {hit : Option Hit} {whole : AfterSteps} {samples : List ℤ} → p' ≡ next_turn p
      → Playing i pick hit whole n (newer_of p a₀ b₀ c₀) (out_of p a b c) samples j held
      → Playing i pick hit whole n (older_of p' a b c) (newer_of p' a b c) samples j held
  playing_turned {p'} {pick} {n} {j} {held} {hit} {whole} {samples} e g =
      let older : older_of p' a b c ≡ newer_of p a₀ b₀ c₀ = ap (λ (p : Turn). older_of p a b c) e ∙ turned_older p a b c ∙ s.newer_kept in
      let newer : newer_of p' a b c ≡ out_of p a b c = ap (λ (p : Turn). newer_of p a b c) e ∙ turned_newer p a b c in
      coe 1 0 (k. Playing i pick hit whole n (older k) (newer k) samples j held) g

  -- there is room for the next one
  pub room_turned : {p' : Turn} → p' ≡ next_turn p → LevelPasses i.grid (older_of p a₀ b₀ c₀) → LevelPasses i.grid (newer_of p a₀ b₀ c₀)
      → Room i.grid (out_of p' a b c)
  room_turned e older newer =
      subst (λ (q : Turn). Room i.grid (out_of q a b c)) (sym e)
      (turned_room (Room i.grid) p a b c
      (λ l. subst (Room i.grid) (sym (s.older_kept (inl l))) (room_of i.grid _ older))
      (subst (Room i.grid) (sym s.newer_kept) (room_of i.grid _ newer)))

  -- a step that is not done leaves the two levels
  pub played-kept : {whole : AfterSteps} {n : ℕ} {r : Steps} {samples : List ℤ} → all_within x ≡ false
      → Played whole n r (older_of p a₀ b₀ c₀) (newer_of p a₀ b₀ c₀) samples → Played whole n r (older_of p a b c) (newer_of p a b c)
      samples
  played-kept {whole} {n} {r} {samples} e q = coe 1 0 (k. Played whole n r (s.older_kept (inr e) k) (s.newer_kept k) samples) q
