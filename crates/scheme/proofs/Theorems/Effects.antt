-- What a call does to the two levels, the book and the sum of counts: one of three effects.
-- A theorem about lists of calls is proved once over effects; each call has one law that tells its effect.
use mathlib.Core.Path.{◌≡◌, refl, sym, ap, ◌∙◌, subst}
use mathlib.Core.Bool.{Bool, true, false}
use mathlib.Core.List.{List, [], ◌∷◌}
use Prim.Native.Nat.{ℕ, suc, ◌<◌}
use native.Mathlib.Omega.{arith}
use lib.IntN.{ℤ, pos}
use lib.ListN.{length, replicate, length-replicate}
use Rattle.types.specs.declared.Grid.{Grid}
use Rattle.types.specs.declared.Instrument.{Instrument}
use Rattle.types.specs.declared.Hit.{Hit}
use Rattle.types.specs.declared.Refusal.{Refusal}
use Rattle.pluck_table.specs.Table.{table}
use Rattle.scheme.specs.Instruments.{points}
use Rattle.scheme.specs.Pluck.{pluck_level}
use Rattle.scheme.specs.Refusals.{wrong_length, block_refusal, pluck_refusal, pluck_with_refusal}
use Rattle.scheme.specs.Calls.{accepted, AfterSteps, play, levels_after, inexact_after, capped, AfterBlock, AfterPluck, block}
use Rattle.scheme.specs.Calls.{block_in_place, pluck_by, pluck, pluck_with}
use Rattle.scheme.specs.Book.{fresh, book_block, book_pluck, sum_block, sum_pluck, Call, block_call, in_place_call, pluck_call}
use Rattle.scheme.specs.Book.{pluck_with_call}
use Rattle.scheme.specs.Book.{leaves, book_call, sum_call, State, state_after, called, calls, Outcome, EachCall}
use Rattle.scheme.specs.Passing.{InstrumentPasses}
use Rattle.scheme.proofs.Laws.Refusals.{accepted_is, instrument_passes, block_passes}
use Rattle.scheme.proofs.Laws.Calls.{stands_behind, all_done, block-done, block_refused_lem, by_done, by_refused}
use Rattle.std.specs.Prelude.{Option, Result, Ok}

-- k steps of an instrument, the hit in the first, of the levels and in the book, and their inexact points
abbrev pub stepped : Instrument → Option Hit → ℕ → State → State
stepped i h k t = let after = levels_after i h k t.older t.newer in
    record {
      older = after.older;
      newer = after.newer;
      book = book_block i h t.older t.newer k t.book;
      inexact = sum_block i k (capped (inexact_after i h k t.older t.newer)) t.book t.inexact;
    }

-- both levels overwritten, in the book with n 0
abbrev pub overwrote : List ℤ → State → State
overwrote xs t = record { older = xs; newer = xs; book = fresh t.book.last xs xs; inexact = 0 }

pub data Effect (t t' : State) : Type 0 where
  nothing : t' ≡ t → Effect t t'
  steps : (i : Instrument) (h : Option Hit) (k : ℕ) → InstrumentPasses i → t' ≡ stepped i h k t → Effect t t'
  overwrites : (xs : List ℤ) → t' ≡ overwrote xs t → Effect t t'

-- the state after a call
abbrev pub after_call : Call → State → State
after_call k t = state_after k (called k t) t

module _ (i : Instrument) (work samples : List ℤ) (pick : ℕ) (h : Option Hit) (t : State) where
  abbrev refused : Result Unit Refusal
  refused = block_refusal i t.older t.newer (wrong_length i.grid (length work)) pick h

  abbrev after : AfterSteps
  after = play i pick h t.older t.newer samples

  left : AfterBlock → State
  left r = record {
    older = r.older;
    newer = r.newer;
    book = book_block i h t.older t.newer r.answer.steps t.book;
    inexact = sum_block i r.answer.steps r.answer.inexact t.book t.inexact;
  }

  -- an accepted block: the steps that it has done
  pub block-stepped : refused ≡ Ok tt → after_call (block_call i work samples pick h) t ≡ stepped i h after.answer.steps t
  unfolding leaves book_call sum_call left
  block-stepped e =
      let s = stands_behind i pick h t.older t.newer samples in
      ap left (block-done i t.older t.newer work samples pick h e) ∙
      (λ x. record {
        older = s.older_is x;
        newer = s.newer_is x;
        book = book_block i h t.older t.newer after.answer.steps t.book;
        inexact = sum_block i after.answer.steps (capped (s.counted x)) t.book t.inexact;
      })

  block_effect : Effect t (after_call (block_call i work samples pick h) t)
  unfolding leaves book_call book_block sum_call sum_block left
  block_effect = go (accepted refused) refl
    where
      go : (x : Bool) → accepted refused ≡ x → Effect t (left (block i t.older t.newer work samples pick h))
      go true e =
          let z = accepted_is _ e in
          steps i h after.answer.steps
          (instrument_passes i (block_passes i t.older t.newer (wrong_length i.grid (length work)) pick h z).instrument)
          (block-stepped z)
      go false e = nothing (ap left (block_refused_lem i t.older t.newer work samples pick h e))

-- a block cut after j + 1 of its steps is a block
pub block_cut : (i : Instrument) (work samples : List ℤ) (pick : ℕ) (h : Option Hit) (t : State) → refused i work samples pick h t ≡ Ok tt
    → (j : ℕ) → j < (after i work samples pick h t).answer.steps
    → after_call (block_call i work (replicate (suc j) (pos 0)) pick h) t ≡ stepped i h (suc j) t
block_cut i work samples pick h t e j l =
    block-stepped i work places pick h t e ∙ ap (λ (k : ℕ). stepped i h k t) (
    all_done i pick h t.older t.newer places
    (λ m p. (stands_behind i pick h t.older t.newer samples).low m (omega (arith, l, p, long))) ∙ long)
  where
    places : List ℤ
    places = replicate (suc j) (pos 0)

    long : length places ≡ suc j
    long = length-replicate (suc j) (pos 0)

-- the state after a block on two levels is that after a block with a work level of zeros
in_place_after : (i : Instrument) (samples : List ℤ) (pick : ℕ) (h : Option Hit) (t : State) → after_call (in_place_call i samples pick h) t
    ≡ after_call (block_call i (replicate (points i.grid) (pos 0)) samples pick h) t
unfolding block_in_place leaves book_call sum_call
in_place_after i samples pick h t = refl

-- a pluck by any table: both levels overwritten, or nothing
module _ (ts : List ℕ) (r : Result Unit Refusal) (g : Grid) (c w : ℕ) (a : ℤ) (t : State) where
  abbrev plucked : AfterPluck → State
  plucked p = record {
    older = p.older;
    newer = p.newer;
    book = book_pluck (accepted p.outcome) (pluck_level ts g c w a) t.book;
    inexact = sum_pluck (accepted p.outcome) t.inexact;
  }

  pluck_effect : Effect t (plucked (pluck_by ts r g t.older t.newer c w a))
  unfolding book_pluck sum_pluck
  pluck_effect = go (accepted r) refl
    where
      go : (x : Bool) → accepted r ≡ x → Effect t (plucked (pluck_by ts r g t.older t.newer c w a))
      go true e = overwrites (pluck_level ts g c w a)
          (ap (λ (p : AfterPluck). plucked p) (by_done g t.older t.newer c w a ts (accepted_is _ e)))
      go false e = nothing (ap (λ (p : AfterPluck). plucked p) (by_refused g t.older t.newer c w a ts e) ∙
          ap (λ (x : Bool). record {
            older = t.older;
            newer = t.newer;
            book = book_pluck x (pluck_level ts g c w a) t.book;
            inexact = sum_pluck x t.inexact;
          }) e)

-- the effect of each call
pub effect_of : (k : Call) (t : State) → Effect t (after_call k t)
unfolding leaves book_call sum_call pluck pluck_with
effect_of (block_call i work samples pick h) t = block_effect i work samples pick h t
effect_of (in_place_call i samples pick h) t =
    subst (Effect t) (sym (in_place_after i samples pick h t)) (block_effect i (replicate (points i.grid) (pos 0)) samples pick h t)
effect_of (pluck_call g c w a) t = pluck_effect table (pluck_refusal g (length t.older) (length t.newer) c w a) g c w a t
effect_of (pluck_with_call g c w a lent) t =
    pluck_effect lent (pluck_with_refusal g (length t.older) (length t.newer) c w a lent) g c w a t

-- what every effect keeps, a list of calls keeps
pub list_keeps : (P : State → Type 0) → ((t t' : State) → Effect t t' → P t → P t') → (ks : List Call) (t : State) → P t
    → P (calls ks t).state
unfolding calls
list_keeps P kept [] t p = p
list_keeps P kept (k ∷ ks) t p = list_keeps P kept ks (after_call k t) (kept t (after_call k t) (effect_of k t) p)

-- what holds of every call that a list reaches holds of each call of it
pub each_call : (R : State → Type 0) (P : State → Call → Outcome → Type 0) → ((k : Call) (t : State) → R t → R (after_call k t))
    → ((k : Call) (t : State) → R t → P t k (called k t).outcome) → (ks : List Call) (t : State) → R t → EachCall P ks t
unfolding EachCall
each_call R P kept here [] t r = tt
each_call R P kept here (k ∷ ks) t r = (here k t r, each_call R P kept here ks (after_call k t) (kept k t r))
