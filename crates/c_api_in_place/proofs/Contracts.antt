-- What a C program learns from the promise of `buvcsolta_block_in_place` is what the claim about a program asks of its calls:
-- a call was made and kept, with these arguments and slices, and C got its counts of steps and of inexact points
-- and its refusal's number.
use mathlib.Core.Path.{◌≡◌, ap}
use contract.Lifetimes.{Lfts}
use borrow.Fn.Kinds.{ended_of}
use borrow.Fn.World.{ArgsD, ResD}
use denote.Triple.Clauses.{AtExit}
use Rattle.types.specs.declared.Instrument.{Instrument}
use Rattle.std.specs.Prelude.{Option}
use Rattle.types.specs.declared.Hit.{Hit}
use Rattle.types.specs.Numbers.{number_of}
use Rattle.scheme.specs.Calls as Calls
use Rattle.scheme.specs.Book.{in_place_call, in_place_outcome, leaves, left_by_in_place}
use Rattle.scheme.specs.Program.{Made, Kept}
use Rattle.packing.specs.Packing.{instrument_of, hit_of}
use Rattle.c_api_in_place.specs.Exports.{InPlaceLeft}
use Rattle.c_api_in_place.specs.contracts.buvcsolta_block_in_place as block
use Rattle.c_api_in_place.proofs.buvcsolta_block_in_place.Kinds as block-kinds
use Rattle.c_api_in_place.proofs.buvcsolta_block_in_place.Reads as block_reads

-- kind, columns, rows, q, m, s, older, newer, samples, pick-up, hit, point, force, steps, inexact
module _ (κs : Lfts 5) (a : ArgsD block.signature κs) (r : ResD block.signature κs)
    (s : AtExit (ended_of 5 block-kinds.ps block-kinds.r) κs) (learnt : block_reads.Learnt κs a r s) where
  abbrev instrument : Instrument
  instrument = let c = a.1.1.1 in instrument_of a.0 a.1.0 a.1.1.0 c.0 c.1.0 c.1.1.0

  abbrev hit : Option Hit
  hit = let h = a.1.1.1.1.1.1.1.1.1.1 in hit_of h.0 h.1.0 h.1.1.0

  abbrev done : Calls.AfterInPlace
  done =
      let lent = a.1.1.1.1.1.1 in
      Calls.block_in_place instrument lent.0.now lent.1.0.now lent.1.1.0.now lent.1.1.1.0 hit

  abbrev in_place_made : Made
  in_place_made =
      let lent = a.1.1.1.1.1.1 in
      let left = s.1.1.1.1.1.1 in
      record {
        call = in_place_call instrument lent.1.1.0.now lent.1.1.1.0 hit;
        left = record { outcome = in_place_outcome done.answer left.1.1.0.now; older = left.0.now; newer = left.1.0.now };
      }

  pub in_place_kept : Kept a.1.1.1.1.1.1.0.now a.1.1.1.1.1.1.1.0.now in_place_made
  unfolding leaves
  in_place_kept = ap (λ (x : InPlaceLeft). left_by_in_place (Calls.in_place_left done.answer x.older x.newer x.samples)) learnt

  pub in_place_steps : s.1.1.1.1.1.1.1.1.1.1.1.1.1.0.now ≡ done.answer.steps
  in_place_steps = ap (λ (x : InPlaceLeft). x.steps) learnt

  pub in_place_inexact : s.1.1.1.1.1.1.1.1.1.1.1.1.1.1.0.now ≡ done.answer.inexact
  in_place_inexact = ap (λ (x : InPlaceLeft). x.inexact) learnt

  pub in_place_refusal : r ≡ number_of done.answer.outcome
  in_place_refusal = ap (λ (x : InPlaceLeft). x.refusal) learnt
