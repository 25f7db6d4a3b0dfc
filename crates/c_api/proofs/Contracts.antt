-- What a C program learns from the promises of `buvcsolta_block`, `buvcsolta_pluck` and `buvcsolta_pluck_with` is what the claim about a
-- program asks of its calls: a call was made and kept, with these arguments and slices, and C got its counts of steps and of inexact points
-- and its refusal's number.
use mathlib.Core.Path.{◌≡◌, ap}
use contract.Lifetimes.{Lfts}
use borrow.Fn.Kinds.{ended_of}
use borrow.Fn.World.{ArgsD, ResD}
use denote.Triple.Clauses.{AtExit}
use Rattle.types.specs.declared.Grid.{Grid}
use Rattle.types.specs.declared.Instrument.{Instrument}
use Rattle.std.specs.Prelude.{Option}
use Rattle.types.specs.declared.Hit.{Hit}
use Rattle.types.specs.Numbers.{number_of}
use Rattle.scheme.specs.Calls as Calls
use Rattle.scheme.specs.Book.{block_call, pluck_call, pluck_with_call, block_outcome, pluck_outcome, leaves, left_by_block, left_by_pluck}
use Rattle.scheme.specs.Program.{Made, Kept}
use Rattle.packing.specs.Packing.{grid_of, instrument_of, hit_of}
use Rattle.c_api.specs.Exports.{BlockLeft, PluckLeft}
use Rattle.c_api.specs.contracts.buvcsolta_block as block
use Rattle.c_api.proofs.buvcsolta_block.Kinds as block-kinds
use Rattle.c_api.proofs.buvcsolta_block.Reads as block_reads
use Rattle.c_api.specs.contracts.buvcsolta_pluck as pluck
use Rattle.c_api.proofs.buvcsolta_pluck.Kinds as pluck-kinds
use Rattle.c_api.proofs.buvcsolta_pluck.Reads as pluck-reads
use Rattle.c_api.specs.contracts.buvcsolta_pluck_with as with
use Rattle.c_api.proofs.buvcsolta_pluck_with.Kinds as with-kinds
use Rattle.c_api.proofs.buvcsolta_pluck_with.Reads as with-reads

-- kind, columns, rows, q, m, s, older, newer, work, samples, pick-up, hit, point, force, steps, inexact
module _ (κs : Lfts 6) (a : ArgsD block.signature κs) (r : ResD block.signature κs)
    (s : AtExit (ended_of 6 block-kinds.ps block-kinds.r) κs) (learnt : block_reads.Learnt κs a r s) where
  abbrev instrument : Instrument
  instrument = let c = a.1.1.1 in instrument_of a.0 a.1.0 a.1.1.0 c.0 c.1.0 c.1.1.0

  abbrev hit : Option Hit
  hit = let h = a.1.1.1.1.1.1.1.1.1.1.1 in hit_of h.0 h.1.0 h.1.1.0

  abbrev done : Calls.AfterBlock
  done =
      let lent = a.1.1.1.1.1.1 in
      Calls.block instrument lent.0.now lent.1.0.now lent.1.1.0.now lent.1.1.1.0.now lent.1.1.1.1.0 hit

  abbrev block_made : Made
  block_made =
      let lent = a.1.1.1.1.1.1 in
      let left = s.1.1.1.1.1.1 in
      record {
        call = block_call instrument lent.1.1.0.now lent.1.1.1.0.now lent.1.1.1.1.0 hit;
        left = record {
          outcome = block_outcome done.answer left.1.1.0.now left.1.1.1.0.now;
          older = left.0.now;
          newer = left.1.0.now;
        };
      }

  pub block-kept : Kept a.1.1.1.1.1.1.0.now a.1.1.1.1.1.1.1.0.now block_made
  unfolding leaves
  block-kept = ap (λ (x : BlockLeft). left_by_block (Calls.block_left done.answer x.older x.newer x.work x.samples)) learnt

  pub block-steps : s.1.1.1.1.1.1.1.1.1.1.1.1.1.1.0.now ≡ done.answer.steps
  block-steps = ap (λ (x : BlockLeft). x.steps) learnt

  pub block_inexact : s.1.1.1.1.1.1.1.1.1.1.1.1.1.1.1.0.now ≡ done.answer.inexact
  block_inexact = ap (λ (x : BlockLeft). x.inexact) learnt

  pub block-refusal : r ≡ number_of done.answer.outcome
  block-refusal = ap (λ (x : BlockLeft). x.refusal) learnt

-- kind, columns, rows, older, newer, centre, half width, height
module _ (κs : Lfts 2) (a : ArgsD pluck.signature κs) (r : ResD pluck.signature κs)
    (s : AtExit (ended_of 2 pluck-kinds.ps pluck-kinds.r) κs) (learnt : pluck-reads.Learnt κs a r s) where
  abbrev grid : Grid
  grid = grid_of a.0 a.1.0 a.1.1.0

  abbrev plucked : Calls.AfterPluck
  plucked =
      let lent = a.1.1.1 in
      Calls.pluck grid lent.0.now lent.1.0.now lent.1.1.0 lent.1.1.1.0 lent.1.1.1.1.0

  abbrev pluck_made : Made
  pluck_made =
      let lent = a.1.1.1 in
      let left = s.1.1.1 in
      record {
        call = pluck_call grid lent.1.1.0 lent.1.1.1.0 lent.1.1.1.1.0;
        left = record { outcome = pluck_outcome plucked.outcome; older = left.0.now; newer = left.1.0.now };
      }

  pub pluck-kept : Kept a.1.1.1.0.now a.1.1.1.1.0.now pluck_made
  unfolding leaves
  pluck-kept = ap (λ (x : PluckLeft). left_by_pluck (Calls.pluck_left plucked.outcome x.older x.newer)) learnt

  pub pluck-refusal : r ≡ number_of plucked.outcome
  pluck-refusal = ap (λ (x : PluckLeft). x.refusal) learnt

-- kind, columns, rows, older, newer, centre, half width, height, table
module _ (κs : Lfts 3) (a : ArgsD with.signature κs) (r : ResD with.signature κs)
    (s : AtExit (ended_of 3 with-kinds.ps with-kinds.r) κs) (learnt : with-reads.Learnt κs a r s) where
  abbrev plucked_with : Calls.AfterPluck
  plucked_with =
      let lent = a.1.1.1 in
      let shape = lent.1.1 in
      Calls.pluck_with (grid_of a.0 a.1.0 a.1.1.0) lent.0.now lent.1.0.now shape.0 shape.1.0 shape.1.1.0
      shape.1.1.1.0.now

  abbrev with_made : Made
  with_made =
      let shape = a.1.1.1.1.1 in
      let left = s.1.1.1 in
      record {
        call = pluck_with_call (grid_of a.0 a.1.0 a.1.1.0) shape.0 shape.1.0 shape.1.1.0 shape.1.1.1.0.now;
        left = record { outcome = pluck_outcome plucked_with.outcome; older = left.0.now; newer = left.1.0.now };
      }

  pub with_kept : Kept a.1.1.1.0.now a.1.1.1.1.0.now with_made
  unfolding leaves
  with_kept = ap (λ (x : PluckLeft). left_by_pluck (Calls.pluck_left plucked_with.outcome x.older x.newer)) learnt

  pub with_refusal : r ≡ number_of plucked_with.outcome
  with_refusal = ap (λ (x : PluckLeft). x.refusal) learnt
