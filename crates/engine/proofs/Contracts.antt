-- What a caller learns from the contracts of `block`, `block_in_place`, `pluck` and `pluck_with` is what the claim about a program asks of
-- them.
use mathlib.Core.Path.{ap}
use contract.Lifetimes.{Lfts}
use borrow.Fn.Kinds.{ended_of}
use borrow.Fn.World.{ArgsD, ResD}
use denote.Triple.Clauses.{AtExit}
use Rattle.scheme.specs.Book.{block_call, in_place_call, pluck_call, pluck_with_call, block_outcome, in_place_outcome, pluck_outcome}
use Rattle.scheme.specs.Book.{leaves}
use Rattle.scheme.specs.Book.{left_by_block, left_by_in_place, left_by_pluck}
use Rattle.scheme.specs.Program.{Made, Kept}
use Rattle.block.specs.contracts.block as block
use Rattle.block.proofs.block.Kinds as block-kinds
use Rattle.block.proofs.block.Reads as block_reads
use Rattle.block.specs.contracts.block_in_place as in_place
use Rattle.block.proofs.block_in_place.Kinds as in-place-kinds
use Rattle.block.proofs.block_in_place.Reads as in_place_reads
use Rattle.pluck.specs.contracts.pluck as pluck
use Rattle.pluck.proofs.pluck.Kinds as pluck-kinds
use Rattle.pluck.proofs.pluck.Reads as pluck-reads
use Rattle.pluck.specs.contracts.pluck_with as with
use Rattle.pluck.proofs.pluck_with.Kinds as with-kinds
use Rattle.pluck.proofs.pluck_with.Reads as with-reads

-- instrument, older, newer, work, samples, pick-up, hit
module _ (κs : Lfts 4) (a : ArgsD block.signature κs) (r : ResD block.signature κs)
    (s : AtExit (ended_of 4 block-kinds.ps block-kinds.r) κs) (learnt : block_reads.Learnt κs a r s) where
  abbrev block_made : Made
  block_made =
      let lent = a.1.1.1 in
      let left = s.1 in
      record {
        call = block_call a.0 lent.0.now lent.1.0.now lent.1.1.0 lent.1.1.1.0;
        left = record {
          outcome = block_outcome r left.1.1.0.now left.1.1.1.0.now;
          older = left.0.now;
          newer = left.1.0.now;
        };
      }

  pub block-kept : Kept a.1.0.now a.1.1.0.now block_made
  unfolding leaves
  block-kept = ap left_by_block learnt

-- instrument, older, newer, samples, pick-up, hit
module _ (κs : Lfts 3) (a : ArgsD in_place.signature κs) (r : ResD in_place.signature κs)
    (s : AtExit (ended_of 3 in-place-kinds.ps in-place-kinds.r) κs) (learnt : in_place_reads.Learnt κs a r s) where
  abbrev in_place_made : Made
  in_place_made =
      let lent = a.1.1.1 in
      let left = s.1 in
      record {
        call = in_place_call a.0 lent.0.now lent.1.0 lent.1.1.0;
        left = record { outcome = in_place_outcome r left.1.1.0.now; older = left.0.now; newer = left.1.0.now };
      }

  pub in_place_kept : Kept a.1.0.now a.1.1.0.now in_place_made
  unfolding leaves
  in_place_kept = ap left_by_in_place learnt

-- grid, older, newer, centre, half width, height
module _ (κs : Lfts 2) (a : ArgsD pluck.signature κs) (r : ResD pluck.signature κs)
    (s : AtExit (ended_of 2 pluck-kinds.ps pluck-kinds.r) κs) (learnt : pluck-reads.Learnt κs a r s) where
  abbrev pluck_made : Made
  pluck_made =
      let shape = a.1.1.1 in
      record {
        call = pluck_call a.0 shape.0 shape.1.0 shape.1.1.0;
        left = record { outcome = pluck_outcome r; older = s.1.0.now; newer = s.1.1.0.now };
      }

  pub pluck-kept : Kept a.1.0.now a.1.1.0.now pluck_made
  unfolding leaves
  pluck-kept = ap left_by_pluck learnt

-- grid, older, newer, centre, half width, height, table
module _ (κs : Lfts 3) (a : ArgsD with.signature κs) (r : ResD with.signature κs)
    (s : AtExit (ended_of 3 with-kinds.ps with-kinds.r) κs) (learnt : with-reads.Learnt κs a r s) where
  abbrev with_made : Made
  with_made =
      let shape = a.1.1.1 in
      record {
        call = pluck_with_call a.0 shape.0 shape.1.0 shape.1.1.0 shape.1.1.1.0.now;
        left = record { outcome = pluck_outcome r; older = s.1.0.now; newer = s.1.1.0.now };
      }

  pub with_kept : Kept a.1.0.now a.1.1.0.now with_made
  unfolding leaves
  with_kept = ap left_by_pluck learnt
