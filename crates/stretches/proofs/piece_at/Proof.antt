-- `piece_at` meets its contract: its end, and its base by the test that the code makes.
use mathlib.Core.Path.{sym}
use mathlib.Core.Bool.{cond}
use lib.IntN.{pos}
use Rattle.stretches.proofs.piece_at.Statement.{statement}
use Rattle.stretches.proofs.piece_at.Tie as tie

piece_end-end-requires : tie.Need-piece_end-end-requires
piece_end-end-requires c κs = tt

returns-then-in_place : tie.Need-returns-then-in_place
returns-then-in_place c =
    let e = c.before in
    let a = e.before.args in
    λ j. record {
      from = a.at;
      to = e.piece_end-end.ensures j;
      force = pos 0;
      base = cond (sym c.if-in_place.true j) a.at 0;
      write = a.write;
    }

returns-else-in_place : tie.Need-returns-else-in_place
returns-else-in_place c =
    let e = c.before in
    let a = e.before.args in
    λ j. record {
      from = a.at;
      to = e.piece_end-end.ensures j;
      force = pos 0;
      base = cond (sym c.if-in_place.false j) a.at 0;
      write = a.write;
    }

pub piece_at_spec : {M : Type 1} → statement M
piece_at_spec = tie.close (tie.spec piece_end-end-requires returns-then-in_place returns-else-in_place)
