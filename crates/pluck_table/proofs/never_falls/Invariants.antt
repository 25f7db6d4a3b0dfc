-- The flag tells whether the entries passed never fall.
use Rattle.std.specs.Prelude.{◌≡◌}
use lib.ListN.{take}
use Rattle.pluck_table.specs.Loading.{never_falls}
use Rattle.pluck_table.proofs.never_falls.Given as goal

abbrev pub invariant-loop-j : goal.invariant-loop-j
invariant-loop-j l = l.rises ≡ never_falls (take l.j l.table)
