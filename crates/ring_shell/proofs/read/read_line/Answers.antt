-- Each read goes on where the last ended; a line feed in the last ends the line.
use Rattle.std.proofs.Common.{rules, sym}
use Rattle.ring_shell.proofs.ReadingLaws.{consumed_on, found_line}
use Rattle.ring_shell.proofs.read.read_line.Goals as goal

pub returns-then-has_line_feed-clause-line : goal.returns-then-has_line_feed-clause-line
returns-then-has_line_feed-clause-line g c =
    let before = c.loop-n.invariant in
    found_line _ _ _ c.loop-n.n c.in_ok-came.came _ c.in_ok-came.ensures.in_bounds (search rules)
    (consumed_on _ _ _ c.loop-n.n c.in_ok-came.came _ _ before.read c.in_ok-came.ensures.earlier c.in_ok-came.ensures.read)
    (sym c.if-has_line_feed.ensures)

pub loop-n-preserved : goal.loop-n-preserved
loop-n-preserved g c = record {
  within = search rules;
  long = search rules;
  read = consumed_on _ _ _ c.loop-n.n c.in_ok-came.came _ _ c.loop-n.invariant.read c.in_ok-came.ensures.earlier c.in_ok-came.ensures.read;
}
