use Rattle.std.proofs.Common.{arith}
use Rattle.leaf_bounds.proofs.Trails.{no_gap_more, gap_at}
use Rattle.leaf_bounds.proofs.widths.any_without_width.Goals as goal

pub loop-rank-preserved : goal.loop-rank-preserved
loop-rank-preserved c = record {
  fine = no_gap_more c.args.widths.now.intervals.items c.loop-rank.rank c.interval_at-interval.ensures (c.has_no_width.ensures.no c.if-has_no_width.false) c.loop-rank.invariant.fine;
}

pub returns-then-has_no_width-clause-yes : goal.returns-then-has_no_width-clause-yes
returns-then-has_no_width-clause-yes c = λ t.
    gap_at c.args.widths.now.intervals.items c.loop-rank.rank (omega (arith, c.loop-rank-test.true, c.known_ranks-count.ensures)) c.interval_at-interval.ensures (c.has_no_width.ensures.yes c.if-has_no_width.true)

pub returns-clause-no : goal.returns-clause-no
returns-clause-no c = λ f k less. c.loop-rank.invariant.fine k (omega (arith, less, c.loop-rank-test.false, c.known_ranks-count.ensures))
