use Rattle.std.proofs.Common.{length}
use Rattle.arch_schedule.proofs.Listing.{long_more, all_more}
use Rattle.arch_schedule.specs.Times.{IsColumn}
use Rattle.arch_schedule.proofs.times.columns_of.Goals as goal

pub loop-width-preserved : goal.loop-width-preserved
loop-width-preserved c = record {
  long = long_more c.push.new.to.items c.loop-width.columns.items _ c.loop-width.width c.in_ok-push.ensures.ok c.loop-width.invariant.long;
  columns = all_more (IsColumn (length c.args.problem.now.modules.items)) c.push.new.to.items c.loop-width.columns.items _ c.in_ok-push.ensures.ok c.loop-width.invariant.columns c.in_ok-column.ensures;
}
