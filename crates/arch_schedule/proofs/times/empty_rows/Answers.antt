use Rattle.arch_schedule.proofs.Listing.{long_more, all_more}
use Rattle.arch_schedule.specs.Times.{IsRow}
use Rattle.arch_schedule.proofs.times.empty_rows.Goals as goal

pub loop-module-preserved : goal.loop-module-preserved
loop-module-preserved c = record {
  long = long_more c.push.new.to.items c.loop-module.rows.items _ c.loop-module._module c.in_ok-push.ensures.ok c.loop-module.invariant.long;
  rows = all_more (IsRow c.args.wires) c.push.new.to.items c.loop-module.rows.items _ c.in_ok-push.ensures.ok c.loop-module.invariant.rows c.in_ok-row.ensures;
}
