use Rattle.schedule_search.proofs.Estimates.{now_least, now_most}
use Rattle.plan_commands.proofs.planning.fn.planned.new.Goals as goal

pub returns : goal.returns
returns c = record {
  least = now_least c.args.table.now c.args.test c.end_now.result c.end_now.ensures.end;
  most = now_most c.args.table.now c.args.test c.end_now.result c.end_now.ensures.end;
}
