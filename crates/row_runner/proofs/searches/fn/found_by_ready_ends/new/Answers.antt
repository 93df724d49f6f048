use Rattle.schedule_search.proofs.Estimates.{ready_least, ready_most}
use Rattle.row_runner.proofs.searches.fn.found_by_ready_ends.new.Goals as goal

pub returns : goal.returns
returns c = record {
  least = ready_least c.args.table.now c.args.test c.ready_end.result c.ready_end.ensures.end;
  most = ready_most c.args.table.now c.args.test c.ready_end.result c.ready_end.ensures.end;
}
