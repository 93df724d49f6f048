use Rattle.planner.proofs.Scheduled.{found_inside}
use Rattle.planner.proofs.schedule.found_schedule.Goals as goal

pub starts_of-requires-clause-inside : goal.starts_of-requires-clause-inside
starts_of-requires-clause-inside g c = found_inside (rw c.requires.job at c.run-found.ensures.found)

pub returns : goal.returns
returns g c = record {
  order = c.run-found.result.order.now;
  starts = c.run-found.result.starts.now;
  complete = c.run-found.result.complete;
  found = rw c.requires.job at c.run-found.ensures.found;
  are = c.in_ok-starts.ensures;
}
