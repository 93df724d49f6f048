use Rattle.busy_times.proofs.timelines.clear_times.Goals as goal

pub returns : goal.returns
returns c = record {
  buses = c.clear_lines.ensures;
  modules = c.clear_lines-2.ensures;
  children = c.clear_lines-3.ensures;
  latest = c.clear_latest.ensures.long;
  before = c.clear_latest.ensures.before;
  room = c.clear_latest.ensures.room;
}
