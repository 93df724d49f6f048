use Rattle.std.proofs.Common.{◌∙◌}
use Rattle.width_tree.proofs.check.check_in.Goals as goal

pub check_nodes-requires-clause-table : goal.check_nodes-requires-clause-table
check_nodes-requires-clause-table c = record {
  sound = c.requires.sound;
  some_wire = c.requires.some_wire;
  few_wires = c.requires.few_wires;
  long = c.fill_times.auto.times ∙ c.requires.times;
  times = c.fill_times.ensures;
  own_long = c.fill_own_times.auto.own ∙ c.requires.own;
  own = c.fill_own_times.ensures;
}
