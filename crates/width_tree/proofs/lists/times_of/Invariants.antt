use Rattle.std.proofs.Common.{◌≡◌, ◌≤◌, ◌*◌, ◌^◌, take, sum_by}
use Rattle.width_tree.specs.Cases.{tam_time_of}
use Rattle.width_tree.specs.Tables.{chip_of}
use Rattle.width_tree.proofs.lists.times_of.Given as goal

abbrev pub invariant-loop-number : goal.invariant-loop-number
invariant-loop-number l = record {
  sum_is : l.sum ≡ sum_by (tam_time_of (chip_of l.table) l.width) (take l.number-index l.modules);
  few : l.sum ≤ 10 ^ 18 * l.number-index;
}
