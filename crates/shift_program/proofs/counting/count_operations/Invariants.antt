use Rattle.std.proofs.Common.{◌≡◌, ◌+◌, ◌*◌, ◌^◌, ◌≤◌, length, take}
use Rattle.indexmap.specs.IndexSet.{keys, spare}
use Rattle.shift_program.specs.Faults.{captured}
use Rattle.shift_program.specs.Counting.{needed_by, AreCounted}
use Rattle.shift_program.proofs.Counts.{IsClear}
use Rattle.shift_program.proofs.counting.count_operations.Given as goal

abbrev pub invariant-loop-entry : goal.invariant-loop-entry
invariant-loop-entry l = record {
  place : l.place ≡ l.entry-index;
  counted : AreCounted (take l.entry-index l.entries) l.passed;
  seen : keys l.seen ≡ captured (take l.entry-index l.entries);
  clear : IsClear (needed_by l.need) l.entries l.entry-index;
  operations : l.passed.operations ≤ 2 ^ 64 * l.entry-index;
  shifts : l.passed.shifts ≤ 2 ^ 64 * l.entry-index;
  space : length (keys l.fn.seen) + spare l.fn.seen ≤ length (keys l.seen) + spare l.seen;
}
