use Rattle.std.proofs.Common.{◌≡◌}
use Rattle.schedule_search.proofs.walk.note_few.Given as goal

abbrev pub invariant-loop-place : goal.invariant-loop-place
invariant-loop-place g l = record {
  same : l.table ≡ l.fn.table;
}
