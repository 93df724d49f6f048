use Rattle.std.proofs.Common.{◌≡◌, ◌≤◌, IfSome}
use Rattle.resource_table.specs.Calm.{IsCalm}
use Rattle.resource_table.specs.Schedules.{last_end}
use Rattle.schedule_search.proofs.Lateness.{AreInTimeBelow}
use Rattle.schedule_search.proofs.walk.is_late.Given as goal

abbrev pub invariant-loop-asked : goal.invariant-loop-asked
invariant-loop-asked g l = record {
  same : l.table ≡ l.fn.table;
  below : AreInTimeBelow l.fn.table l.rest l.asked l.by.cycles;
  calm : IfSome l.calm (IsCalm l.fn.table.job l.fn.table.placed l.by.most);
  at_last : IfSome l.calm (λ from. from ≤ last_end l.fn.table.job l.fn.table.placed);
}
