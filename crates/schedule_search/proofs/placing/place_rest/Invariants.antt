use Rattle.std.proofs.Common.{◌≡◌, ◌≤◌, ◌^◌, ◌++◌, List, take}
use Rattle.resource_table.specs.declared.Placement.{Placement}
use Rattle.schedule_search.specs.OrderCycles.{HasPlaced}
use Rattle.schedule_search.proofs.placing.place_rest.Given as goal

abbrev pub invariant-loop-place : goal.invariant-loop-place
invariant-loop-place g l = record {
  placed : HasPlaced l.table (take l.place l.order) l.last_end;
  small : l.last_end ≤ 10 ^ 18;
  front : (rest : List Placement) × (l.table.placed ≡ l.initial.table.placed ++ rest);
  job : l.table.job ≡ l.initial.table.job;
}
