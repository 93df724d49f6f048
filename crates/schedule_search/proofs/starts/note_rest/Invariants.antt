use Rattle.std.proofs.Common.{◌≡◌, ◌≤◌, ◌^◌, take, vec_capacity}
use Rattle.schedule_search.specs.Noted.{HasNoted}
use Rattle.schedule_search.specs.OrderCycles.{HasPlaced}
use Rattle.schedule_search.proofs.starts.note_rest.Given as goal

abbrev pub invariant-loop-place : goal.invariant-loop-place
invariant-loop-place g l = record {
  noted : HasNoted l.table (take l.place l.order) l.starts.items;
  placed : HasPlaced l.table (take l.place l.order) l.last_end;
  small : l.last_end ≤ 10 ^ 18;
  job : l.table.job ≡ l.initial.table.job;
  room : vec_capacity l.starts ≡ vec_capacity l.initial.starts;
}
