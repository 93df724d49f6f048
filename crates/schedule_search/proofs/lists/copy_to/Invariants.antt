use Rattle.std.proofs.Common.{◌≡◌, take, vec_capacity}
use Rattle.schedule_search.proofs.lists.copy_to.Given as goal

abbrev pub invariant-loop-item : goal.invariant-loop-item
invariant-loop-item l = record {
  items : l.to.items ≡ take l.item-index l.from;
  room : vec_capacity l.to ≡ vec_capacity l.initial.to;
}
