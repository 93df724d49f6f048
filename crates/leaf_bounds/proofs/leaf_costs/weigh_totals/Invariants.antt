use Rattle.std.proofs.Common.{◌≡◌, vec_capacity}
use Rattle.leaf_bounds.specs.LeafCosts.{IsMade, by_places}
use Rattle.leaf_bounds.proofs.leaf_costs.weigh_totals.Given as goal

abbrev pub invariant-loop-list : goal.invariant-loop-list
invariant-loop-list l = record {
  made : IsMade l.basis (by_places l.initial.room.totals.items l.list) l.room;
  totals : l.room.totals ≡ l.initial.room.totals;
  beside : vec_capacity l.room.beside ≡ vec_capacity l.initial.room.beside;
  power : vec_capacity l.room.power ≡ vec_capacity l.initial.room.power;
}
