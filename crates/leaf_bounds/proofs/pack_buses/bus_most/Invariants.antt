use Rattle.std.proofs.Common.{◌≡◌, ◌<◌, ℕ, slice_index}
use Rattle.plan_model.specs.Proofs.{pricing_value}
use Rattle.leaf_bounds.specs.Cases.{Case}
use Rattle.leaf_bounds.specs.CaseRooms.{IsCaseOf}
use Rattle.leaf_bounds.specs.PackBuses.{IsBusRoom, most_of}
use Rattle.leaf_bounds.proofs.pack_buses.bus_most.Given as goal

abbrev pub invariant-loop-item : goal.invariant-loop-item
invariant-loop-item l = record {
  room : IsBusRoom l.basis (pricing_value l.pricing) l.room;
  places : l.room.places ≡ l.initial.room.places;
  row : (k : Case) → IsCaseOf l.case k → (x : ℕ) → x < l.end → slice_index l.room.cells.items x ≡ most_of l.basis k (pricing_value l.pricing) l.bus.rank l.bus.width l.item x;
}
