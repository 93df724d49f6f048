use Rattle.std.proofs.Common.{◌≡◌, ◌+◌, ◌<◌, ◌≤◌, ◌^◌, ℕ, slice_index}
use Rattle.plan_model.specs.Proofs.{pricing_value}
use Rattle.leaf_bounds.specs.Cases.{Case}
use Rattle.leaf_bounds.specs.CaseRooms.{IsCaseOf}
use Rattle.leaf_bounds.specs.PackBuses.{AreKept, IsBusesRoom, bus_most}
use Rattle.leaf_bounds.proofs.pack_buses.note_worths.Given as goal

abbrev pub invariant-loop-more : goal.invariant-loop-more
invariant-loop-more l = record {
  room : IsBusesRoom l.basis (pricing_value l.pricing) l.room;
  kept : AreKept l.basis l.case (pricing_value l.pricing) l.room.kept;
  rank : l.room.kept.rank ≡ l.least.rank;
  worths : (k : Case) → IsCaseOf l.case k → (d : ℕ) → d < l.more → slice_index l.room.worth.items d ≡ bus_most l.basis k (pricing_value l.pricing) l.least.rank (l.least.width + d);
  small : (d : ℕ) → d < l.more → slice_index l.room.worth.items d ≤ 10 ^ 18;
  wires : l.room.wires ≡ l.initial.room.wires;
  work : l.room.work ≡ l.initial.room.work;
  places : l.room.bus.places ≡ l.initial.room.bus.places;
}
