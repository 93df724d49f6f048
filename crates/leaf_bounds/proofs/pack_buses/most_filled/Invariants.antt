use Rattle.std.proofs.Common.{◌≡◌, ◌+◌, ◌*◌, ◌≤◌, ◌^◌, ℕ, slice_index}
use Rattle.plan_model.specs.Proofs.{pricing_value}
use Rattle.leaf_bounds.specs.Bases.{limits_of}
use Rattle.leaf_bounds.specs.Cases.{Case, spare}
use Rattle.leaf_bounds.specs.CaseRooms.{IsCaseOf}
use Rattle.leaf_bounds.specs.PackBuses.{AreKept, IsBusesRoom, IsWiresRow}
use Rattle.leaf_bounds.proofs.pack_buses.most_filled.Given as goal

abbrev pub invariant-loop-rank : goal.invariant-loop-rank
invariant-loop-rank l = record {
  room : IsBusesRoom l.basis (pricing_value l.pricing) l.room;
  kept : AreKept l.basis l.case (pricing_value l.pricing) l.room.kept;
  row : (k : Case) → IsCaseOf l.case k → IsWiresRow l.basis k (pricing_value l.pricing) l.rank l.room.wires.items;
  small : (x : ℕ) → x ≤ spare (limits_of l.basis).wires l.case.widths.intervals.items → slice_index l.room.wires.items x ≤ (300 + l.rank) * 10 ^ 18;
  work : l.room.work ≡ l.initial.room.work;
  places : l.room.bus.places ≡ l.initial.room.bus.places;
}
