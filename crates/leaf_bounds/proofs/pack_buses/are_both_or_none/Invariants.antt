use Rattle.std.proofs.Common.{◌≡◌, ◌<◌, ℕ, slice_index}
use Rattle.leaf_bounds.specs.Cases.{Case}
use Rattle.leaf_bounds.specs.CaseRooms.{IsCaseOf}
use Rattle.leaf_bounds.specs.PackLeaves.{may_be}
use Rattle.leaf_bounds.proofs.pack_buses.are_both_or_none.Given as goal

abbrev pub invariant-loop-item : goal.invariant-loop-item
invariant-loop-item l = (k : Case) → IsCaseOf l.case k → (i : ℕ) → i < l.item → may_be k (slice_index l.places i) l.rank ≡ may_be k (slice_index l.places i) l.other
