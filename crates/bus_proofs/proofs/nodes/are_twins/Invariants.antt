use Rattle.std.proofs.Common.{ℕ, ◌<◌, slice_index}
use Rattle.bus_proofs.specs.Cases.{AreTwins}
use Rattle.leaf_bounds.specs.Cases.{Case}
use Rattle.leaf_bounds.specs.CaseRooms.{IsCaseOf}
use Rattle.leaf_bounds.specs.Bases.{chip_of}
use Rattle.bus_proofs.proofs.nodes.are_twins.Given as goal

abbrev pub invariant-loop-at : goal.invariant-loop-at
invariant-loop-at l = (c : Case) → IsCaseOf l.case c → (k : ℕ) → k < l.at → AreTwins (chip_of l.basis) c l.rank (slice_index l.twins k)
