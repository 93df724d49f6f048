use Rattle.std.proofs.Common.{◌<◌, ℕ}
use Rattle.plan_model.specs.Proofs.{pricing_value}
use Rattle.leaf_bounds.specs.Bases.{chip_of}
use Rattle.leaf_bounds.specs.Cases.{Case}
use Rattle.leaf_bounds.specs.CaseRooms.{IsCaseOf}
use Rattle.leaf_bounds.specs.PackBuses.{IsLikeItem}
use Rattle.leaf_bounds.specs.PackLeaves.{price_at, priced_place}
use Rattle.leaf_bounds.proofs.pack_buses.is_like_width.Given as goal

abbrev pub invariant-loop-item : goal.invariant-loop-item
invariant-loop-item l = (k : Case) → IsCaseOf l.case k → (i : ℕ) → i < l.item →
    IsLikeItem l.basis k (pricing_value l.pricing) (priced_place (chip_of l.basis) (pricing_value l.pricing) i) (price_at (pricing_value l.pricing) i) l.bus.rank l.bus.width l.bus.rank l.before
