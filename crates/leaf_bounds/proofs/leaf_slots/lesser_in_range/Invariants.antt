use Rattle.std.specs.Prelude.{◌+◌, ◌-◌, ◌≤◌, min, IfSome}
use Rattle.plan_model.specs.Proofs.{WeightsValue}
use Rattle.leaf_bounds.specs.Bases.{chip_of, claim_of}
use Rattle.leaf_bounds.specs.LeafCosts.{IsWeighed, LEAF_COST_MOST}
use Rattle.leaf_bounds.specs.LeafSlots.{IsLesserOf, IsOfRange, costs_at}
use Rattle.leaf_bounds.proofs.leaf_slots.lesser_in_range.Given as goal

abbrev pub invariant-loop-width : goal.invariant-loop-width
invariant-loop-width l = record {
  from : l.range.first ≤ l.width;
  least : (weights : WeightsValue) → IsWeighed l.basis weights l.weighed → IsLesserOf (costs_at l.basis weights l.place) (IsOfRange (chip_of l.basis) (claim_of l.basis) l.place l.range (min l.width (l.range.high + 1))) l.fn.least l.best;
  small : IfSome l.best (λ n. n ≤ LEAF_COST_MOST);
}

abbrev pub decreases-loop-width : goal.decreases-loop-width
decreases-loop-width l = l.range.high + 1 - l.width
