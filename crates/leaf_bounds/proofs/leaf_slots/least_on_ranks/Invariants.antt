use Rattle.std.specs.Prelude.{◌≤◌, IfSome}
use Rattle.plan_model.specs.Proofs.{weights_value}
use Rattle.leaf_bounds.specs.Cases.{Case}
use Rattle.leaf_bounds.specs.CaseRooms.{IsCaseOf}
use Rattle.leaf_bounds.specs.LeafCosts.{LEAF_COST_MOST}
use Rattle.leaf_bounds.specs.LeafSlots.{AreTried}
use Rattle.leaf_bounds.proofs.leaf_slots.least_on_ranks.Given as goal

abbrev pub invariant-loop-rank : goal.invariant-loop-rank
invariant-loop-rank l = record {
  tried : (c : Case) → IsCaseOf l.case c → AreTried l.basis c (weights_value l.weights) l.weighed l.place l.rank l.tried;
  small : IfSome l.tried.least (λ n. n ≤ LEAF_COST_MOST);
}
