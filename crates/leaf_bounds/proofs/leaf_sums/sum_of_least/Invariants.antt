use Rattle.std.specs.Prelude.{◌≤◌, ◌*◌, Some}
use Rattle.plan_model.specs.Proofs.{weights_value}
use Rattle.leaf_bounds.specs.Cases.{Case}
use Rattle.leaf_bounds.specs.CaseRooms.{IsCaseOf}
use Rattle.leaf_bounds.specs.LeafCosts.{LEAF_COST_MOST}
use Rattle.leaf_bounds.specs.LeafSlots.{IsSumOfLeast}
use Rattle.leaf_bounds.proofs.leaf_sums.sum_of_least.Given as goal

abbrev pub invariant-loop-place : goal.invariant-loop-place
invariant-loop-place l = record {
  sum : (c : Case) → IsCaseOf l.case c → IsSumOfLeast l.basis c (weights_value l.weights) l.place (Some l.sum);
  few : l.sum ≤ l.place * LEAF_COST_MOST;
}
