use Rattle.std.proofs.Common.{◌≡◌, ◌≤◌, drop}
use Rattle.plan_model.specs.Proofs.{CaseTree, nodes_of}
use Rattle.bus_proofs.specs.Bounds.{all_cases}
use Rattle.leaf_bounds.specs.CaseRooms.{IsFurther}
use Rattle.leaf_bounds.specs.Bases.{chip_of, limits_of, proof_of}
use Rattle.bus_proofs.specs.Walks.{FitsLeaves, GoesOn, IsRoomFor}
use Rattle.bus_proofs.proofs.WalkSteps.{AreEnoughBefore, work_before}
use Rattle.bus_proofs.proofs.walk.check_nodes.Given as goal

abbrev pub invariant-loop-node : goal.invariant-loop-node
invariant-loop-node l = record {
  room : IsRoomFor l.basis l.case;
  leaves : FitsLeaves l.basis l.leaf;
  few : l.depth ≤ l.node;
  further : IsFurther l.initial.case l.case;
  goes : (t : CaseTree) → nodes_of t ≡ (proof_of l.basis).nodes →
      GoesOn l.basis l.initial.case l.stack l.depth l.case (drop l.node (all_cases (chip_of l.basis) (limits_of l.basis) t));
  enough : (t : CaseTree) → nodes_of t ≡ (proof_of l.basis).nodes → AreEnoughBefore l.basis (all_cases (chip_of l.basis) (limits_of l.basis) t) l.node;
  work : (t : CaseTree) → nodes_of t ≡ (proof_of l.basis).nodes → l.leaf.pack.work ≡ work_before l.basis (all_cases (chip_of l.basis) (limits_of l.basis) t) l.node;
}
