use Rattle.std.proofs.Common.{◌≤◌, List}
use Rattle.leaf_bounds.specs.declared.case.CaseRoom.{CaseRoom}
use Rattle.bus_proofs.specs.Cases.{NodeCase}
use Rattle.leaf_bounds.specs.CaseRooms.{IsFurther}
use Rattle.bus_proofs.specs.Walks.{Awaits, IsRoomFor}
use Rattle.bus_proofs.proofs.walk.next_branch.Given as goal

abbrev pub invariant-loop-depth : goal.invariant-loop-depth
invariant-loop-depth l = record {
  room : IsRoomFor l.basis l.case;
  few : l.depth ≤ l.under_way;
  further : (root : CaseRoom) → IsFurther root l.initial.case → IsFurther root l.case;
  awaits : (root : CaseRoom) (left : List NodeCase) → IsFurther root l.initial.case → Awaits l.basis root l.initial.stack l.under_way l.initial.case left →
      Awaits l.basis root l.stack l.depth l.case left;
}

abbrev pub decreases-loop-depth : goal.decreases-loop-depth
decreases-loop-depth l = l.depth
