use Rattle.std.proofs.Common.{take}
use Rattle.leaf_bounds.specs.Lists.{IsCrowdItem}
use Rattle.leaf_bounds.specs.ListRules.{AreCrowdMarks, chip_ruled}
use Rattle.plan_model.proofs.FirstBreaches.{EachTo}
use Rattle.leaf_bounds.proofs.list_rules.crowd_marks.Given as goal

abbrev pub invariant-loop-id : goal.invariant-loop-id
invariant-loop-id l = record {
  marks : AreCrowdMarks l.rules (take l.id-index l.tests) l.marks;
  each : EachTo (IsCrowdItem (chip_ruled l.rules)) l.tests l.id-index;
}
