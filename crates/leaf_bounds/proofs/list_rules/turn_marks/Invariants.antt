use Rattle.std.proofs.Common.{take}
use Rattle.leaf_bounds.specs.Lists.{IsTurn}
use Rattle.leaf_bounds.specs.ListRules.{AreTurnMarks, chip_ruled, limits_ruled}
use Rattle.plan_model.proofs.FirstBreaches.{EachTo}
use Rattle.leaf_bounds.proofs.list_rules.turn_marks.Given as goal

abbrev pub invariant-loop-id : goal.invariant-loop-id
invariant-loop-id l = record {
  marks : AreTurnMarks l.rules (take l.id-index l.tests) l.marks;
  each : EachTo (IsTurn (chip_ruled l.rules) (limits_ruled l.rules)) l.tests l.id-index;
}
