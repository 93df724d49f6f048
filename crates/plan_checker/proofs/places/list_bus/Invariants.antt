use Rattle.std.proofs.Common.{take}
use Rattle.soc_model.specs.Chips.{soc_value, numbers}
use Rattle.plan_checker.specs.Marks.{IsUnlisted, AreMarked}
use Rattle.plan_model.proofs.FirstBreaches.{EachTo}
use Rattle.plan_checker.proofs.places.list_bus.Given as goal

abbrev pub invariant-loop-number : goal.invariant-loop-number
invariant-loop-number l = record {
  each : EachTo (IsUnlisted (numbers (soc_value l.soc)) l.count l.fn.marks) l.listed l.number-index;
  marked : AreMarked (numbers (soc_value l.soc)) l.fn.marks l.bus (take l.number-index l.listed) l.marks;
}
