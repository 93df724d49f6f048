use Rattle.std.proofs.Common.{map, take, flat_map}
use Rattle.plan_model.specs.Plans.{BusValue}
use Rattle.soc_model.specs.Chips.{soc_value, numbers}
use Rattle.plan_model.specs.Views.{bus_value}
use Rattle.plan_model.specs.Rules.{Each, IsNew}
use Rattle.plan_checker.specs.Marks.{AreMarkedTo}
use Rattle.plan_checker.proofs.places.listed_twice.Given as goal

abbrev pub invariant-loop-place : goal.invariant-loop-place
invariant-loop-place l = record {
  new : Each IsNew (flat_map (λ (b : BusValue). b.modules) (take l.place (map bus_value l.buses)));
  marked : AreMarkedTo (numbers (soc_value l.soc)) l.count (take l.place (map bus_value l.buses)) l.marks;
}
