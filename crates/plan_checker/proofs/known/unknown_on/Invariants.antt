use Rattle.std.proofs.Common.{take, flat_map, Contains}
use Rattle.plan_model.specs.declared.Bus.{Bus}
use Rattle.soc_model.specs.Chips.{soc_value}
use Rattle.plan_checker.specs.Broken.{EachOf}
use Rattle.plan_checker.proofs.known.unknown_on.Given as goal

abbrev pub invariant-loop-bus : goal.invariant-loop-bus
invariant-loop-bus l = EachOf (Contains (soc_value l.soc).keys) (flat_map (λ (b : Bus). b.modules.items) (take l.bus-index l.buses))
