use Rattle.std.proofs.Common.{◌≡◌, map, take}
use Rattle.std.specs.List.{sum}
use Rattle.plan_model.specs.declared.Bus.{Bus}
use Rattle.live_tests.proofs.wires.all_wires.Given as goal

abbrev pub invariant-loop-bus : goal.invariant-loop-bus
invariant-loop-bus l = l.wires ≡ sum (take l.bus-index (map (λ (b : Bus). b.width) l.plan.buses.items))
