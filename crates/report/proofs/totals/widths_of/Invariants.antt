use Rattle.std.proofs.Common.{◌≡◌, ◌++◌, drop, map}
use Rattle.plan_model.specs.declared.Bus.{Bus}
use Rattle.report.proofs.totals.widths_of.Given as goal

abbrev pub invariant-loop-bus : goal.invariant-loop-bus
invariant-loop-bus l = l.ws.items ++ map (λ (b : Bus). b.width) (drop l.bus-index l.bus-items) ≡ map (λ (b : Bus). b.width) l.bus-items
