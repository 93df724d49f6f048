use Rattle.std.proofs.Common.{◌≡◌, ℕ, ◌+◌, ◌<◌, map, take, length}
use Rattle.std.specs.Prelude.{slice_index}
use Rattle.std.specs.List.{sum}
use Rattle.plan_model.specs.declared.Bus.{Bus}
use Rattle.live_tests.proofs.wires.first_wires.Given as goal

abbrev pub invariant-loop-bus : goal.invariant-loop-bus
invariant-loop-bus l = record {
  last : l.wire ≡ sum (take l.bus-index (map (λ (b : Bus). b.width) l.plan.buses.items));
  long : length l.wires.items ≡ l.bus-index + 1;
  each : (b : ℕ) → b < l.bus-index + 1 → slice_index l.wires.items b ≡ sum (take b (map (λ (b : Bus). b.width) l.plan.buses.items));
}
