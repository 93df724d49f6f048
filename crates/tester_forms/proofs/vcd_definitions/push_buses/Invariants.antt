use Rattle.std.proofs.Common.{◌≡◌, ◌+◌, ◌*◌, ◌++◌, drop, map, sum}
use Rattle.plan_model.specs.declared.Bus.{Bus}
use Rattle.plan_model.specs.Views.{bus_value}
use Rattle.tester_forms.specs.Dumps.{scope_lines}
use Rattle.tester_forms.specs.Variables.{bus_scopes}
use Rattle.tester_forms.proofs.vcd_definitions.push_buses.Given as goal

abbrev pub invariant-loop-place : goal.invariant-loop-place
invariant-loop-place l = record {
  lines : l.text.items ++ scope_lines (2 * l.first) (bus_scopes l.place l.first (map bus_value (drop l.place l.buses))) ≡ l.initial.text.items ++ scope_lines 0 (bus_scopes 0 0 (map bus_value l.buses));
  wires : l.first + sum (map (λ (b : Bus). b.width) (drop l.place l.buses)) ≡ sum (map (λ (b : Bus). b.width) l.buses);
}
