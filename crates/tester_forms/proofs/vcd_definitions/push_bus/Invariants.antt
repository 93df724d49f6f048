use Rattle.std.proofs.Common.{◌≡◌, ◌+◌, ◌-◌, ◌*◌, ◌++◌}
use Rattle.std.specs.List.{flat_map, range_with_len}
use Rattle.tester_forms.specs.Dumps.{variable_lines}
use Rattle.tester_forms.specs.Variables.{wire_variables}
use Rattle.tester_forms.proofs.vcd_definitions.push_bus.Given as goal

abbrev pub invariant-loop-wire : goal.invariant-loop-wire
invariant-loop-wire l =
    l.text.items ++ variable_lines (2 * l.wire) (flat_map wire_variables (range_with_len l.wire (l.first + l.width - l.wire)))
    ≡ l.initial.text.items ++ variable_lines (2 * l.first) (flat_map wire_variables (range_with_len l.first l.width))
