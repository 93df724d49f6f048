use Rattle.std.proofs.Common.{◌≡◌, ◌+◌, ◌-◌, ◌*◌, ◌++◌, ap, arith, codes, decimal}
use Rattle.std.specs.List.{flat_map, range_with_len}
use Rattle.tester_forms.specs.Dumps.{variable_lines}
use Rattle.tester_forms.specs.Variables.{wire_variables}
use Rattle.tester_forms.proofs.Listed.{wire_more, bus_listed}
use Rattle.tester_forms.proofs.vcd_definitions.push_bus.Goals as goal
use Rattle.common_lemmas.proofs.Options.{on_ok}

pub loop-wire-init : goal.loop-wire-init
loop-wire-init c =
    let e : c.args.first + c.args.width - c.args.first ≡ c.args.width = omega arith in
    ap (λ k. c.push_scope.new.text.items ++ variable_lines (2 * c.args.first) (flat_map wire_variables (range_with_len c.args.first k))) e

pub loop-wire-preserved : goal.loop-wire-preserved
loop-wire-preserved c =
    wire_more c.loop-wire.text.items c.push_wire.new.text.items (c.push_scope.new.text.items ++ variable_lines (2 * c.args.first) (flat_map wire_variables (range_with_len c.args.first c.args.width))) c.loop-wire.wire (c.args.first + c.args.width) (omega (arith, c.loop-wire-test.true)) c.loop-wire.invariant c.in_ok-push_wire.ensures

pub returns : goal.returns
returns c =
    on_ok c.extend.result
    (λ e. bus_listed c.args.text.now.items c.push_scope.new.text.items c.loop-wire.text.items c.extend.new.to.items (codes "bus_" ++ decimal c.args.place) c.args.first c.args.width c.loop-wire.wire (omega (arith, c.loop-wire-test.false)) c.in_ok-push_scope.ensures c.loop-wire.invariant e)
    c.extend.ensures.ok
