use Rattle.std.proofs.Common.{◌++◌, map, sum, refl, arith}
use Rattle.plan_model.specs.declared.Bus.{Bus}
use Rattle.plan_model.specs.Views.{bus_value}
use Rattle.tester_forms.specs.Dumps.{scope_lines}
use Rattle.tester_forms.specs.Variables.{bus_scopes}
use Rattle.tester_forms.proofs.Listed.{bus_more, width_more, buses_done}
use Rattle.tester_forms.proofs.vcd_definitions.push_buses.Goals as goal

pub loop-place-init : goal.loop-place-init
loop-place-init c = record { lines = refl; wires = omega arith }

pub loop-place-preserved : goal.loop-place-preserved
loop-place-preserved c =
    let buses = c.args.buses.now in
    record {
      lines = bus_more c.loop-place.text.items c.push_bus.new.text.items (c.args.text.now.items ++ scope_lines 0 (bus_scopes 0 0 (map bus_value buses))) c.loop-place.place c.loop-place.first buses c.index-buses-place.result c.loop-place-test.true c.loop-place.invariant.lines c.in_ok-push_bus.ensures;
      wires = width_more c.loop-place.first (sum (map (λ (b : Bus). b.width) buses)) c.loop-place.place buses c.index-buses-place.result c.loop-place-test.true c.loop-place.invariant.wires;
    }

pub push_bus-requires : goal.push_bus-requires
push_bus-requires c =
    let buses = c.args.buses.now in
    let more = width_more c.loop-place.first (sum (map (λ (b : Bus). b.width) buses)) c.loop-place.place buses c.index-buses-place.result c.loop-place-test.true c.loop-place.invariant.wires in
    omega (arith, more, c.requires)

pub overflow_add-first : goal.overflow_add-first
overflow_add-first c =
    let buses = c.args.buses.now in
    let more = width_more c.loop-place.first (sum (map (λ (b : Bus). b.width) buses)) c.loop-place.place buses c.index-buses-place.result c.loop-place-test.true c.loop-place.invariant.wires in
    record { fits = omega (arith, more, c.requires) }

pub returns : goal.returns
returns c =
    buses_done c.loop-place.text.items (c.args.text.now.items ++ scope_lines 0 (bus_scopes 0 0 (map bus_value c.args.buses.now))) c.loop-place.place c.loop-place.first c.args.buses.now c.loop-place-test.false c.loop-place.invariant.lines
