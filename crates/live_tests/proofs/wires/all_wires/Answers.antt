use Rattle.std.proofs.Common.{◌≤◌, ◌<◌, length, map, ap, ◌∙◌, arith}
use Rattle.std.specs.List.{sum}
use Rattle.std.proofs.lemmas.List.{get_or-map, length-map, take_all}
use Rattle.std.proofs.lemmas.List.Sums.{sum_by_more, sum_by_more_le}
use Rattle.plan_model.specs.declared.Bus.{Bus}
use Rattle.live_tests.proofs.BusWidths.{widths_are}
use Rattle.live_tests.proofs.wires.all_wires.Goals as goal

pub overflow_add-wires : goal.overflow_add-wires
overflow_add-wires c =
    let e = c.deref-bus-items.ensures.value in
    let widths = map (λ (b : Bus). b.width) c.args.plan.now.buses.items in
    let within : c.loop-bus.bus-index < length c.args.plan.now.buses.items = rw e at c.loop-bus-test.true in
    let item = get_or-map (λ (b : Bus). b.width) c.args.plan.now.buses.items c.loop-bus.bus-index c.bus-item.result 0 within in
    let width = ap (λ (b : Bus). b.width) (rw e at c.bus-item.is) in
    let many = length-map c.args.plan.now.buses.items (λ (b : Bus). b.width) in
    let all = sum_by_more_le (λ x. x) widths c.loop-bus.bus-index 0 (omega (arith, within, many)) in
    omega (arith, item, width, all, c.loop-bus.invariant, c.requires, ap sum (widths_are c.args.plan.now.buses.items))

pub loop-bus-preserved : goal.loop-bus-preserved
loop-bus-preserved c =
    let e = c.deref-bus-items.ensures.value in
    let widths = map (λ (b : Bus). b.width) c.args.plan.now.buses.items in
    let within : c.loop-bus.bus-index < length c.args.plan.now.buses.items = rw e at c.loop-bus-test.true in
    let item = get_or-map (λ (b : Bus). b.width) c.args.plan.now.buses.items c.loop-bus.bus-index c.bus-item.result 0 within in
    let width = ap (λ (b : Bus). b.width) (rw e at c.bus-item.is) in
    let many = length-map c.args.plan.now.buses.items (λ (b : Bus). b.width) in
    let more = sum_by_more (λ x. x) widths c.loop-bus.bus-index 0 (omega (arith, within, many)) in
    omega (arith, item, width, more, c.loop-bus.invariant)

pub returns : goal.returns
returns c =
    let widths = map (λ (b : Bus). b.width) c.args.plan.now.buses.items in
    let past : length widths ≤ c.loop-bus.bus-index = omega (arith, ap length c.deref-bus-items.ensures.value, c.loop-bus-test.false, length-map c.args.plan.now.buses.items (λ (b : Bus). b.width)) in
    c.loop-bus.invariant ∙ ap sum (take_all c.loop-bus.bus-index widths past) ∙ ap sum (widths_are c.args.plan.now.buses.items)
