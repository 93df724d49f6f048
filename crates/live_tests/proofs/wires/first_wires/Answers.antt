use Rattle.std.proofs.Common.{◌≡◌, ◌+◌, ◌<◌, ◌∷◌, [], ℕ, List, length, map, take, ap, subst, ◌∙◌, refl, arith}
use Rattle.std.specs.List.{sum}
use Rattle.std.proofs.lemmas.List.{get_or-map, length-map, length-append}
use Rattle.std.proofs.lemmas.List.Sums.{sum_by_more}
use Rattle.plan_model.specs.declared.Bus.{Bus}
use Rattle.live_tests.specs.Wires.{AreFirstWires}
use Rattle.live_tests.proofs.BusWidths.{widths_are}
use Rattle.live_tests.proofs.FirstWires.{firsts_more}
use Rattle.live_tests.proofs.wires.first_wires.Goals as goal

pub loop-bus-init : goal.loop-bus-init
loop-bus-init c = record {
  last = refl;
  long = ap length c.in_ok-push.ensures.ok ∙ length-append c.new-wires.result.items (0 ∷ []) ∙ ap (λ n. n + 1) (ap length c.new-wires.ensures.items);
  each = firsts_more (map (λ (b : Bus). b.width) c.args.plan.now.buses.items) c.new-wires.result.items c.push.new.to.items 0 0 (ap length c.new-wires.ensures.items) refl (λ b h. absurd (omega (arith, h))) c.in_ok-push.ensures.ok;
}

pub loop-bus-preserved : goal.loop-bus-preserved
loop-bus-preserved c =
    let e = c.deref-bus-items.ensures.value in
    let widths = map (λ (b : Bus). b.width) c.args.plan.now.buses.items in
    let within : c.loop-bus.bus-index < length c.args.plan.now.buses.items = rw e at c.loop-bus-test.true in
    let item = get_or-map (λ (b : Bus). b.width) c.args.plan.now.buses.items c.loop-bus.bus-index c.bus-item.result 0 within in
    let width = ap (λ (b : Bus). b.width) (rw e at c.bus-item.is) in
    let many = length-map c.args.plan.now.buses.items (λ (b : Bus). b.width) in
    let more = sum_by_more (λ x. x) widths c.loop-bus.bus-index 0 (omega (arith, within, many)) in
    let last : c.in_ok-wire.wire ≡ sum (take (c.loop-bus.bus-index + 1) widths) = omega (arith, item, width, more, c.loop-bus.invariant.last, c.in_ok-wire.ensures) in
    record {
      last = last;
      long = ap length c.in_ok-push-2.ensures.ok ∙ length-append c.loop-bus.wires.items (c.in_ok-wire.wire ∷ []) ∙ ap (λ n. n + 1) c.loop-bus.invariant.long;
      each = firsts_more widths c.loop-bus.wires.items c.push-in-loop-bus.new.to.items (c.loop-bus.bus-index + 1) c.in_ok-wire.wire c.loop-bus.invariant.long last c.loop-bus.invariant.each c.in_ok-push-2.ensures.ok;
    }

pub returns : goal.returns
returns c =
    let buses = c.args.plan.now.buses.items in
    let all : c.loop-bus.bus-index ≡ length buses = omega (arith, ap length c.deref-bus-items.ensures.value, c.loop-bus-test.false, c.loop-bus.auto.bus-index-end) in
    let many = length-map buses (λ (b : Bus). b.width) in
    subst (λ (ws : List ℕ). AreFirstWires ws c.loop-bus.wires.items) (widths_are buses) (record {
      long = omega (arith, c.loop-bus.invariant.long, all, many);
      first = λ b h. c.loop-bus.invariant.each b (omega (arith, h, all, many));
    })
