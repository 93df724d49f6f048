use Rattle.std.proofs.Common.{◌≡◌, ◌∙◌, [], ◌++◌, map, drop, ap, sym, append-nil, arith}
use Rattle.std.proofs.lemmas.List.{drop_all}
use Rattle.plan_model.specs.declared.Bus.{Bus}
use Rattle.live_tests.proofs.BusWidths.{widths_are}
use Rattle.report.proofs.totals.widths_of.Goals as goal

pub returns : goal.returns
returns c =
    let width = λ (b : Bus). b.width in
    let none : drop c.loop-bus.bus-index c.deref-bus-items.result.now ≡ [] = drop_all c.loop-bus.bus-index c.deref-bus-items.result.now (omega (arith, c.loop-bus-test.false)) in
    sym (append-nil c.loop-bus.ws.items) ∙ ap (λ l. c.loop-bus.ws.items ++ map width l) (sym none) ∙ c.loop-bus.invariant
    ∙ ap (map width) c.deref-bus-items.ensures.value ∙ widths_are c.args.plan.now.buses.items
