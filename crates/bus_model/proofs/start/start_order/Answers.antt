use Rattle.std.proofs.Common.{◌∙◌, ap, map, refl}
use Rattle.std.proofs.lemmas.List.{take_all}
use Rattle.bus_model.proofs.Keys.{place_of, places_more, start_order-from_sorted}
use Rattle.bus_model.proofs.start.start_order.Goals as goal

pub returns : goal.returns
returns c =
    let items = c.deref-key-items.ensures.value in
    let all = take_all c.loop-key.key-index c.deref-key-items.result.now c.loop-key-test.false in
    let order = c.loop-key.invariant ∙ ap (map place_of) (all ∙ items) in
    rw order (start_order-from_sorted c.args.table.now c.in_ok-keys.keys.items c.sort_unstable.new.self.items
    c.in_ok-keys.ensures.times c.in_ok-keys.ensures.once c.sort_unstable.ensures.permutation c.sort_unstable.ensures.sorted)

pub loop-key-preserved : goal.loop-key-preserved
loop-key-preserved c = places_more c.deref-key-items.result.now c.loop-key.key-index _ _ c.push.new.to.items c.loop-key.order.items c.in_ok-push.ensures.ok c.loop-key.invariant c.loop-key-test.true refl
