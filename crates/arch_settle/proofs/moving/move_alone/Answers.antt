use Rattle.std.proofs.Common.{arith, ◌-◌, ◌∙◌, ◌++◌, ◌∷◌, [], ap, refl, length, map}
use Rattle.bus_model.specs.Buses.{bus_value, no_bus}
use Rattle.bus_model.proofs.Views.{value_at, value_length}
use Rattle.arch_settle.proofs.Moved.{split_off_value}
use Rattle.arch_settle.proofs.moving.move_alone.Goals as goal

pub returns : goal.returns
returns c =
    let n = value_length c.args.arch.now.buses.items in
    let from = c.requires.from in
    let valid = c.requires.choice in
    let read = ap (λ bus. length bus.places) (value_at c.args.arch.now.buses.items c.args.from c.index_mut-bus.result.now no_bus (omega arith) c.index_mut-bus.ensures.value) in
    let nth = valid.0 in
    ap (map bus_value) c.in_ok-push-2.ensures.ok
    ∙ split_off_value c.args.arch.now.buses.items c.args.from c.args.nth c.args.width c.remove-place.result c.index_mut-bus.result.now
    (record { width = c.index_mut-bus.result.now.width - c.args.width; places = c.remove-place.new.self })
    (record { width = c.args.width; places = c.push.new.to })
    (omega arith) c.index_mut-bus.ensures.value refl c.remove-place.ensures.items c.remove-place.ensures.value (omega arith)
    refl (c.in_ok-push.ensures.ok ∙ ap (λ xs. xs ++ c.remove-place.result ∷ []) c.new-places.ensures.items)
