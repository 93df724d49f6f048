use Rattle.std.proofs.Common.{arith, ap, refl, length}
use Rattle.bus_model.specs.Buses.{no_bus}
use Rattle.bus_model.proofs.Views.{value_at, value_length}
use Rattle.arch_settle.proofs.Moved.{moved_value}
use Rattle.arch_settle.proofs.moving.move_to.Goals as goal

pub returns : goal.returns
returns c =
    let n = value_length c.args.arch.now.buses.items in
    let from = c.requires.from in
    let valid = c.requires.choice in
    let into = valid.1 in
    let read = ap (λ bus. length bus.places) (value_at c.args.arch.now.buses.items c.args.from c.index_mut.result.now no_bus (omega arith) c.index_mut.ensures.value) in
    let nth = valid.0 in
    moved_value c.args.arch.now.buses.items c.args.from c.args.nth c.args.bus c.remove-place.result c.index_mut.result.now
    (record { width = c.index_mut.result.now.width; places = c.remove-place.new.self }) c.index_mut-2.result.now
    (record { width = c.index_mut-2.result.now.width; places = c.push.new.to })
    (omega arith) (omega arith) valid.2 c.index_mut.ensures.value refl c.remove-place.ensures.items c.remove-place.ensures.value (omega arith)
    c.index_mut-2.ensures.value refl c.in_ok-push.ensures.ok
