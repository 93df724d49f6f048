use Rattle.std.proofs.Common.{arith, ◌≡◌, ◌<◌, ap, take, length}
use Rattle.bus_model.specs.Buses.{bus_time_of, cost_of, arch_value, no_bus}
use Rattle.bus_model.proofs.Views.{value_at, value_length}
use Rattle.bus_model.proofs.SoundLemmas.{sound_item}
use Rattle.bus_model.proofs.Greatest.{cost_of_more}
use Rattle.bus_model.proofs.costs.cost.Goals as goal

pub bus_time-requires : goal.bus_time-requires
bus_time-requires c =
    let items = c.deref-bus-items.ensures.value in
    sound_item c.args.table.now c.args.arch.now.buses.items c.loop-bus.bus-index c.bus-item.result c.requires
    (rw (← items) c.loop-bus-test.true) (rw (← items) c.bus-item.is)

pub loop-bus-preserved : goal.loop-bus-preserved
loop-bus-preserved c =
    let items = c.deref-bus-items.ensures.value in
    let h : c.loop-bus.bus-index < length c.args.arch.now.buses.items = rw (← items) c.loop-bus-test.true in
    let n = value_length c.args.arch.now.buses.items in
    let more = cost_of_more c.args.table.now (arch_value c.args.arch.now) c.loop-bus.bus-index no_bus (omega arith) in
    let read = ap (bus_time_of c.args.table.now) (value_at c.args.arch.now.buses.items c.loop-bus.bus-index c.bus-item.result no_bus h (rw (← items) c.bus-item.is)) in
    let time = c.bus_time.ensures in
    let most = c.max-most.ensures in
    let so_far : c.loop-bus.most ≡ cost_of c.args.table.now (take c.loop-bus.bus-index (arch_value c.args.arch.now)) = c.loop-bus.invariant in
    omega arith
