use Rattle.std.proofs.Common.{length}
use Rattle.soc_model.specs.Chips.{soc_value}
use Rattle.planner.proofs.SettledBuses.{bus_in_range}
use Rattle.planner.proofs.buses.buses_of.Goals as goal

pub bus_of-requires : goal.bus_of-requires
bus_of-requires c =
    let items = c.deref-bus-items.ensures.value in
    bus_in_range c.args.arch.now.buses.items c.loop-bus.bus-index c.bus-item.result (length (soc_value c.args.soc.now).modules) c.requires (rw (← items) c.loop-bus-test.true) (rw (← items) c.bus-item.is)
