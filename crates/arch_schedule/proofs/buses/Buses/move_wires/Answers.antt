use Rattle.std.proofs.Common.{arith}
use Rattle.std.proofs.lemmas.List.{get_or_read}
use Rattle.arch_schedule.proofs.Wires.{total_moved, within_moved, long_moved}
use Rattle.arch_schedule.proofs.buses.Buses.move_wires.Goals as goal

pub returns-clause-buses : goal.returns-clause-buses
returns-clause-buses c =
    let widths = c.args.self.now.widths.items in
    let had = get_or_read widths c.args.from c.index_mut.result.now c.requires.from c.index_mut.ensures.value 0 in
    record {
      few_wires = total_moved widths c.args.from c.args.to c.index_mut.result.now _ c.index_mut-2.result.now _ c.requires.from c.requires.to c.index_mut.ensures.value c.index_mut-2.ensures.value (omega (arith, c.requires.some, had)) c.requires.buses.few_wires;
      within = within_moved widths c.args.self.now.slots.items c.args.from c.args.to _ _ c.requires.buses.within;
      as_many_loads = long_moved widths c.args.self.now.loads.items c.args.from c.args.to _ _ c.requires.buses.as_many_loads;
    }
