use Rattle.arch_schedule.proofs.changes.change_buses.Goals as goal

pub move_module-requires-clause-buses : goal.move_module-requires-clause-buses
move_module-requires-clause-buses c = c.requires.buses

pub move_module-requires-clause-times : goal.move_module-requires-clause-times
move_module-requires-clause-times c = c.requires.times

pub returns-in-Move-clause-buses : goal.returns-in-Move-clause-buses
returns-in-Move-clause-buses c = c.move_module.ensures.buses

pub returns-in-Move-clause-alike : goal.returns-in-Move-clause-alike
returns-in-Move-clause-alike c = c.move_module.ensures.alike

pub returns-in-Move-clause-taken : goal.returns-in-Move-clause-taken
returns-in-Move-clause-taken c = c.requires.taken

pub merge_buses-requires-clause-buses : goal.merge_buses-requires-clause-buses
merge_buses-requires-clause-buses c = c.requires.buses

pub merge_buses-requires-clause-times : goal.merge_buses-requires-clause-times
merge_buses-requires-clause-times c = c.requires.times

pub returns-in-Merge-clause-buses : goal.returns-in-Merge-clause-buses
returns-in-Merge-clause-buses c = c.merge_buses.ensures.buses

pub returns-in-Merge-clause-alike : goal.returns-in-Merge-clause-alike
returns-in-Merge-clause-alike c = c.merge_buses.ensures.alike

pub returns-in-Merge-clause-taken : goal.returns-in-Merge-clause-taken
returns-in-Merge-clause-taken c = c.requires.taken

pub split_bus-requires-clause-buses : goal.split_bus-requires-clause-buses
split_bus-requires-clause-buses c = c.requires.buses

pub split_bus-requires-clause-times : goal.split_bus-requires-clause-times
split_bus-requires-clause-times c = c.requires.times

pub returns-in-Split-clause-buses : goal.returns-in-Split-clause-buses
returns-in-Split-clause-buses c = c.split_bus.ensures.buses

pub returns-in-Split-clause-alike : goal.returns-in-Split-clause-alike
returns-in-Split-clause-alike c = c.split_bus.ensures.alike

pub returns-in-Split-clause-taken : goal.returns-in-Split-clause-taken
returns-in-Split-clause-taken c = c.requires.taken

pub deal_modules-requires-clause-buses : goal.deal_modules-requires-clause-buses
deal_modules-requires-clause-buses c = c.requires.buses

pub deal_modules-requires-clause-times : goal.deal_modules-requires-clause-times
deal_modules-requires-clause-times c = c.requires.times

pub deal_modules-requires-clause-taken : goal.deal_modules-requires-clause-taken
deal_modules-requires-clause-taken c = c.requires.taken

pub returns-in-DealModules-clause-buses : goal.returns-in-DealModules-clause-buses
returns-in-DealModules-clause-buses c = c.deal_modules.ensures.buses

pub returns-in-DealModules-clause-alike : goal.returns-in-DealModules-clause-alike
returns-in-DealModules-clause-alike c = c.deal_modules.ensures.alike

pub returns-in-DealModules-clause-taken : goal.returns-in-DealModules-clause-taken
returns-in-DealModules-clause-taken c = c.deal_modules.ensures.taken

pub deal_buses-requires-clause-buses : goal.deal_buses-requires-clause-buses
deal_buses-requires-clause-buses c = c.requires.buses

pub deal_buses-requires-clause-times : goal.deal_buses-requires-clause-times
deal_buses-requires-clause-times c = c.requires.times

pub returns-in-DealBuses-clause-buses : goal.returns-in-DealBuses-clause-buses
returns-in-DealBuses-clause-buses c = c.deal_buses.ensures.buses

pub returns-in-DealBuses-clause-alike : goal.returns-in-DealBuses-clause-alike
returns-in-DealBuses-clause-alike c = c.deal_buses.ensures.alike

pub returns-in-DealBuses-clause-taken : goal.returns-in-DealBuses-clause-taken
returns-in-DealBuses-clause-taken c = c.requires.taken
