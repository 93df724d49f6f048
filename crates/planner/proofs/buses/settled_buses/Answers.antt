use Rattle.std.proofs.Common.{map}
use Rattle.soc_model.specs.Chips.{soc_value}
use Rattle.plan_model.specs.Views.{bus_value}
use Rattle.bus_model.specs.Buses.{arch_value}
use Rattle.planner.proofs.PartRules.{have_widths}
use Rattle.planner.proofs.SettledBuses.{places_known, only_settled}
use Rattle.planner.proofs.buses.settled_buses.Goals as goal

pub buses_of-requires : goal.buses_of-requires
buses_of-requires c = places_known c.args.table.now (soc_value c.args.soc.now) (arch_value c.in_ok-settled.settled) c.wires-wires.ensures.table c.requires c.in_ok-settled.ensures.sound

pub returns-clause-settled : goal.returns-clause-settled
returns-clause-settled c = record {
  start = arch_value c.in_ok-start.start;
  settled = arch_value c.in_ok-settled.settled;
  starts = c.in_ok-start.ensures.start;
  settles = c.in_ok-settled.ensures.settles;
  at_rest = c.in_ok-settled.ensures.settled;
  cost = c.in_ok-settled.ensures.cost;
  sound = c.in_ok-settled.ensures.sound;
  buses_are = rw c.requires c.in_ok-buses.ensures;
}

pub returns-clause-widths : goal.returns-clause-widths
returns-clause-widths c = have_widths c.args.table.now (map bus_value c.in_ok-buses.buses.items) (returns-clause-settled c)

pub returns-clause-only : goal.returns-clause-only
returns-clause-only c = only_settled c.args.table.now (soc_value c.args.soc.now) (arch_value c.in_ok-start.start) (arch_value c.in_ok-settled.settled) (map bus_value c.in_ok-buses.buses.items) c.requires c.in_ok-start.ensures.only c.in_ok-settled.ensures.only c.in_ok-buses.ensures
