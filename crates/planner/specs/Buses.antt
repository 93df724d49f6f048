-- The buses of a plan: those of the settled start, by the numbers of their modules.
use Rattle.std.specs.Prelude.{◌≡◌, ℕ, ◌≤◌, List, map, slice_index}
use Rattle.soc_model.specs.Chips.{SocValue, numbers}
use Rattle.plan_model.specs.Plans.{BusValue, LimitsValue}
use Rattle.width_table.specs.Tables.{TableValue}
use Rattle.bus_model.specs.Buses.{cost_of}
use Rattle.bus_model.specs.Buses as arch
use Rattle.bus_model.specs.Sound.{IsSoundArch}
use Rattle.bus_model.specs.Start.{IsStart}
use Rattle.arch_settle.specs.Settling.{Settles, IsSettled}

-- a chip at all widths up to the wires of the limits
abbrev pub table_of : SocValue → LimitsValue → TableValue
table_of soc limits = record { soc = soc; wires = limits.wires }

-- the number of the module at a place
abbrev pub number_at : SocValue → ℕ → ℕ
number_at soc place = slice_index (numbers soc) place

-- a bus of an architecture, by the numbers of its modules
abbrev pub plan_bus : SocValue → arch.BusValue → BusValue
plan_bus soc bus = record { width = bus.width; modules = map (number_at soc) bus.places }

abbrev pub plan_buses : SocValue → List arch.BusValue → List BusValue
plan_buses soc buses = map (plan_bus soc) buses

-- They are the buses of the architecture, in its order, to which the start solution settles: no neighbour of it costs
-- less, and it costs at most what the start does.
pub record AreSettledBuses (table : TableValue) (buses : List BusValue) : Type 0 where
  pub start : List arch.BusValue
  pub settled : List arch.BusValue
  pub starts : IsStart table start
  pub settles : Settles table start settled
  pub at_rest : IsSettled table settled
  pub cost : cost_of table settled ≤ cost_of table start
  pub sound : IsSoundArch table settled
  pub buses_are : buses ≡ plan_buses table.soc settled
