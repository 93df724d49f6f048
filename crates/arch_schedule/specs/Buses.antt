-- Buses, with the modules on them.
use Rattle.std.specs.Prelude.{◌≡◌, ℕ, ◌<◌, ◌≤◌, length}
use Rattle.std.specs.List.{All, sum_by}
use Rattle.arch_schedule.specs.declared.buses.Buses.{Buses}
use Rattle.arch_schedule.specs.declared.times.Times.{Times}
use Rattle.arch_schedule.specs.Times.{AreTimes}

-- the buses have no more wires together than there are slots, each of which has a load, and each module is on a bus of a slot
pub record AreBuses (b : Buses) : Type 0 where
  pub few_wires : sum_by (λ (w : ℕ). w) b.widths.items ≤ length b.widths.items
  pub within : All (λ slot. slot < length b.widths.items) b.slots.items
  pub as_many_loads : length b.loads.items ≡ length b.widths.items

-- they have as many slots, for as many modules
pub record AreAlike (a b : Buses) : Type 0 where
  pub widths : length b.widths.items ≡ length a.widths.items
  pub slots : length b.slots.items ≡ length a.slots.items

-- the cycles of the modules of buses on up to as many wires as there are slots
pub record AreTimesOn (b : Buses) (t : Times) : Type 0 where
  pub times : AreTimes t
  pub wires : t.wires ≡ length b.widths.items
  pub modules : length t.rows.items ≡ length b.slots.items
