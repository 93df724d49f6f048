-- The wrappers of a plan: those of the width table at the widths of its buses.
use Rattle.std.specs.Prelude.{◌≡◌, ℕ, ◌≤◌, Bool, true, Some, List, map, slice_get, IsTrue}
use Rattle.std.specs.List.{All}
use Rattle.soc_model.specs.Chips.{ModuleValue, SocValue}
use Rattle.plan_model.specs.Plans.{BusValue, WrapperValue, of_first, has_module}
use Rattle.plan_model.specs.Rules.{pair_of, used_pairs}
use Rattle.soc_model.specs.Modes.{uses_mode, has_tam}
use Rattle.wrapper_design.specs.Design.{mode_of, design}
use Rattle.width_table.specs.Times.{mode_time, IsChosen}
use Rattle.width_table.specs.Tables.{TableValue}
use Rattle.planner.specs.declared.wrappers.UsedMode.{UsedMode}
use Rattle.planner.specs.Buses.{number_at}

-- the width of the first bus that lists a module, 0 where none does
abbrev pub bus_width : List BusValue → ℕ → ℕ
bus_width buses number = of_first (has_module number) (λ b. b.width) 0 buses

-- each module with a live test over the wires is on a bus, of no more wires than the table's
abbrev pub HaveWidths : TableValue → List BusValue → Type 0
HaveWidths table buses = (place : ℕ) (m : ModuleValue) → slice_get table.soc.modules place ≡ Some m → IsTrue (has_tam m) →
    (1 ≤ bus_width buses m.number) × (bus_width buses m.number ≤ table.wires)

-- the wrapper of the width table for a mode of a module on a bus of a width: the design at the chosen width
pub record IsTableWrapper (m : ModuleValue) (width : ℕ) (w : WrapperValue) : Type 0 where
  pub of : w.«module» ≡ m.number
  pub chosen : ℕ
  pub is_chosen : IsChosen (mode_time m w.scan) width chosen
  pub designed : w.chains ≡ design (mode_of m w.scan) chosen

-- the wrapper of a module of the chip, at the width of its bus
pub record IsWrapperOnBus (soc : SocValue) (buses : List BusValue) (w : WrapperValue) : Type 0 where
  pub place : ℕ
  pub core : ModuleValue
  pub there : slice_get soc.modules place ≡ Some core
  pub wrapper : IsTableWrapper core (bus_width buses core.number) w

-- One for each pair of a module and a mode that is used, in the order of the chip, scan before terminals; each is the
-- table's at the width of the module's bus.
pub record AreTableWrappers (soc : SocValue) (buses : List BusValue) (wrappers : List WrapperValue) : Type 0 where
  pub pairs : map pair_of wrappers ≡ used_pairs soc
  pub on_buses : All (IsWrapperOnBus soc buses) wrappers

-- ---- the pairs as they are listed first

-- a mode of a module that is used, with the width of the module's bus
pub record IsUsedMode (soc : SocValue) (buses : List BusValue) (u : UsedMode) : Type 0 where
  pub core : ModuleValue
  pub there : slice_get soc.modules u.place ≡ Some core
  pub used : uses_mode u.scan core ≡ true
  pub width : u.width ≡ bus_width buses core.number

-- its pair of a module and a mode
abbrev pub mode_of_module : SocValue → UsedMode → ℕ × Bool
mode_of_module soc u = (number_at soc u.place, u.scan)

-- these modes have the pairs `pairs`, in this order, and each of them is used
pub record AreUsedModes (soc : SocValue) (buses : List BusValue) (pairs : List (ℕ × Bool)) (modes : List UsedMode) : Type 0 where
  pub pairs_are : map (mode_of_module soc) modes ≡ pairs
  pub used : All (IsUsedMode soc buses) modes
