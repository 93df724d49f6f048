-- The buses of the settled start, as they are made.
use Rattle.std.proofs.Common.{◌≡◌, ℕ, ◌<◌, List, length, get_or, map, ap, ◌∙◌, sym, subst, arith, All}
use Rattle.soc_model.specs.Chips.{SocValue}
use Rattle.plan_model.specs.Plans.{BusValue}
use Rattle.width_table.specs.Tables.{TableValue, IsTable}
use Rattle.bus_model.specs.declared.ArchBus.{ArchBus}
use Rattle.bus_model.specs.Sound.{IsSoundArch}
use Rattle.bus_model.specs.Start.{IsStart}
use Rattle.bus_model.proofs.Views.{value_at, value_length}
use Rattle.arch_settle.specs.Settling.{Settles}
use Rattle.planner.specs.Buses.{plan_buses, AreSettledBuses}
use Rattle.planner.proofs.BusRules.{buses_in_range}
use Rattle.bus_model.specs.Buses as arch

-- the places of a bus that was read
pub bus_in_range : (buses : List ArchBus) (i : ℕ) (bus : ArchBus) (n : ℕ) → All (λ (b : arch.BusValue). All (λ p. p < n) b.places) (map arch.bus_value buses) → i < length buses → bus ≡ get_or buses i bus → All (λ p. p < n) bus.places.items
bus_in_range buses i bus n all h e =
    let long = value_length buses in
    subst (λ (b : arch.BusValue). All (λ p. p < n) b.places) (value_at buses i bus (arch.bus_value bus) h e) (all i (arch.bus_value bus) (omega arith))

-- the places of a sound architecture are those of modules
pub places_known : (table : TableValue) (soc : SocValue) (buses : List arch.BusValue) → IsTable table → table.soc ≡ soc → IsSoundArch table buses → All (λ (b : arch.BusValue). All (λ p. p < length soc.modules) b.places) buses
places_known table soc buses laws same sound = subst (λ (s : SocValue). All (λ (b : arch.BusValue). All (λ p. p < length s.modules) b.places) buses) same (buses_in_range table buses sound laws)

-- one architecture is the settled start
pub only_settled : (table : TableValue) (soc : SocValue) (start settled : List arch.BusValue) (buses : List BusValue) → table.soc ≡ soc → ((other : List arch.BusValue) → IsStart table other → other ≡ start) →
    ((other : List arch.BusValue) → Settles table start other → other ≡ settled) → buses ≡ plan_buses soc settled → (other : List BusValue) → AreSettledBuses table other → other ≡ buses
only_settled table soc start settled buses same one_start one_settled is other are =
    let s : are.start ≡ start = one_start are.start are.starts in
    let t : are.settled ≡ settled = one_settled are.settled (subst (λ (a : List arch.BusValue). Settles table a are.settled) s are.settles) in
    are.buses_are ∙ ap (plan_buses table.soc) t ∙ ap (λ (c : SocValue). plan_buses c settled) same ∙ sym is
