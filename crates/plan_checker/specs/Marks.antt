-- The bus of each module, as the checker writes it down bus by bus.
use Rattle.std.specs.Prelude.{◌≡◌, ℕ, ◌≤◌, Bool, true, false, length, map, Option, Some, None, List, slice_get, slice_index, nat_eq, if◌then◌else◌}
use Rattle.std.specs.List.{list_any, flat_map, Contains}
use Rattle.plan_model.specs.Plans.{BusValue, WrapperValue, PlanValue, bus_place}
use Rattle.soc_model.specs.Chips.{SocValue, ModuleValue}
use Rattle.plan_model.specs.Rules.{Each, IsFirstBreach, IsListed}

-- each module has a mark, at most the number of buses, which says that it is on none
abbrev pub AreMarks : List ℕ → ℕ → List ℕ → Type 0
AreMarks numbers count marks = (p n : ℕ) → slice_get numbers p ≡ Some n → (b : ℕ) × (slice_get marks p ≡ Some b) × (b ≤ count)

-- a listed module is on no bus yet, and wasn't listed before it on this one
abbrev pub IsUnlisted : List ℕ → ℕ → List ℕ → List ℕ → ℕ → Type 0
IsUnlisted numbers count marks earlier x = (p : ℕ) → slice_get numbers p ≡ Some x → (slice_index marks p ≡ count) × (Contains earlier x → ⊥)

-- the modules that a bus lists have its mark, the others keep theirs
abbrev pub AreMarked : List ℕ → List ℕ → ℕ → List ℕ → List ℕ → Type 0
AreMarked numbers old bus listed marks =
    (p n : ℕ) → slice_get numbers p ≡ Some n → slice_get marks p ≡ Some (if list_any (nat_eq n) listed then bus else slice_index old p)

-- the marks once these buses of all of them have been listed
abbrev pub AreMarkedTo : List ℕ → ℕ → List BusValue → List ℕ → Type 0
AreMarkedTo numbers count buses marks = (p n : ℕ) → slice_get numbers p ≡ Some n →
    slice_get marks p ≡ Some (if list_any (nat_eq n) (flat_map (λ (b : BusValue). b.modules) buses) then bus_place n 0 buses else count)

-- the mark of each module is the place of its bus
abbrev pub AreBusesBy : List ℕ → List BusValue → List ℕ → Type 0
AreBusesBy numbers buses marks = (p n : ℕ) → slice_get numbers p ≡ Some n → slice_get marks p ≡ Some (bus_place n 0 buses)

-- nothing where each module with a test over the wires is on a bus, else the number of the first that isn't
abbrev pub IsFirstUnplaced : SocValue → PlanValue → Option ℕ → Type 0
IsFirstUnplaced soc plan None = Each (IsListed plan) soc.modules
IsFirstUnplaced soc plan (Some number) = (n : ℕ) × (m : ModuleValue) × IsFirstBreach (IsListed plan) soc.modules n m × (number ≡ m.number)

-- the wrapper has a chain and no more chains than its bus has wires
abbrev pub OnWires : List BusValue → WrapperValue → Type 0
OnWires buses w =
    (1 ≤ length w.chains) × (length w.chains ≤ slice_index (map (λ (b : BusValue). b.width) buses) (bus_place w.«module» 0 buses))

abbrev pub IsWired : List BusValue → WrapperValue → Bool → Type 0
IsWired buses w true = OnWires buses w
IsWired buses w false = OnWires buses w → ⊥
