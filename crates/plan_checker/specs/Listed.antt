-- What the checker has noted of the buses and the starts of a plan.
use Rattle.std.specs.Prelude.{◌≡◌, ℕ, ◌≤◌, ◌^◌, Some, List, slice_get}
use Rattle.soc_model.specs.declared.TestId.{TestId}
use Rattle.soc_model.specs.Chips.{ModuleValue, SocValue}
use Rattle.plan_model.specs.Plans.{PlanValue, bus_place}

-- for each module its bus by its place, the number of buses where it is on none
abbrev pub AreBuses : SocValue → PlanValue → List ℕ → Type 0
AreBuses soc plan buses =
    (p : ℕ) (m : ModuleValue) → slice_get soc.modules p ≡ Some m → slice_get buses p ≡ Some (bus_place m.number 0 plan.buses)

abbrev pub StartEarly : List (TestId × ℕ) → Type 0
StartEarly starts = (n : ℕ) (s : TestId × ℕ) → slice_get starts n ≡ Some s → s.1 ≤ 10 ^ 18
