-- Worked rows, by computation: two modules of 60 inputs, 60 outputs and 10 patterns, the second before the first on one
-- bus of three wires.
use Rattle.std.proofs.Common.{◌≡◌, ℕ, true, false, List, [], ◌∷◌, refl}
use Rattle.soc_model.specs.declared.Test.{Test}
use Rattle.soc_model.specs.Chips.{ModuleValue, SocValue}
use Rattle.plan_model.specs.Plans.{BusValue}
use Rattle.plan_model.specs.Rules.{used_pairs}
use Rattle.bus_model.specs.Buses as arch
use Rattle.planner.specs.Buses.{plan_buses}
use Rattle.planner.specs.Wrapping.{bus_width}

one_test : Test
one_test = record { number = 1; scan = true; tam = true; patterns = 10; power = 0 }

wide_module : ℕ → ModuleValue
wide_module number = record { number = number; name = []; level = 1; inputs = 60; outputs = 60; bidirs = 0; setup = 0; chains = []; tests = one_test ∷ [] }

wide_pair : SocValue
wide_pair = record { name = []; power_flag = false; xy_flag = false; keys = 1 ∷ 2 ∷ []; modules = wide_module 1 ∷ wide_module 2 ∷ [] }

settled : List arch.BusValue
settled = (record { width = 3; places = 1 ∷ 0 ∷ [] }) ∷ []

shared : List BusValue
shared = (record { width = 3; modules = 2 ∷ 1 ∷ [] }) ∷ []

buses_by_number : plan_buses wide_pair settled ≡ shared
unfolding wide_pair wide_module one_test settled shared
buses_by_number = refl

width_of_second : bus_width shared 2 ≡ 3
unfolding shared
width_of_second = refl

width_of_none : bus_width shared 3 ≡ 0
unfolding shared
width_of_none = refl

pairs_in_order : used_pairs wide_pair ≡ (1, true) ∷ (2, true) ∷ []
unfolding wide_pair wide_module one_test
pairs_in_order = refl
