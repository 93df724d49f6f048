-- The live tests of a chip as a job, with the buses and wrappers of a plan.
use Rattle.std.specs.Prelude.{ℕ, Option, None, Some, List, [], ◌∷◌, map, length, if◌then◌else◌}
use Rattle.soc_model.specs.declared.Test.{Test}
use Rattle.soc_model.specs.declared.TestId.{TestId}
use Rattle.soc_model.specs.Chips.{ModuleValue, SocValue, LiveTest, live_tests, id_of, same_test, parent_place}
use Rattle.plan_model.specs.Plans.{BusValue, WrapperValue, OfArea, PlanValue, ProfileValue, LimitsValue, of_first, bus_place, chains_of, operations_of}
use Rattle.live_tests.specs.Names.{precedences}
use Rattle.resource_table.specs.Jobs.{TestValue, JobValue}

-- a plan of which only the buses and the wrappers are settled
abbrev pub settled_parts : List BusValue → List WrapperValue → PlanValue
settled_parts buses wrappers =
    record { buses = buses; wrappers = wrappers; starts = []; cycles = 0; bound = record { cycles = 0; why = OfArea } }

-- a test's power in steps: those of its profile, or its own power at every cycle
abbrev pub steps_of : LimitsValue → TestId → ℕ → List (ℕ × ℕ)
steps_of limits id own = of_first (λ (p : ProfileValue). same_test p.test id) (λ p. p.steps) ((0, own) ∷ []) limits.profiles

-- the bus that a test goes over, by its place; a self test has none
abbrev pub bus_of : PlanValue → ModuleValue → Test → Option ℕ
bus_of plan m t = if t.tam then Some (bus_place m.number 0 plan.buses) else None

-- a live test as one of the job: its module, that one's parent and its bus go by their places
abbrev pub test_of : SocValue → LimitsValue → PlanValue → LiveTest → TestValue
test_of soc limits plan l = record {
  id = id_of l;
  place = l.place;
  parent = parent_place soc.modules l.place;
  bus = bus_of plan l.core l.test;
  cycles = length (operations_of l.core l.test (chains_of plan l.core l.test));
  steps = steps_of limits (id_of l) l.test.power;
}

-- what the job says of a test of a module
abbrev pub test_in : SocValue → LimitsValue → PlanValue → ℕ → ModuleValue → Test → TestValue
test_in soc limits plan place m t = test_of soc limits plan (record { place = place; core = m; test = t })

-- the job of the live tests, in the order of the chip, with the precedences of live tests
abbrev pub job_of : SocValue → LimitsValue → PlanValue → JobValue
job_of soc limits plan = record {
  tests = map (test_of soc limits plan) (live_tests soc);
  before = precedences soc limits;
  power = limits.power;
}
