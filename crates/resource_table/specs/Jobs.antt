-- A job of tests that are to be scheduled, as plain lists and numbers.
use Rattle.std.specs.Prelude.{◌≡◌, ℕ, ◌<◌, ◌≤◌, ◌^◌, Option, None, Some, List, [], ◌∷◌, map, length, slice_get, slice_index_or, IfSome}
use Rattle.std.specs.List.{All, Contains, sum_by}
use Rattle.soc_model.specs.declared.TestId.{TestId}
use Rattle.soc_model.specs.declared.TheConstants.{POWER_MOST, NUMBER_WORD_MOST}
use Rattle.plan_model.specs.declared.TheConstants.{STEPS_MOST}
use Rattle.plan_model.specs.SoundLimits.{Grow}
use Rattle.resource_table.specs.declared.JobTest.{JobTest}
use Rattle.resource_table.specs.declared.Job.{Job}

-- A test: the place of its module and of that one's direct parent in the chip, the place of its bus (a self test has
-- none), its cycles, and its power in steps, each from a number of cycles after its start.
pub record TestValue : Type 0 where
  pub id : TestId
  pub place : ℕ
  pub parent : Option ℕ
  pub bus : Option ℕ
  pub cycles : ℕ
  pub steps : List (ℕ × ℕ)

-- The tests, the precedences between them (by their places in the list), and what they may draw together at a cycle.
pub record JobValue : Type 0 where
  pub tests : List TestValue
  pub before : List (ℕ × ℕ)
  pub power : Option ℕ

abbrev pub test_value : JobTest → TestValue
test_value t = record { id = t.id; place = t.place; parent = t.parent; bus = t.bus; cycles = t.length; steps = t.power.items }

abbrev pub job_value : Job → JobValue
job_value job = record { tests = map test_value job.tests.items; before = job.before.items; power = job.power }

-- what stands past the end of a list of tests
abbrev pub no_test : TestValue
no_test = record { id = record { «module» = 0; test = 0 }; place = 0; parent = None; bus = None; cycles = 0; steps = [] }

abbrev pub test_at : JobValue → ℕ → TestValue
test_at job test = slice_index_or job.tests test no_test

abbrev pub cycles_of : JobValue → ℕ → ℕ
cycles_of job test = (test_at job test).cycles

-- ---- the same tests over other buses

-- a test over another bus, with other cycles
abbrev pub test_over : Option ℕ → ℕ → TestValue → TestValue
test_over bus cycles t = record { id = t.id; place = t.place; parent = t.parent; bus = bus; cycles = cycles; steps = t.steps }

-- each test over the bus and with the cycles that stand at its place
abbrev pub tests_over : List (Option ℕ) → List ℕ → List TestValue → List TestValue
tests_over (bus ∷ buses) (cycles ∷ lengths) (t ∷ tests) = test_over bus cycles t ∷ tests_over buses lengths tests
tests_over (bus ∷ buses) (cycles ∷ lengths) [] = []
tests_over (bus ∷ buses) [] tests = tests
tests_over [] lengths tests = tests

abbrev pub job_over : List (Option ℕ) → List ℕ → JobValue → JobValue
job_over buses lengths job = record { tests = tests_over buses lengths job.tests; before = job.before; power = job.power }

-- the first test has to end before the second starts
abbrev pub Precedes : JobValue → ℕ → ℕ → Type 0
Precedes job earlier later = Contains job.before (earlier, later)

-- a test that lasts a cycle at least, with a profile of power that is within the limit
pub record IsSoundTest (limit : Option ℕ) (t : TestValue) : Type 0 where
  pub lasts : 1 ≤ t.cycles
  pub some_step : 1 ≤ length t.steps
  pub few_steps : length t.steps ≤ STEPS_MOST
  pub begins : (power : ℕ) × (slice_get t.steps 0 ≡ Some (0, power))
  pub grows : Grow 0 t.steps
  pub small : All (λ (s : ℕ × ℕ). (s.0 ≤ NUMBER_WORD_MOST) × (s.1 ≤ POWER_MOST)) t.steps
  pub within : IfSome limit (λ most. All (λ (s : ℕ × ℕ). s.1 ≤ most) t.steps)

pub record IsSoundJob (job : JobValue) : Type 0 where
  pub tests : All (IsSoundTest job.power) job.tests
  pub short : sum_by (λ (t : TestValue). t.cycles) job.tests ≤ 10 ^ 18
  pub in_range : All (λ (p : ℕ × ℕ). (p.0 < length job.tests) × (p.1 < length job.tests)) job.before
  -- no cycle: each precedence goes from a test of a lower rank to one of a greater rank
  pub acyclic : (rank : ℕ → ℕ) × ((a b : ℕ) → Precedes job a b → rank a < rank b)
