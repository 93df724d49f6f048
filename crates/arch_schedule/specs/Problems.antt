-- What a schedule goes by, for a job of tests.
use Rattle.std.specs.Prelude.{◌≡◌, ℕ, ◌+◌, ◌<◌, ◌≤◌, length, map, IfSome}
use Rattle.std.specs.List.{All}
use Rattle.plan_model.specs.declared.TheConstants.{WIRES_MOST}
use Rattle.resource_table.specs.Jobs.{JobValue}
use Rattle.resource_table.specs.Befores.{listed, AreListed}
use Rattle.arch_schedule.specs.declared.problem.TestTimes.{TestTimes}
use Rattle.arch_schedule.specs.declared.problem.TimedTests.{TimedTests}

-- the cycles of a test on up to `wires` wires, and its module, which is one of `modules` modules
pub record IsTimed (wires modules : ℕ) (t : TestTimes) : Type 0 where
  pub long : length t.cycles.items ≡ wires + 1
  pub within : IfSome t.«module» (λ m. m < modules)

-- it has the tests of a job, and what precedes them there
pub record IsProblem (job : JobValue) (p : TimedTests) : Type 0 where
  pub some_wires : 1 ≤ p.wires
  pub few_wires : p.wires ≤ WIRES_MOST
  pub tests : length p.tests.items ≡ length job.tests
  pub timed : All (IsTimed p.wires (length p.modules.items)) p.tests.items
  pub before : AreListed job (map listed p.before.items)
