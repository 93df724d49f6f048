-- What a search for a better plan goes by.
use Rattle.std.specs.Prelude.{◌≡◌, ℕ, length}
use Rattle.soc_model.specs.Chips.{SocValue, live_tests}
use Rattle.resource_table.specs.Jobs.{job_value, IsSoundJob}
use Rattle.arch_schedule.specs.Problems.{IsProblem}
use Rattle.plan_improver.specs.declared.improving.SearchBasis.{SearchBasis}

-- the wrappers of a chip's modules, and a job of its live tests with their cycles
pub record IsSearchBasis (soc : SocValue) (wires : ℕ) (g : SearchBasis) : Type 0 where
  pub chip : g.packed.soc ≡ soc
  pub as_wide : g.packed.wires ≡ wires
  pub job : IsSoundJob (job_value g.job)
  pub tests : length (job_value g.job).tests ≡ length (live_tests soc)
  pub problem : IsProblem (job_value g.job) g.problem
