-- What a search goes by.
use Rattle.resource_table.specs.Jobs.{job_value, IsSoundJob}
use Rattle.arch_search.specs.declared.setting.SearchSetting.{SearchSetting}
use Rattle.arch_schedule.specs.Problems.{IsProblem}
use Rattle.arch_schedule.specs.Times.{AreTimesOf}

-- a problem of the tests of a job, with the cycles of its modules
pub record IsSetting (s : SearchSetting) : Type 0 where
  pub sound : IsSoundJob (job_value s.job.now)
  pub problem : IsProblem (job_value s.job.now) s.problem.now
  pub times : AreTimesOf s.problem.now s.times
