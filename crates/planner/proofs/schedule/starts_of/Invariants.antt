use Rattle.resource_table.specs.Jobs.{job_value}
use Rattle.planner.proofs.Scheduled.{AreFirstStarts}
use Rattle.planner.proofs.schedule.starts_of.Given as goal

abbrev pub invariant-loop-place : goal.invariant-loop-place
invariant-loop-place l = AreFirstStarts (job_value l.job) l.order l.starts l.place l.listed.items
