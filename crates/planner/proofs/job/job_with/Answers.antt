use Rattle.planner.proofs.job.job_with.Goals as goal

pub job_resolved-requires-clause-wrapped : goal.job_resolved-requires-clause-wrapped
job_resolved-requires-clause-wrapped c = rw (← c.problem.view_is) at c.requires.wrapped

pub job_resolved-requires-clause-proper : goal.job_resolved-requires-clause-proper
job_resolved-requires-clause-proper c = rw (← c.problem.view_is) at c.requires.proper

pub returns-clause-job : goal.returns-clause-job
returns-clause-job c = rw (← c.problem.view_is) c.in_ok-job.ensures.job

pub returns-clause-sound : goal.returns-clause-sound
returns-clause-sound c = c.in_ok-job.ensures.sound c.problem.invariant.bounds
