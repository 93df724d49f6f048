use Rattle.std.proofs.Common.{sym, subst, map}
use Rattle.plan_model.specs.Views.{bus_value}
use Rattle.resource_table.specs.Jobs.{IsSoundJob}
use Rattle.planner.specs.Sources.{chip_of, limits_of}
use Rattle.planner.proofs.SoundJobs.{job_sound}
use Rattle.planner.proofs.job.job_at.Goals as goal

pub returns-clause-job : goal.returns-clause-job
returns-clause-job c = rw (c.in_ok-tests.ensures, c.in_ok-before.ensures, c.deref.ensures.value, c.requires.resolved.precedences)

pub returns-clause-sound : goal.returns-clause-sound
returns-clause-sound c = λ limited.
    let source = c.args.parts.now.source.now in
    subst IsSoundJob (sym (returns-clause-job c)) (job_sound (chip_of source) (limits_of source) (map bus_value source.buses.now) source.wrappers.now c.requires.sound limited c.requires.wrapped.1 c.requires.proper)
