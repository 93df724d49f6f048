use Rattle.std.proofs.Common.{length}
use Rattle.resource_table.specs.Jobs.{job_value}
use Rattle.schedule_search.proofs.Explorings.{none_left}
use Rattle.schedule_search.proofs.Lateness.{read_none}
use Rattle.schedule_search.proofs.walk.seen_beside.Goals as goal

pub returns-clause-precedes_none : goal.returns-clause-precedes_none
returns-clause-precedes_none c =
    read_none (job_value c.args.job.now) c.args.tries.now.after.items c.deref.result.now c.args.test c.earlier_than.result.now c.requires.tries.after c.requires.in_job c.deref.ensures.value c.earlier_than.ensures
    (none_left (length c.earlier_than.result.now) c.is_empty.result c.is_empty.ensures c.if-not-is_empty.false)
