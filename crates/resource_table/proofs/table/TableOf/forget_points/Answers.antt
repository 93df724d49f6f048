use Rattle.resource_table.{specs.Jobs.job_value, proofs.KeptMarks.without_last}
use Rattle.resource_table.proofs.table.TableOf.forget_points.Goals as goal

pub invariant_of-self : goal.invariant_of-self
invariant_of-self g c = (
  c.self.invariant.0,
  c.self.invariant.1,
  without_last (job_value c.self.inside.own) c.self.inside.trail c.self.inside.draws c.self.inside.points c.drop_last_unused.new.points c.self.invariant.2 c.drop_last_unused.ensures.items c.drop_last_unused.ensures.capacity,
  c.self.invariant.3,
  c.self.invariant.4,
)
