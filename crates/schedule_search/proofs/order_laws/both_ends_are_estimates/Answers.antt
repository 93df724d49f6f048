use Rattle.std.proofs.Common.{◌+◌, refl}
use Rattle.resource_table.specs.Jobs.{cycles_of}
use Rattle.resource_table.specs.Schedules.{ready_at}
use Rattle.schedule_search.proofs.Estimates.{now_least, now_most, ready_most}
use Rattle.schedule_search.proofs.order_laws.both_ends_are_estimates.Goals as goal

pub returns-clause-now_least : goal.returns-clause-now_least
returns-clause-now_least c = λ t test start earliest. now_least t test (start + cycles_of t.job test) (start, earliest, refl)

pub returns-clause-now_most : goal.returns-clause-now_most
returns-clause-now_most c = λ t test start earliest. now_most t test (start + cycles_of t.job test) (start, earliest, refl)

pub returns-clause-ready_most : goal.returns-clause-ready_most
returns-clause-ready_most c = λ t test. ready_most t test (ready_at t.job t.placed test + cycles_of t.job test) refl
