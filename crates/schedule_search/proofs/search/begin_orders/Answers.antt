use Rattle.std.proofs.Common.{◌≡◌, length, arith}
use Rattle.resource_table.specs.Jobs.{job_value}
use Rattle.schedule_search.proofs.PlacedOrders.{first_topological}
use Rattle.schedule_search.proofs.Counting.{topological_long}
use Rattle.schedule_search.proofs.search.begin_orders.Goals as goal

pub copy_to-requires : goal.copy_to-requires
copy_to-requires g c =
    let long : length c.args.first.now ≡ length (job_value c.args.job.now).tests = topological_long (job_value c.args.job.now) c.args.first.now (first_topological (job_value c.args.job.now) c.args.first.now c.requires.first) in
    omega (arith, long, c.requires.room)

pub list_starts-progress-requires-clause-room : goal.list_starts-progress-requires-clause-room
list_starts-progress-requires-clause-room g c =
    let long : length c.args.first.now ≡ length (job_value c.args.job.now).tests = topological_long (job_value c.args.job.now) c.args.first.now (first_topological (job_value c.args.job.now) c.args.first.now c.requires.first) in
    omega (arith, long, c.requires.starts_room)
