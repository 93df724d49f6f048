use Rattle.std.proofs.Common.{◌≡◌, ◌++◌, ◌∷◌, [], get_or, rules}
use Rattle.resource_table.specs.Jobs.{job_value, test_at}
use Rattle.planner.proofs.Scheduled.{starts_more, id_read}
use Rattle.planner.proofs.schedule.starts_of.Goals as goal

pub loop-place-preserved : goal.loop-place-preserved
loop-place-preserved c =
    let pushed : c.push.new.to.items ≡ c.loop-place.listed.items ++ (c.index.result.now.id, get_or c.args.starts.now c.loop-place.place 0) ∷ [] = search rules in
    let own : c.index.result.now.id ≡ (test_at (job_value c.args.job.now) (get_or c.args.order.now c.loop-place.place 0)).id = id_read c.args.job.now.tests.items (get_or c.args.order.now c.loop-place.place 0) c.index.result.now (c.requires.inside c.loop-place.place 0 c.loop-place-test.true) c.index.ensures in
    starts_more (job_value c.args.job.now) c.args.order.now c.args.starts.now c.loop-place.place c.loop-place.listed.items c.push.new.to.items c.index.result.now.id c.requires.long c.loop-place-test.true c.loop-place.invariant pushed own
