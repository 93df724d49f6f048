use Rattle.std.proofs.Common.{arith}
use Rattle.std.proofs.lemmas.List.{length-map}
use Rattle.resource_table.specs.Jobs.{job_value, test_value}
use Rattle.schedule_search.proofs.Missing.{range_is, followers_are}
use Rattle.schedule_search.proofs.tries.followers.Goals as goal

pub all_after-requires : goal.all_after-requires
all_after-requires c =
    range_is (job_value c.args.job.now) c.deref.result.now c.len.result c.requires.in_range c.deref.ensures.value (omega (arith, c.len.ensures, length-map c.args.job.now.tests.items test_value, c.args.job.now.tests.ok.0))

pub returns : goal.returns
returns c =
    followers_are (job_value c.args.job.now) c.in_ok-lists.lists.items c.len.result c.deref.result.now (omega (arith, c.len.ensures, length-map c.args.job.now.tests.items test_value, c.args.job.now.tests.ok.0)) c.deref.ensures.value c.in_ok-lists.ensures.long c.in_ok-lists.ensures.lists
