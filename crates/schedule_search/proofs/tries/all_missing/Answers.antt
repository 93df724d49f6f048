use Rattle.std.proofs.Common.{arith}
use Rattle.std.proofs.lemmas.List.{length-map}
use Rattle.resource_table.specs.Jobs.{job_value, test_value}
use Rattle.schedule_search.proofs.Missing.{range_is, missing_are}
use Rattle.schedule_search.proofs.tries.all_missing.Goals as goal

pub count_before-requires : goal.count_before-requires
count_before-requires c =
    range_is (job_value c.args.job.now) c.deref.result.now c.len.result c.requires.in_range c.deref.ensures.value (omega (arith, c.len.ensures, length-map c.args.job.now.tests.items test_value, c.args.job.now.tests.ok.0))

pub returns : goal.returns
returns c =
    missing_are (job_value c.args.job.now) c.in_ok-missing.missing.items c.len.result c.deref.result.now (omega (arith, c.len.ensures, length-map c.args.job.now.tests.items test_value, c.args.job.now.tests.ok.0)) c.deref.ensures.value c.in_ok-missing.ensures.long c.in_ok-missing.ensures.counts
