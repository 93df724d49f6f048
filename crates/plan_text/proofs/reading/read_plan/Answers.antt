use Rattle.plan_model.specs.Views.{plan_value}
use Rattle.plan_text.proofs.ReadPlans.{reads_plans}
use Rattle.plan_text.proofs.Exact.{said_in_range, not_read}
use Rattle.plan_text.proofs.reading.read_plan.Goals as goal

pub read_by-requires-clause-reads : goal.read_by-requires-clause-reads
read_by-requires-clause-reads c κs = reads_plans

pub returns-in-Ok-read_by : goal.returns-in-Ok-read_by
returns-in-Ok-read_by c = said_in_range c.args.bytes.now (plan_value c.in-Ok-read_by.plan) c.in-Ok-read_by.ensures

pub returns-in-Err-read_by : goal.returns-in-Err-read_by
returns-in-Err-read_by c = not_read c.args.bytes.now c.in-Err-read_by.fault c.in-Err-read_by.ensures
