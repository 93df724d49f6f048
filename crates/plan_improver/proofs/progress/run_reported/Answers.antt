use Rattle.std.proofs.Common.{rules, ◌-◌, refl}
use Rattle.commands.proofs.Reporting.{begun, reported_more}
use Rattle.plan_improver.specs.Reports.{MayPass}
use Rattle.plan_improver.proofs.progress.run_reported.Goals as goal

pub loop-left-init : goal.loop-left-init
loop-left-init g c = record {
  never_worse = search rules;
  faults = search rules;
  some = search rules;
  within = search rules;
  part_is = search rules;
  reported = begun MayPass c.args.tries c.div_ceil-part.result (g.T.Sink.written c.args.progress.now);
}

pub loop-left-preserved : goal.loop-left-preserved
loop-left-preserved g c = record {
  never_worse = search rules;
  faults = search rules;
  some = search rules;
  within = search rules;
  part_is = search rules;
  reported =
      reported_more MayPass c.args.tries c.div_ceil-part.result c.loop-left.left (c.loop-left.left - c.min-now.result)
      (c.args.tries - (c.loop-left.left - c.min-now.result)) (g.T.Sink.written c.args.progress.now) (g.T.Sink.written c.loop-left.progress)
      (g.T.Sink.written c.report_tries.new.progress) c.loop-left.invariant.reported (search rules) refl c.report_tries.ensures.reported;
}
