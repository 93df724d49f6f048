use Rattle.std.proofs.Common.{rules, ◌-◌, refl}
use Rattle.commands.proofs.Reporting.{begun, reported_more}
use Rattle.bound_prover.specs.Reports.{MayPass}
use Rattle.bound_prover.proofs.progress.run_reported.Goals as goal

pub loop-left-init : goal.loop-left-init
loop-left-init g c = record {
  faults = search rules;
  some = search rules;
  within = search rules;
  part_is = search rules;
  reported = begun MayPass c.args.nodes c.div_ceil-part.result (g.T.Sink.written c.args.progress.now);
}

pub loop-left-preserved : goal.loop-left-preserved
loop-left-preserved g c = record {
  faults = search rules;
  some = search rules;
  within = search rules;
  part_is = search rules;
  reported =
      reported_more MayPass c.args.nodes c.div_ceil-part.result c.loop-left.left (c.loop-left.left - c.min-now.result)
      (c.args.nodes - (c.loop-left.left - c.min-now.result)) (g.T.Sink.written c.args.progress.now) (g.T.Sink.written c.loop-left.progress)
      (g.T.Sink.written c.go_on_reported.new.progress) c.loop-left.invariant.reported (search rules) refl c.go_on_reported.ensures.reported;
}
