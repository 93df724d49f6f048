use Rattle.std.proofs.Common.{◌≡◌, ◌≤◌}
use Rattle.std.specs.Int.{div_ceil}
use Rattle.commands.specs.Progress.{ReportsDownTo}
use Rattle.plan_improver.specs.Reports.{MayPass}
use Rattle.plan_improver.proofs.progress.run_reported.Given as goal

abbrev pub invariant-loop-left : goal.invariant-loop-left
invariant-loop-left g l = record {
  never_worse : l.search ≤ l.initial.search;
  faults : g.T.Sink.faults l.initial.progress ≤ g.T.Sink.faults l.progress;
  some : 1 ≤ l.part;
  within : l.left ≤ l.tries;
  part_is : l.part ≡ div_ceil l.tries 10;
  reported : ReportsDownTo MayPass l.tries l.part (g.T.Sink.written l.initial.progress) l.left (g.T.Sink.written l.progress);
}

abbrev pub decreases-loop-left : goal.decreases-loop-left
decreases-loop-left g l = l.left
