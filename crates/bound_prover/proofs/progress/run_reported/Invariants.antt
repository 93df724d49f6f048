use Rattle.std.proofs.Common.{◌≡◌, ◌≤◌}
use Rattle.std.specs.Int.{div_ceil}
use Rattle.commands.specs.Progress.{ReportsDownTo}
use Rattle.bound_prover.specs.Reports.{MayPass}
use Rattle.bound_prover.proofs.progress.run_reported.Given as goal

abbrev pub invariant-loop-left : goal.invariant-loop-left
invariant-loop-left g l = record {
  faults : g.T.Sink.faults l.initial.progress ≤ g.T.Sink.faults l.progress;
  some : 1 ≤ l.part;
  within : l.left ≤ l.nodes;
  part_is : l.part ≡ div_ceil l.nodes 10;
  reported : ReportsDownTo MayPass l.nodes l.part (g.T.Sink.written l.initial.progress) l.left (g.T.Sink.written l.progress);
}

abbrev pub decreases-loop-left : goal.decreases-loop-left
decreases-loop-left g l = l.left
