use Rattle.std.proofs.Common.{◌≤◌}
use Rattle.tester_commands.specs.DataParts.{made_lines}
use Rattle.tester_commands.specs.Sending.{HasRoom, HasSent, waiting}
use Rattle.tester_commands.proofs.blocks.Block.patterns.Given as goal

abbrev pub invariant-loop-done : goal.invariant-loop-done
invariant-loop-done g l = record {
  room : HasRoom l.self;
  faults : g.K.Sink.faults l.initial.out ≤ g.K.Sink.faults l.out;
  sent : HasSent g.K.Sink.is_put g.K.Sink.written l.initial.out l.out (waiting l.initial.self) (made_lines l.base l.wanted 1 l.done) (waiting l.self);
}
