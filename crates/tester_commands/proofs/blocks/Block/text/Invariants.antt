use Rattle.std.proofs.Common.{◌≤◌, take}
use Rattle.tester_commands.specs.Sending.{HasRoom, HasSent, waiting}
use Rattle.tester_commands.proofs.blocks.Block.text.Given as goal

abbrev pub invariant-loop-b : goal.invariant-loop-b
invariant-loop-b g l = record {
  room : HasRoom l.self;
  faults : g.K.Sink.faults l.initial.out ≤ g.K.Sink.faults l.out;
  sent : HasSent g.K.Sink.is_put g.K.Sink.written l.initial.out l.out (waiting l.initial.self) (take l.b-index l.text) (waiting l.self);
}
