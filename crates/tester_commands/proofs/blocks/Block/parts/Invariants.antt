use Rattle.std.proofs.Common.{◌≤◌, map, take}
use Rattle.tester_commands.specs.DataParts.{part_value, parts_text}
use Rattle.tester_commands.specs.Sending.{HasRoom, HasSent, waiting}
use Rattle.tester_commands.proofs.blocks.Block.parts.Given as goal

abbrev pub invariant-loop-part : goal.invariant-loop-part
invariant-loop-part g l = record {
  room : HasRoom l.self;
  faults : g.K.Sink.faults l.initial.out ≤ g.K.Sink.faults l.out;
  sent : HasSent g.K.Sink.is_put g.K.Sink.written l.initial.out l.out (waiting l.initial.self) (parts_text (map part_value (take l.part-index l.parts))) (waiting l.self);
}
