use Rattle.std.proofs.Common.{◌≡◌, ◌-◌, ◌≤◌, ◌<◌, map}
use Rattle.std.specs.List.{range_with_len}
use Rattle.vector_lines.specs.Numbers.{line_value}
use Rattle.tester_commands.specs.DataParts.{made_byte}
use Rattle.tester_commands.specs.Sending.{HasRoom, HasSent, waiting}
use Rattle.tester_commands.proofs.blocks.Block.bits.Given as goal

abbrev pub invariant-loop-done : goal.invariant-loop-done
invariant-loop-done g l = record {
  room : HasRoom l.self;
  faults : g.K.Sink.faults l.initial.out ≤ g.K.Sink.faults l.out;
  within : l.done ≤ l.count;
  small : l.value < 997;
  value : l.value ≡ line_value l.line l.done;
  sent : HasSent g.K.Sink.is_put g.K.Sink.written l.initial.out l.out (waiting l.initial.self) (map (made_byte l.line) (range_with_len 0 l.done)) (waiting l.self);
}

abbrev pub decreases-loop-done : goal.decreases-loop-done
decreases-loop-done g l = l.count - l.done
