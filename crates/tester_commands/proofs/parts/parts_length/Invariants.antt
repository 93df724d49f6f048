use Rattle.std.proofs.Common.{◌≡◌, ◌*◌, ◌^◌, ◌≤◌, map, take, sum_by}
use Rattle.tester_commands.specs.DataParts.{part_length, part_value}
use Rattle.tester_commands.proofs.parts.parts_length.Given as goal

abbrev pub invariant-loop-part : goal.invariant-loop-part
invariant-loop-part l = record {
  is : l.sum ≡ sum_by part_length (map part_value (take l.part-index l.parts));
  small : l.sum ≤ l.part-index * 10 ^ 30;
}
