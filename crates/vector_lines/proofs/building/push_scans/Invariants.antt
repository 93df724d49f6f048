use Rattle.std.proofs.Common.{◌≡◌, ◌++◌, take, All, flat_map}
use Rattle.vector_lines.specs.Building.{flop_numbers}
use Rattle.vector_lines.specs.Numbers.{all_numbers, IsFull}
use Rattle.vector_lines.proofs.building.push_scans.Given as goal

abbrev pub invariant-loop-scan : goal.invariant-loop-scan
invariant-loop-scan l = record {
  full : All IsFull l.runs.items;
  numbers : all_numbers l.runs.items ≡ all_numbers l.initial.runs.items ++ flat_map (flop_numbers l.base l.layout.lengths.items) (take l.scan-index l.scans);
}
