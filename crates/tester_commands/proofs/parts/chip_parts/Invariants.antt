use Rattle.std.proofs.Common.{◌≡◌, ◌++◌, drop, map}
use Rattle.soc_model.specs.Chips.{soc_value}
use Rattle.tester_commands.specs.DataParts.{part_value, parts_from}
use Rattle.tester_commands.proofs.parts.chip_parts.Given as goal

abbrev pub invariant-loop-place : goal.invariant-loop-place
invariant-loop-place l =
    map part_value l.parts.items ++ parts_from l.seed l.place (drop l.place (soc_value l.soc).modules) ≡ parts_from l.seed 0 (soc_value l.soc).modules
