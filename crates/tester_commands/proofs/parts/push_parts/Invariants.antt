use Rattle.std.proofs.Common.{◌≡◌, ◌++◌, drop, map}
use Rattle.soc_model.specs.Chips.{module_value}
use Rattle.tester_commands.specs.DataParts.{part_value, parts_in}
use Rattle.tester_commands.proofs.parts.push_parts.Given as goal

abbrev pub invariant-loop-at : goal.invariant-loop-at
invariant-loop-at l =
    map part_value l.parts.items ++ parts_in l.seed l.place (module_value l.«module») l.at (drop l.at l.«module».tests.items)
    ≡ map part_value l.initial.parts.items ++ parts_in l.seed l.place (module_value l.«module») 0 l.«module».tests.items
